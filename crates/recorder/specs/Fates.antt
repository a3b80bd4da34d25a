-- How a record is kept: what became of each submission, and room for what may still come.
use Rattle.std.specs.Prelude.{◌≡◌, ◌≤◌, ℕ, List, length, map}
use Rattle.object.specs.Keys.{stands, place_of}
use Rattle.object.specs.Answers.{answered_key}
use Rattle.object.specs.Happenings.{submitted_key}
use Rattle.object.specs.declared.command.Key.{Key}
use Rattle.recorder.specs.Records.{Record, IsRecord, own_key}
use Rattle.recorder.specs.declared.fate.Fate.{Fate}

-- what became of the command of the key: the place of its answer, and whether it took effect
abbrev pub fate_at : {Op Reply : Type 0} → Record Op Reply → Key → Fate
fate_at r key = record { answer = place_of answered_key key r.happenings.answers; is_placed = stands own_key key r.order }

-- the fates are those of the submissions, and there is room for an answer and a place for each
pub record IsRecorded {Op Reply : Type 0} (r : Record Op Reply) (fates : List Fate) (answers_room order_room : ℕ) : Type 0 where
  pub recorded : IsRecord r
  pub fated : fates ≡ map (λ s. fate_at r (submitted_key s)) r.happenings.submitted
  pub answers_fit : length r.happenings.submitted ≤ answers_room
  pub places_fit : length r.happenings.submitted ≤ order_room
