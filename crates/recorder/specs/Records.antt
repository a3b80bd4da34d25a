-- What happened: what was submitted, what was answered, and which commands took effect.
use Rattle.std.specs.Prelude.{◌≡◌, true, false, if◌then◌else◌, ℕ, List, [], ◌∷◌, ◌++◌, ◌-◌, length, take, drop, Option, option_map}
use Rattle.std.specs.List.{filter_map}
use Rattle.object.specs.Lists.{In}
use Rattle.object.specs.Keys.{stands, found, KeysOnce}
use Rattle.object.specs.Answers.{answered_key, AnswersOnce}
use Rattle.object.specs.Happenings.{Happenings, IsTimeline, SubmittedOnce, is_submitted, nothing, submitted_key}
use Rattle.object.specs.declared.command.Answer.{Answer}
use Rattle.object.specs.declared.command.Command.{Command}
use Rattle.object.specs.declared.command.Key.{Key}
use Rattle.object.specs.declared.command.Submission.{Submission}
use Rattle.recorder.specs.Firsts.{firsts}

-- what was submitted and answered, and the keys of the commands that took effect, in the order in which they did
pub record Record (Op Reply : Type 0) : Type 0 where
  pub happenings : Happenings Op Reply
  pub order : List Key

-- the record of these lists
abbrev pub record_of : {Op Reply : Type 0} → List (Submission Op) → List (Answer Reply) → List Key → Record Op Reply
record_of submitted answers order = record { happenings = record { submitted = submitted; answers = answers }; order = order }

-- nothing happened
abbrev pub blank : {Op Reply : Type 0} → Record Op Reply
blank = record { happenings = nothing; order = [] }

-- a key by itself
abbrev pub own_key : Key → Key
own_key k = k

-- of these answers, each to a key that has none yet is given
abbrev pub with_first_answers : {Op Reply : Type 0} → List (Answer Reply) → Record Op Reply → Record Op Reply
with_first_answers given r =
    record r { happenings = record r.happenings { answers = firsts answered_key (r.happenings.answers ++ given) } }

-- the command of the key takes effect, unless it did
abbrev pub with_place : {Op Reply : Type 0} → Key → Record Op Reply → Record Op Reply
with_place key r = if stands own_key key r.order then r else record r { order = r.order ++ key ∷ [] }

-- the command that was submitted under the key
abbrev pub command_under : {Op : Type 0} → List (Submission Op) → Key → Option (Command Op)
command_under submitted key = option_map (λ s. s.command) (found submitted_key key submitted)

-- the commands that took effect, in their order, but for so many of the first ones
abbrev pub commands_from : {Op Reply : Type 0} → ℕ → Record Op Reply → List (Command Op)
commands_from count r = filter_map (command_under r.happenings.submitted) (drop count r.order)

-- the last submission is taken back
abbrev pub without_last_submission : {Op Reply : Type 0} → Record Op Reply → Record Op Reply
without_last_submission r =
    let submitted = r.happenings.submitted in
    record r { happenings = record r.happenings { submitted = take (length submitted - 1) submitted } }

-- there is a last submission, and its key has no answer and no place
pub record EndsOpen {Op Reply : Type 0} (r : Record Op Reply) : Type 0 where
  pub before : List (Submission Op)
  pub last : Submission Op
  pub ends : r.happenings.submitted ≡ before ++ last ∷ []
  pub unanswered : stands answered_key last.command.key r.happenings.answers ≡ false
  pub unplaced : stands own_key last.command.key r.order ≡ false

-- Submissions and answers are one list in time. No key is submitted, answered or placed twice, and none is answered or
-- placed that was not submitted.
pub record IsRecord {Op Reply : Type 0} (r : Record Op Reply) : Type 0 where
  pub timeline : IsTimeline r.happenings
  pub submitted_once : SubmittedOnce r.happenings.submitted
  pub answered_once : AnswersOnce r.happenings.answers
  pub placed_once : KeysOnce own_key r.order
  pub answered_known : (a : Answer Reply) → In a r.happenings.answers → is_submitted a.to r.happenings.submitted ≡ true
  pub placed_known : (k : Key) → In k r.order → is_submitted k r.happenings.submitted ≡ true
