-- What clients and clocks saw.
use Rattle.std.specs.Prelude.{◌≤◌, ⊤, Bool, List, [], ◌∷◌, ◌++◌, length, if◌then◌else◌}
use Rattle.object.specs.Lists.{In}
use Rattle.object.specs.Keys.{stands, KeysOnce}
use Rattle.object.specs.declared.command.Answer.{Answer}
use Rattle.object.specs.declared.command.Command.{Command}
use Rattle.object.specs.declared.command.Key.{Key}
use Rattle.object.specs.declared.command.Submission.{Submission}

-- The first submission of each key, with the count of answers given before it, and the answers that were given. The two
-- lists together are what happened, in order.
pub record Happenings (Op Reply : Type 0) : Type 0 where
  pub submitted : List (Submission Op)
  pub answers : List (Answer Reply)

-- nothing happened
abbrev pub nothing : {Op Reply : Type 0} → Happenings Op Reply
nothing = record { submitted = []; answers = [] }

-- the key that was submitted
abbrev pub submitted_key : {Op : Type 0} → Submission Op → Key
submitted_key s = s.command.key

-- the key was submitted
abbrev pub is_submitted : {Op : Type 0} → Key → List (Submission Op) → Bool
is_submitted key submitted = stands submitted_key key submitted

-- the command is submitted after all that happened so far, unless its key was submitted before
abbrev pub with_submission : {Op Reply : Type 0} → Command Op → Happenings Op Reply → Happenings Op Reply
with_submission c h =
    if is_submitted c.key h.submitted
    then h
    else record h { submitted = h.submitted ++ (record { command = c; after = length h.answers } ∷ []) }

-- these answers are given
abbrev pub with_answers : {Op Reply : Type 0} → List (Answer Reply) → Happenings Op Reply → Happenings Op Reply
with_answers given h = record h { answers = h.answers ++ given }

-- no key is submitted twice
abbrev pub SubmittedOnce : {Op : Type 0} → List (Submission Op) → Type 0
SubmittedOnce submitted = KeysOnce submitted_key submitted

-- no submission comes before an earlier one
abbrev pub ComeInOrder : {Op : Type 0} → List (Submission Op) → Type 0
ComeInOrder [] = ⊤
ComeInOrder {Op} (s ∷ more) = ((t : Submission Op) → In t more → s.after ≤ t.after) × ComeInOrder more

-- Submissions and answers are one list in time: the submissions stand in the order in which they came, and none comes
-- after more answers than were given.
pub record IsTimeline {Op Reply : Type 0} (h : Happenings Op Reply) : Type 0 where
  pub ordered : ComeInOrder h.submitted
  pub within : (s : Submission Op) → In s h.submitted → s.after ≤ length h.answers
