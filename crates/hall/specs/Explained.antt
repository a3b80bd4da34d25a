-- That one order explains what happened, and that a record goes on from an earlier one.
use Rattle.std.specs.Prelude.{◌≡◌, ℕ, List, map}
use Rattle.object.specs.declared.command.Answer.{Answer}
use Rattle.object.specs.declared.command.Command.{Command}
use Rattle.object.specs.Legal.{IsLegal, IsGivenAt}
use Rattle.object.specs.Lists.{In, IsBeginning}
use Rattle.object.specs.Objects.{Rules}
use Rattle.recorder.specs.Records.{Record}

-- These are the commands whose keys the record has in their order: what happened is legal for them, no answer that they
-- bring is missing, and what the object promises of all commands holds of them.
pub record IsExplained {O Op Reply : Type 0} (rules : Rules O Op Reply) (promise : List (Command Op) → Type 0) (r : Record Op Reply) : Type 0 where
  pub order : List (Command Op)
  pub keys : r.order ≡ map (λ c. c.key) order
  pub legal : IsLegal rules r.happenings order
  pub told : (place : ℕ) (a : Answer Reply) → IsGivenAt rules order place a → In a r.happenings.answers
  pub promised : promise order

-- nothing is taken back: the submissions, the answers and the order are beginnings of the later ones
pub record IsBegun {Op Reply : Type 0} (earlier later : Record Op Reply) : Type 0 where
  pub submitted : IsBeginning earlier.happenings.submitted later.happenings.submitted
  pub answers : IsBeginning earlier.happenings.answers later.happenings.answers
  pub order : IsBeginning earlier.order later.order
