-- What every world agrees on, and how a later one goes on from it.
use Rattle.std.specs.Prelude.{List}
use Rattle.object.specs.Objects.{Rules}
use Rattle.object.specs.declared.command.Command.{Command}
use Rattle.agreement.specs.Agreements.{HasOneCommand, KeepsChosen, ChoosesOne, DecidesChosen, StaysChosen}
use Rattle.agreement.specs.OneOrder.{HasOneOrder, KeepsPromise, GoesOnFrom}
use Rattle.agreement.specs.Told.{IsAnswered}
use Rattle.agreement.specs.Worlds.{World}

-- No ballot and slot has two commands, what is chosen stays in later ballots, no slot has two chosen commands, and each
-- Decision names one. There is one order, for which what happened is legal; what the object promises holds of it; and what was
-- performed is answered.
pub record HasAgreement {O Op Reply : Type 0} (rules : Rules O Op Reply) (promise : List (Command Op) → Type 0) (w : World Op Reply) : Type 0 where
  pub one_command : HasOneCommand w.cluster
  pub keeps_chosen : KeepsChosen w.cluster
  pub chooses_one : ChoosesOne w.cluster
  pub decides_chosen : DecidesChosen w.cluster
  pub one_order : HasOneOrder rules w
  pub promised : KeepsPromise promise w.cluster
  pub answered : IsAnswered rules w

-- What was chosen stays chosen, and what happened goes on, and so does the order.
pub record Continues {Op Reply : Type 0} (old new : World Op Reply) : Type 0 where
  pub stays : StaysChosen old.cluster new.cluster
  pub later : GoesOnFrom old new
