-- A world has one order, for which its happenings are legal, and a later world goes on from an earlier one.
use Rattle.std.specs.Prelude.{◌≡◌, List}
use Rattle.object.specs.declared.command.Command.{Command}
use Rattle.object.specs.Objects.{Rules}
use Rattle.agreement.specs.Nodes.{Cluster}
use Rattle.agreement.specs.Worlds.{World}
use Rattle.agreement.specs.Chosen.{IsOrder}
use Rattle.object.specs.Lists.{IsBeginning}
use Rattle.object.specs.Legal.{GoesOn, IsLegal}

-- there is an order and no other, and the happenings are legal for it
pub record HasOneOrder {O Op Reply : Type 0} (rules : Rules O Op Reply) (w : World Op Reply) : Type 0 where
  pub order : List (Command Op)
  pub is : IsOrder w.cluster order
  pub only : (other : List (Command Op)) → IsOrder w.cluster other → other ≡ order
  pub legal : IsLegal rules w.happenings order

-- what the object promises of all commands holds of the order
abbrev pub KeepsPromise : {Op : Type 0} → (List (Command Op) → Type 0) → Cluster (Command Op) → Type 0
KeepsPromise {Op} promise k = (order : List (Command Op)) → IsOrder k order → promise order

-- the happenings go on, and so does the order
pub record GoesOnFrom {Op Reply : Type 0} (earlier later : World Op Reply) : Type 0 where
  pub happenings : GoesOn earlier.happenings later.happenings
  pub order : (cs ds : List (Command Op)) → IsOrder earlier.cluster cs → IsOrder later.cluster ds → IsBeginning cs ds
