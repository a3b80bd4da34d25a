-- Events that bring nothing.
use Rattle.std.specs.Prelude.{◌≡◌, Some, slice_get}
use Rattle.object.specs.declared.command.Command.{Command}
use Rattle.object.specs.Objects.{Rules}
use Rattle.ballot.specs.declared.letter.Letter.{Letter}
use Rattle.node.specs.Deeds.{ComesToNothing}
use Rattle.node.specs.Receiving.{SaysNothingNew}
use Rattle.node.specs.declared.deed.Deed.TheVariants as deeds
use Rattle.agreement.specs.declared.event.Event.{Event}
use Rattle.agreement.specs.declared.event.Event.TheVariants.{Submit, Deliver, Wake, Nudge, Propose, Perform, Restart}
use Rattle.agreement.specs.Nodes.{Cluster, node}

-- the node has nothing to do, or the letter says nothing new to its receiver
abbrev pub BringsNothing : {O Op Reply : Type 0} → Rules O Op Reply → Cluster (Command Op) → Event Op → Type 0
BringsNothing rules k (Submit n c) = ComesToNothing rules (node k n) (deeds.Request c)
BringsNothing {O} {Op} rules k (Deliver i) =
    (l : Letter (Command Op)) → slice_get k.letters i ≡ Some l → SaysNothingNew (node k l.to) l.body
BringsNothing rules k (Wake n) = ComesToNothing rules (node k n) deeds.Wake
BringsNothing rules k (Nudge n) = ComesToNothing rules (node k n) deeds.Nudge
BringsNothing rules k (Propose n) = ComesToNothing rules (node k n) deeds.Propose
BringsNothing rules k (Perform n) = ComesToNothing rules (node k n) deeds.Perform
BringsNothing rules k (Restart n) = ComesToNothing rules (node k n) deeds.Restart
