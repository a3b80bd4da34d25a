-- Which commands took effect, in which order, and which one does with an event.
use Rattle.std.specs.Prelude.{◌≡◌, ℕ, Bool, true, false, List, Option, None, Some}
use Rattle.object.specs.Replays.{kept}
use Rattle.object.specs.declared.command.Command.{Command}
use Rattle.object.specs.declared.command.Key.{Key}
use Rattle.slot_log.specs.Decisions.{next_decided}
use Rattle.node.specs.Deeds.{outcome_of}
use Rattle.node.specs.Outcomes.{key_placed}
use Rattle.node.specs.declared.deed.Deed.{Deed}
use Rattle.node.specs.declared.deed.Deed.TheVariants as deeds
use Rattle.network.specs.Networks.{node_of}
use Rattle.agreement.specs.Nodes.{node}
use Rattle.agreement.specs.Reached.{IsReached}
use Rattle.agreement.specs.Worlds.{World}
use Rattle.agreement.specs.declared.event.Event.{Event}
use Rattle.agreement.specs.declared.event.Event.TheVariants.{Submit, Deliver, Wake, Nudge, Propose, Perform, Restart}
use Rattle.forgetting_hall.specs.Rests.{HallRest, outcome_rest}

-- these took effect in the slots from 1 to the reach, in this order: of the commands chosen there, the kept ones
abbrev pub TookEffect : {Op Reply : Type 0} → World Op Reply → List (Command Op) → Type 0
TookEffect {Op} w order = (cs : List (Command Op)) × IsReached w cs × (order ≡ kept cs)

-- the command, where its key takes effect
abbrev pub command_placed : {Op : Type 0} → Option Key → Option (Command Op) → Option (Command Op)
command_placed None c = None
command_placed (Some key) c = c

-- the command that takes effect with the event, or none: what a replica performs past the reach, unless it is stale
abbrev pub effect_of : {Op Reply : Type 0} → World Op Reply → Event Op → Option (Command Op)
effect_of w (Submit n c) = None
effect_of w (Deliver i) = None
effect_of w (Wake n) = None
effect_of w (Nudge n) = None
effect_of w (Propose n) = None
effect_of w (Perform n) =
    command_placed (key_placed w.reach (outcome_of (node w.cluster n) deeds.Perform)) (next_decided (node w.cluster n).replica)
effect_of w (Restart n) = None

-- the one that takes effect as node n does this by itself
abbrev pub placed_by : {Op O Reply : Type 0} → HallRest Op O Reply → ℕ → Deed Op → Option (Command Op)
placed_by h n d = command_placed (key_placed h.reach (outcome_rest h n d)) (next_decided (node_of h.network n).replica)

-- the node performs
abbrev pub is_perform : {Op : Type 0} → Deed Op → Bool
is_perform (deeds.Request c) = false
is_perform deeds.Wake = false
is_perform deeds.Nudge = false
is_perform deeds.Propose = false
is_perform deeds.Perform = true
is_perform deeds.Restart = false
