-- The keys of what took effect, from event to event.
use Rattle.std.specs.Prelude.{List, ◌++◌}
use Rattle.std.specs.Option.{option_to_list}
use Rattle.object.specs.declared.command.Key.{Key}
use Rattle.node.specs.Deeds.{outcome_of}
use Rattle.node.specs.declared.deed.Deed.TheVariants as deeds
use Rattle.node.specs.Outcomes.{key_placed}
use Rattle.agreement.specs.Nodes.{node}
use Rattle.agreement.specs.Worlds.{World}
use Rattle.agreement.specs.declared.event.Event.{Event}
use Rattle.agreement.specs.declared.event.Event.TheVariants.{Submit, Deliver, Wake, Nudge, Propose, Perform, Restart}

-- the keys in their order after the event: one more, where a replica performs past the reach what isn't stale
abbrev pub placed_after : {Op Reply : Type 0} → World Op Reply → Event Op → List Key → List Key
placed_after w (Submit n c) keys = keys
placed_after w (Deliver i) keys = keys
placed_after w (Wake n) keys = keys
placed_after w (Nudge n) keys = keys
placed_after w (Propose n) keys = keys
placed_after w (Perform n) keys = keys ++ option_to_list (key_placed w.reach (outcome_of (node w.cluster n) deeds.Perform))
placed_after w (Restart n) keys = keys
