-- What events ask for: that a node does something by itself, or that a letter is delivered.
use Rattle.agreement.specs.Events.{event_of}
use Rattle.agreement.specs.declared.event.Event.{Event}
use Rattle.agreement.specs.declared.event.Event.TheVariants.{Deliver}
use Rattle.world.specs.declared.task.Task.{Task}
use Rattle.world.specs.declared.task.Task.TheVariants as tasks

-- the event that asks for the task
abbrev pub event_for : {Op : Type 0} → Task Op → Event Op
event_for (tasks.Act n d) = event_of n d
event_for (tasks.Deliver i) = Deliver i
