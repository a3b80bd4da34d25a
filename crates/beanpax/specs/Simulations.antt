-- A simulated hall as a service.
use Rattle.std.specs.Prelude.{◌≡◌, Bool, Some, Result, Ok, Err}
use Rattle.bean_words.specs.declared.op.Op.{Op}
use Rattle.bean_words.specs.declared.reply.Reply.{Reply}
use Rattle.bean_queue.specs.Queue.{QueueState}
use Rattle.session.specs.declared.faults.ServiceFault.{ServiceFault}
use Rattle.session.specs.declared.faults.ServiceFault.TheVariants.{Refused, Stopped}
use Rattle.simulated_hall.specs.OneClient.{Talk, answered, left}
use Rattle.simulated_hall.specs.Standing.{SimulatedState}
use Rattle.simulated_hall.specs.Stopping.{IsStopped}
use Rattle.bean_queue.specs.Effects.{queue_rules}
use Rattle.beanpax.specs.Sessions.{queue}

-- an operation of a hall of queues isn't carried on, where this says which operations are one
abbrev pub IsStoppedBy : (Op → Op → Bool) → SimulatedState Op Reply → SimulatedState Op Reply → Op → Type 0
IsStoppedBy same old new op = IsStopped (queue_rules same) same old new op

-- Of how far one queue has come before and after: a reply is that of the queue, which then has come so far. Where the
-- operation is refused, the queue is where it was; and the hall stops for one of its reasons alone.
abbrev pub Obeys : (before after : Talk QueueState → Type 0) → Type 0 → Op → Result Reply ServiceFault → Type 0
Obeys before after stopped op (Ok reply) =
    (t : Talk QueueState) → before t → ((answered queue t op).reply ≡ Some reply) × after (answered queue t op).talk
Obeys before after stopped op (Err Refused) = (t : Talk QueueState) → before t → after t
Obeys before after stopped op (Err Stopped) = stopped

-- The client has left the queue, or the hall stopped for one of its reasons. That is never refused.
abbrev pub Leaves : (before after : Talk QueueState → Type 0) → Type 0 → Result Unit ServiceFault → Type 0
Leaves before after stopped (Ok done) = (t : Talk QueueState) → before t → after (left queue t)
Leaves before after stopped (Err Refused) = ⊥
Leaves before after stopped (Err Stopped) = stopped
