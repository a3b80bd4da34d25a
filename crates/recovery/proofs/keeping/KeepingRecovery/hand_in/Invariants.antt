use Rattle.std.proofs.Common.{◌≡◌, ◌-◌, length}
use Rattle.recovery.proofs.keeping.KeepingRecovery.hand_in.Given as goal

-- the members stay
abbrev pub invariant-loop-self : goal.invariant-loop-self
invariant-loop-self g l = l.self-inside.members ≡ l.fn.self

abbrev pub decreases-loop-self : goal.decreases-loop-self
decreases-loop-self g l = l.key.session - length l.self-inside.tickets.items
