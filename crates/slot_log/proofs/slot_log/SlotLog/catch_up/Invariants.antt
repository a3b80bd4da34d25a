use Rattle.std.proofs.Common.{◌≡◌}
use Rattle.slot_log.proofs.CatchingUp.{gone_over}
use Rattle.slot_log.proofs.slot_log.SlotLog.catch_up.Given as goal

-- the slots before this one are gone over
abbrev pub invariant-loop : goal.invariant-loop
invariant-loop g l = l.self ≡ gone_over l.initial.self l.counter
