use Rattle.std.proofs.Common.{take}
use Rattle.chronicle.proofs.verdicts.Obeyed.{HasObeyed}
use Rattle.chronicle.proofs.replay.obey_order.Given as goal

-- the queue obeyed the places so far, which are right
abbrev pub invariant-loop-place : goal.invariant-loop-place
invariant-loop-place l = HasObeyed l.chronicle (take l.place l.chronicle.order) l.queue l.given.items
