use Rattle.std.proofs.Common.{◌≡◌, true, length}
use Rattle.loops.proofs.hall_desk.HallDesk.over.Given as goal

-- the hall stays, and so does what was taken and told; there is a log
abbrev pub invariant-loop-ticket : goal.invariant-loop-ticket
invariant-loop-ticket g l =
    (l.desk.hall ≡ l.fn.hall) × (l.desk.taken ≡ length l.fn.hall.nodes.past.order)
    × (l.desk.told ≡ length l.fn.hall.nodes.past.happenings.answers) × (l.desk.logs ≡ true)
