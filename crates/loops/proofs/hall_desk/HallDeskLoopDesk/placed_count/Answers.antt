use Rattle.std.proofs.Common.{◌≤◌, ◌+◌, length, if◌then◌else◌, sym, subst}
use Rattle.recorder.specs.Records.{commands_from}
use Rattle.loops.specs.Taking.{for_log}
use Rattle.loops.proofs.Keeping.{fewer_placed}
use Rattle.loops.proofs.hall_desk.HallDeskLoopDesk.placed_count.Goals as goal

pub returns-then-self-clause-least : goal.returns-then-self-clause-least
returns-then-self-clause-least g c =
    let d = c.args.self.now in
    let past = d.hall.nodes.past in
    let within = fewer_placed d.taken past d.within in
    subst (λ n. (if d.logs then d.taken else 0) + length (for_log d.logs (commands_from d.taken past)) ≤ n) (sym c.placed_count.ensures)
    (subst (λ logs. (if logs then d.taken else 0) + length (for_log logs (commands_from d.taken past)) ≤ length past.order)
    (sym c.if-self.true) within)
