use Rattle.std.proofs.Common.{◌≡◌, ◌≤◌, ◌+◌, length, if◌then◌else◌, subst}
use Rattle.loops.specs.Desks.{LeanDesk}
use Rattle.loops.specs.Taking.{for_log}
use Rattle.loops.proofs.Counting.{count_all, le_same}
use Rattle.loops.proofs.forgetting_desk.ForgettingDeskLoopDesk.placed_count.Goals as goal

pub returns-then-self-clause-exact : goal.returns-then-self-clause-exact
returns-then-self-clause-exact g c =
    let h = c.self.inside.hall in
    let n = c.placed_count.result in
    subst (λ (d : LeanDesk _ _ _). n ≡ (if d.logs then d.taken else 0) + length (for_log d.logs d.hall.gathering.commands)) c.self.view_is
    (count_all g.O.Object.rules h (c.tells_in_order.ensures.counted h) c.self.inside.logs c.self.inside.taken n c.if-self.true c.self.invariant
    c.placed_count.ensures.count)

pub returns-then-self-clause-least : goal.returns-then-self-clause-least
returns-then-self-clause-least g c =
    let h = c.self.inside.hall in
    let n = c.placed_count.result in
    subst (λ (d : LeanDesk _ _ _). (if d.logs then d.taken else 0) + length (for_log d.logs d.hall.gathering.commands) ≤ n) c.self.view_is
    (le_same n _ (count_all g.O.Object.rules h (c.tells_in_order.ensures.counted h) c.self.inside.logs c.self.inside.taken n c.if-self.true
    c.self.invariant c.placed_count.ensures.count))
