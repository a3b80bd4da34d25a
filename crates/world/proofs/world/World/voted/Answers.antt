use Rattle.std.proofs.Common.{sym, ◌∙◌, arith}
use Rattle.world.proofs.standing.Voters.{has_voted, none_next}
use Rattle.world.proofs.world.World.voted.Goals.{else-number-slot-via-then-number-slot+else-is_voted, else-number-slot-via-else-number-slot}
use Rattle.world.proofs.world.World.voted.Goals as goal

pub returns-then-is_voted-clause-some : goal.returns-then-is_voted-clause-some
returns-then-is_voted-clause-some g c =
    has_voted c.args.self.now.cluster c.args.accepted.now c.args.slot c.loop-pvalue.pvalue-index c.pvalue-item.result
    c.loop-pvalue-test.true c.pvalue-item.is (sym c.number.ensures.number ∙ c.if-number-slot.true)
    (sym c.is_voted.ensures ∙ c.if-is_voted.true) (omega arith)

pub loop-pvalue-preserved : goal.loop-pvalue-preserved
loop-pvalue-preserved g c =
    none_next c.args.self.now.cluster c.args.accepted.now c.args.slot c.loop-pvalue.pvalue-index c.pvalue-item.result c.loop-pvalue-test.true c.pvalue-item.is
    (elim c.else-number-slot.branch [
      | else-number-slot-via-then-number-slot+else-is_voted w ↦ λ same. sym w.is_voted.ensures ∙ w.if-is_voted.false
      | else-number-slot-via-else-number-slot w ↦ λ same. absurd (w.if-number-slot.false (c.number.ensures.number ∙ same))
    ])
    c.loop-pvalue.invariant
