use Rattle.std.proofs.Common.{length, refl, ap, arith}
use Rattle.chronicle.proofs.verdicts.Walked.{walk_starts, walk_ends}
use Rattle.chronicle.proofs.walk.check_happenings.Goals as goal

pub loop-line-init : goal.loop-line-init
loop-line-init c = record { walked = walk_starts c.args.chronicle.now; count = refl }

pub returns-clause-right : goal.returns-clause-right
returns-clause-right c =
    let s = ap length c.submitted.ensures.submitted in
    let a = ap length c.answers.ensures.answers in
    let count = c.loop-line.invariant.count in
    walk_ends c.args.chronicle.now c.loop-line.walk c.submitted.ensures.kept c.loop-line.invariant.walked (omega arith)
