use Rattle.std.proofs.Common.{◌≡◌, ◌+◌, length, ap, arith}
use Rattle.chronicle_text.specs.Happenings.{happenings}
use Rattle.chronicle.proofs.verdicts.HappeningCounts.{happenings_count}
use Rattle.chronicle.proofs.replay.first_order_line.Goals as goal

pub returns-clause-line : goal.returns-clause-line
returns-clause-line c =
    let h = c.args.chronicle.now in
    let s = ap length c.submitted.ensures.submitted in
    let a = ap length c.answers.ensures.answers in
    let all : length (happenings h.submitted h.answers) ≡ length h.submitted + length h.answers =
    happenings_count h.submitted h.answers c.submitted.ensures.kept.timeline in
    omega arith
