use Rattle.std.proofs.lemmas.Result.{on_ok_weaker}
use Rattle.bean_queue.specs.Reports.{tally_report}
use Rattle.bean_queue.proofs.Written.{written}
use Rattle.bean_queue.proofs.report.Report.tally.Goals as goal

pub returns : goal.returns
unfolding tally_report
returns c =
    on_ok_weaker c.number-5.result
    (λ last. written c.args.self.now c.number-4.new.self c.number-5.new.self _ _
    (written c.args.self.now c.number-3.new.self c.number-4.new.self _ _
    (written c.args.self.now c.number-2.new.self c.number-3.new.self _ _
    (written c.args.self.now c.number.new.self c.number-2.new.self _ _
    (c.in_ok-number.ensures) c.in_ok-number-2.ensures) c.in_ok-number-3.ensures) c.in_ok-number-4.ensures) last)
    c.number-5.ensures
