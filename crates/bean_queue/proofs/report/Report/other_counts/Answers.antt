use Rattle.std.proofs.lemmas.Result.{on_ok_weaker}
use Rattle.bean_queue.specs.Reports.{other_counts_report}
use Rattle.bean_queue.proofs.Written.{written}
use Rattle.bean_queue.proofs.report.Report.other_counts.Goals as goal

pub returns : goal.returns
unfolding other_counts_report
returns c =
    on_ok_weaker c.number-13.result
    (λ last. written c.args.self.now c.number-12.new.self c.number-13.new.self _ _
    (written c.args.self.now c.number-11.new.self c.number-12.new.self _ _
    (written c.args.self.now c.number-10.new.self c.number-11.new.self _ _
    (written c.args.self.now c.number-9.new.self c.number-10.new.self _ _
    (written c.args.self.now c.number-8.new.self c.number-9.new.self _ _
    (written c.args.self.now c.number-7.new.self c.number-8.new.self _ _
    (written c.args.self.now c.number-6.new.self c.number-7.new.self _ _
    (written c.args.self.now c.number-5.new.self c.number-6.new.self _ _
    (written c.args.self.now c.number-4.new.self c.number-5.new.self _ _
    (written c.args.self.now c.number-3.new.self c.number-4.new.self _ _
    (written c.args.self.now c.number-2.new.self c.number-3.new.self _ _
    (written c.args.self.now c.number.new.self c.number-2.new.self _ _
    (c.in_ok-number.ensures) c.in_ok-number-2.ensures) c.in_ok-number-3.ensures) c.in_ok-number-4.ensures) c.in_ok-number-5.ensures)
    c.in_ok-number-6.ensures) c.in_ok-number-7.ensures) c.in_ok-number-8.ensures) c.in_ok-number-9.ensures) c.in_ok-number-10.ensures)
    c.in_ok-number-11.ensures) c.in_ok-number-12.ensures) last)
    c.number-13.ensures
