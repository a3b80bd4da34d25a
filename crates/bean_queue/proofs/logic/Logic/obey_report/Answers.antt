use Rattle.std.proofs.Common.{◌∙◌, ap}
use Rattle.std.proofs.lemmas.Result.{on_ok_weaker}
use Rattle.bean_queue.specs.Tubes.{all_tubes}
use Rattle.bean_queue.proofs.tubes.Listed.{called-tubes}
use Rattle.bean_queue.proofs.tubes.Reporting.{report-state}
use Rattle.bean_queue.proofs.logic.Logic.obey_report.Goals as goal

pub returns-clause-state : goal.returns-clause-state
returns-clause-state g c =
    on_ok_weaker c.call.result
    (report-state c.args.op.now c.args.key c.args.self.now.now c.call.new.self.now c.requires.reports c.requires.calm)
    c.call.ensures.now

pub returns-clause-tubes : goal.returns-clause-tubes
returns-clause-tubes g c =
    on_ok_weaker c.call.result
    (λ e. ap all_tubes e ∙ called-tubes c.args.op.now c.args.key.session c.args.self.now.now)
    c.call.ensures.now
