use Rattle.acceptor.proofs.Kept.{report_of_all}
use Rattle.acceptor.proofs.acceptor.Acceptor.on_p1a.Goals as goal

pub returns-clause-report : goal.returns-clause-report
returns-clause-report g c = report_of_all _ _ c.in_ok-report.ensures
