use Rattle.std.proofs.Common.{subst}
use Rattle.scout_commander.specs.Reports.{HasNews}
use Rattle.scout_commander.proofs.Fresh.{on_err}
use Rattle.scout_commander.proofs.scout.Scout.on_p1b.Goals as goal

pub returns-in_err-gather-clause-known : goal.returns-in_err-gather-clause-known
returns-in_err-gather-clause-known g c =
    on_err c.from_residual.result (subst
    (λ w. HasNews w.gathered c.args.report.now) c.self.view_is c.in_err-gather.ensures.known)
