use Rattle.std.proofs.Common.{sym, subst}
use Rattle.loops.specs.Desks.{LeanGoesOn}
use Rattle.loops.specs.LeadingLaws.{lean_went}
use Rattle.loops.proofs.server.serve_lean.Goals as goal

pub returns : goal.returns
returns g c = record {
  goes_on = subst (LeanGoesOn g.O.Object.rules c.args.desk.hall) (sym c.into_hall-hall.ensures)
      (lean_went g.O.Object.rules c.args.desk.hall c.in_ok-desk.desk.hall c.in_ok-desk.ensures.goes_on);
}
