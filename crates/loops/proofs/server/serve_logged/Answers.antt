use Rattle.std.proofs.Common.{IfOk, subst}
use Rattle.loops.specs.Desks.{LeanDesk, LeanGoesOn}
use Rattle.loops.proofs.server.serve_logged.Goals as goal

pub returns : goal.returns
returns g c = record {
  goes_on = subst (λ (d : LeanDesk _ _ _). IfOk c.serve_lean.result (λ s. LeanGoesOn g.O.Object.rules d.hall s.hall)) c.logging-desk.ensures
      c.serve_lean.ensures.goes_on;
}
