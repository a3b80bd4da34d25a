use Rattle.std.proofs.Common.{refl}
use Rattle.forgetting_hall.specs.LeadingLaws.{leads_stay}
use Rattle.loops.proofs.forgetting_desk.ForgettingDeskDesk.submit.Goals as goal

pub returns-then-last_number-last-clause-submitted : goal.returns-then-last_number-last-clause-submitted
returns-then-last_number-last-clause-submitted g c = record {
  ok = tt;
  err = refl;
  free = refl;
  leads = leads_stay g.O.Object.rules c.args.self.now.hall c.args.self.now.hall refl;
}
