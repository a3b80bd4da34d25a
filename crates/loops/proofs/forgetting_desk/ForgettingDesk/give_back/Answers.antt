use Rattle.loops.proofs.Counting.{still_taken}
use Rattle.loops.proofs.forgetting_desk.ForgettingDesk.give_back.Goals as goal

pub invariant_of-self : goal.invariant_of-self
invariant_of-self g c =
    still_taken g.O.Object.rules c.self.inside.hall c.let_go.new.hall c.self.inside.logs c.self.inside.taken c.let_go.ensures.goes_on c.self.invariant

pub returns-else-is_own-clause-goes_on : goal.returns-else-is_own-clause-goes_on
returns-else-is_own-clause-goes_on g c = c.leads_on.ensures.stays c.args.self.now.hall
