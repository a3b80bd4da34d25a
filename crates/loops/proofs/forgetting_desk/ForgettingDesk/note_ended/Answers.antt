use Rattle.loops.proofs.forgetting_desk.ForgettingDesk.note_ended.Goals as goal

pub returns-then-self-clause-goes_on : goal.returns-then-self-clause-goes_on
returns-then-self-clause-goes_on g c = c.leads_on.ensures.stays c.args.self.now.hall
