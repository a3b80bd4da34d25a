use Rattle.std.proofs.Common.{◌∙◌, ap, sym, nat_le}
use Rattle.bean_queue.proofs.due.FirstHeld.{held_none, held_some}
use Rattle.bean_queue.proofs.deadlines.holds_by.Goals as goal

pub returns-in-Some : goal.returns-in-Some
returns-in-Some g c =
    ap (λ due. nat_le due c.args.second) c.due.ensures ∙
    sym (held_some c.args.session c.args.second (g.M.JobMap.entries c.args.jobs.now) _ (sym c.in-Some.ensures.job))

pub returns-in-None : goal.returns-in-None
returns-in-None g c = sym (held_none c.args.session c.args.second (g.M.JobMap.entries c.args.jobs.now) (sym c.in-None.ensures.job))
