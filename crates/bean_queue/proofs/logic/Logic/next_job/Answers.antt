use Rattle.std.proofs.Common.{◌∙◌, ap}
use Rattle.job_store.specs.Least.{least}
use Rattle.job_store.specs.LookUps.{pri_of_job}
use Rattle.session_store.specs.Drafts.{Draft}
use Rattle.bean_queue.specs.Queue.{QueueState, paused_tubes, state_of}
use Rattle.bean_queue.specs.Turns.{next_job}
use Rattle.bean_queue.specs.Woken.{has_taker}
use Rattle.bean_queue.specs.Offers.{is_takable}
use Rattle.bean_queue.proofs.best.Takable.{next-takable}
use Rattle.bean_queue.proofs.logic.Logic.next_job.Goals as goal

pub returns-clause-best : goal.returns-clause-best
returns-clause-best g c =
    let s = state_of c.self.inside.counters c.self.inside.jobs.now c.self.inside.sessions.now c.self.inside.pauses.now.pauses c.self.inside.tubes.now in
    c.next.ensures.next ∙
    ap (least (is_takable (has_taker (paused_tubes s) s.sessions)) pri_of_job) c.map.ensures.jobs ∙
    next-takable s _ c.map.ensures.rising ∙
    ap (λ (d : Draft QueueState). next_job d.now) c.self.view_is
