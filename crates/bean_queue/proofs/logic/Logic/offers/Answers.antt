use Rattle.std.proofs.Common.{Result, Ok, Err, OnErr, is_some, IsSome, sym, ap, subst, ◌∙◌}
use Rattle.job_store.specs.Least.{least}
use Rattle.job_store.specs.LookUps.{pri_of_job}
use Rattle.session_store.specs.Drafts.{Draft}
use Rattle.bean_queue.specs.Queue.{QueueState, paused_tubes, state_of}
use Rattle.bean_queue.specs.Turns.{serve_turn}
use Rattle.bean_queue.specs.Woken.{Covers, has_taker}
use Rattle.bean_queue.specs.Offers.{is_takable, CoverTakable}
use Rattle.bean_queue.proofs.best.Takable.{covers-takable, next-takable}
use Rattle.bean_queue.proofs.calm.Calm.{next-serves}
use Rattle.bean_queue.proofs.logic.Logic.offers.Goals as goal

pub offers_of-requires-clause-all : goal.offers_of-requires-clause-all
offers_of-requires-clause-all g c =
    let s = state_of c.self.inside.counters c.self.inside.jobs.now c.self.inside.sessions.now c.self.inside.pauses.now.pauses c.self.inside.tubes.now in
    subst (CoverTakable c.args.woken.now (has_taker (paused_tubes s) s.sessions)) (sym c.map.ensures.jobs)
    (covers-takable c.args.woken.now s (subst (λ (d : Draft QueueState). Covers c.args.woken.now d.now) (sym c.self.view_is) c.requires.covers))

so-on : {X E P Q : Type 0} (r : Result X E) → (P → Q) → OnErr r P → OnErr r Q
so-on (Ok x) f p = tt
so-on (Err e) f p = f p

pub returns-clause-err : goal.returns-clause-err
returns-clause-err g c =
    let s = state_of c.self.inside.counters c.self.inside.jobs.now c.self.inside.sessions.now c.self.inside.pauses.now.pauses c.self.inside.tubes.now in
    so-on c.offers_of.result
    (λ some.
    subst (λ (d : Draft QueueState). IsSome (serve_turn d.now)) c.self.view_is
    (next-serves s (ap is_some (sym (ap (least (is_takable (has_taker (paused_tubes s) s.sessions)) pri_of_job) c.map.ensures.jobs ∙
    next-takable s _ c.map.ensures.rising)) ∙ some)))
    c.offers_of.ensures.err
