use Rattle.std.proofs.Common.{◌∙◌, bytes_eq, sym, ap}
use Rattle.job_store.specs.LookUps.{is_among, has_jobs}
use Rattle.session_store.specs.Drafts.{Draft}
use Rattle.bean_queue.specs.Queue.{QueueState, state_of}
use Rattle.bean_queue.specs.Tubes.{all_tubes}
use Rattle.bean_queue.proofs.tubes.Named.{by-default, by-session, by-rest}
use Rattle.bean_queue.proofs.logic.Logic.is_tube.Goals as goal

pub returns-then-eq : goal.returns-then-eq
returns-then-eq g c =
    sym (by-default c.args.self.now.now c.args.tube.now (ap (bytes_eq c.args.tube.now) (sym c.default_tube.ensures) ∙ sym c.eq-2.ensures ∙ c.if-eq.true))

pub returns-then-has_named : goal.returns-then-has_named
returns-then-has_named g c =
    let s = state_of c.self.inside.counters c.self.inside.jobs.now c.self.inside.sessions.now c.self.inside.pauses.now.pauses c.self.inside.tubes.now in
    sym (by-session s c.args.tube.now (sym c.has_named.ensures ∙ c.if-has_named.true)) ∙
    ap (λ (d : Draft QueueState). is_among c.args.tube.now (all_tubes d.now)) c.self.view_is

pub returns : goal.returns
returns g c =
    let s = state_of c.self.inside.counters c.self.inside.jobs.now c.self.inside.sessions.now c.self.inside.pauses.now.pauses c.self.inside.tubes.now in
    c.has_jobs.ensures ∙ ap (has_jobs c.args.tube.now) c.map.ensures.jobs ∙
    by-rest s c.args.tube.now (ap (bytes_eq c.args.tube.now) (sym c.default_tube.ensures) ∙ sym c.eq-2.ensures ∙ c.if-eq.false)
    (sym c.has_named.ensures ∙ c.if-has_named.false) ∙
    ap (λ (d : Draft QueueState). is_among c.args.tube.now (all_tubes d.now)) c.self.view_is
