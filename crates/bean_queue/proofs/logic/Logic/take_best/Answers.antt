use Rattle.std.proofs.Common.{◌≡◌, ◌+◌, ◌∙◌, ℕ, true, Some, ap, sym, subst}
use Rattle.job_store.specs.declared.job.Job.{Job}
use Rattle.session_store.specs.Drafts.{Draft}
use Rattle.bean_queue.specs.Queue.{QueueState, state_of}
use Rattle.bean_queue.specs.Reserving.{best_for, IsTaken}
use Rattle.bean_queue.proofs.calm.Reserving.{took}
use Rattle.bean_queue.proofs.logic.Logic.take_best.Goals as goal

pub returns-clause-taken : goal.returns-clause-taken
returns-clause-taken g c =
    let s = state_of c.self.inside.counters c.self.inside.jobs.now c.self.inside.sessions.now c.self.inside.pauses.now.pauses c.self.inside.tubes.now in
    let j : ℕ × Job = (c.in-Some.id, c.in-Some.job.now) in
    let best : best_for s c.args.key.session ≡ Some j =
    ap (λ (d : Draft QueueState). best_for d.now c.args.key.session) c.self.view_is ∙ sym c.in-Some.ensures in
    subst (λ (d : Draft QueueState). IsTaken c.args.key d.now
    (record s { next_rank = s.next_rank + 1; jobs = c.set_state.new.self.now }) c.args.answers.now.items
    c.push.new.self.items true) c.self.view_is
    (took c.args.key s j c.set_state.new.self.now c.args.answers.now.items c.push.new.self.items c.due_of-due.result
    c.in_ok-body.body best c.due_of-due.ensures c.in_ok-set_state.ensures.now c.in_ok-body.ensures
    c.in_ok-push.ensures.items)
