use Rattle.std.proofs.Common.{IsSome, sym, subst}
use Rattle.job_store.specs.Entries.{value_at}
use Rattle.bean_queue.specs.Queue.{QueueState}
use Rattle.bean_queue.proofs.calm.Called.{known-there}
use Rattle.bean_queue.proofs.logic.Logic.call.Goals as goal

pub note_role-requires-clause-there : goal.note_role-requires-clause-there
note_role-requires-clause-there g c =
    subst (λ (t : QueueState). IsSome (value_at c.args.session t.sessions)) (sym c.in_ok-role.ensures.drafts.now)
    (known-there c.args.session c.args.self.now.now.sessions)
