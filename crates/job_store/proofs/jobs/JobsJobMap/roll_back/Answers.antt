use Rattle.std.proofs.Common.{sym}
use Rattle.job_store.proofs.shelving.Following.{can-go-back, kept-swept}
use Rattle.job_store.proofs.jobs.JobsJobMap.roll_back.Goals as goal

pub go_back-requires : goal.go_back-requires
go_back-requires c =
    can-go-back c.self.inside.shelves c.self.inside.jobs c.roll_back.new.self.jobs c.self.invariant (sym c.roll_back.ensures.jobs)

pub invariant_of-self : goal.invariant_of-self
invariant_of-self c = kept-swept c.go_back.new.shelves c.roll_back.new.self c.roll_back.ensures.before c.go_back.ensures
