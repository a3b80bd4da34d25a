use Rattle.std.proofs.Common.{sym, subst}
use Rattle.job_store.specs.Shelves.{HoldJobs, AreSwept}
use Rattle.job_store.proofs.moves.sweep.Goals as goal

pub sweep-requires : goal.sweep-requires
sweep-requires c = subst (λ x. HoldJobs c.args.shelves.now x c.args.shelves.now.went.items) (sym c.by_id.ensures.jobs) c.requires

pub returns : goal.returns
returns c = subst (AreSwept c.sweep.new.self) c.by_id.ensures.jobs c.sweep.ensures
