use Rattle.std.proofs.Common.{sym, subst}
use Rattle.job_store.specs.Shelves.{HoldJobs, HasCaughtUp}
use Rattle.job_store.proofs.moves.follow.Goals as goal

pub follow-requires : goal.follow-requires
follow-requires c = subst (λ x. HoldJobs c.args.shelves.now x c.args.shelves.now.went.items) (sym c.by_id.ensures.jobs) c.requires

pub returns : goal.returns
returns c =
    subst (λ b. HasCaughtUp b c.args.shelves.now c.follow.new.self c.args.jobs.now.jobs) c.is_trial.ensures
    (subst (HasCaughtUp c.is_trial.result c.args.shelves.now c.follow.new.self) c.by_id.ensures.jobs c.follow.ensures)
