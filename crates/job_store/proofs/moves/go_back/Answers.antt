use Rattle.std.proofs.Common.{sym, subst}
use Rattle.job_store.specs.Shelves.{CanGoBack, AreSwept}
use Rattle.job_store.proofs.moves.go_back.Goals as goal

pub go_back-requires-clause-back : goal.go_back-requires-clause-back
go_back-requires-clause-back c = subst (CanGoBack c.args.shelves.now) (sym c.by_id.ensures.jobs) c.requires

pub returns : goal.returns
returns c = subst (AreSwept c.go_back.new.self) c.by_id.ensures.jobs c.go_back.ensures
