use Rattle.std.proofs.Common.{sym, ap, subst}
use Rattle.std.specs.Option.{unwrap_or}
use Rattle.job_store.specs.ShelfStates.{bare}
use Rattle.job_store.specs.Shelves.{AreAllFound}
use Rattle.job_store.proofs.shelving.Places.{none-found, finds-none}
use Rattle.job_store.proofs.rack.Rack.first.Goals as goal

pub returns-in-None : goal.returns-in-None
returns-in-None g c =
    finds-none _ _ _
    (none-found c.args.label c.args.jobs.now.entries
    (subst (λ s. AreAllFound c.args.label s c.args.jobs.now.entries)
    (ap (λ o. unwrap_or o bare) (sym c.in-None.ensures.value)) c.requires.all))

pub first-requires : goal.first-requires
first-requires g c = record {
  rising = c.requires.rising;
  all = subst (λ s. AreAllFound c.args.label s c.args.jobs.now.entries)
      (ap (λ o. unwrap_or o bare) (sym c.in-Some.ensures.value)) c.requires.all;
}
