use Rattle.std.proofs.Common.{Option, Bor, option_map, ℕ, sym, ap, subst}
use Rattle.job_store.specs.declared.job.Job.{Job}
use Rattle.bean_queue.specs.Offers.{OffersToo}
use Rattle.bean_queue.proofs.best.Offering.{one-too}
use Rattle.bean_queue.proofs.offers.Offers.add.Goals as goal

pub returns-in_ok-insert-clause-ok : goal.returns-in_ok-insert-clause-ok
returns-in_ok-insert-clause-ok c =
    let show : Option (ℕ × Bor Job) → Option (ℕ × Job) = option_map (λ e. (e.0, e.1.now)) in
    subst (OffersToo c.args.self.now (record { places = c.insert.new.self })) (ap show (sym c.in-Some.is))
    (one-too c.args.self.now (record { places = c.insert.new.self }) (c.in-Some.id, c.in-Some.job.now) c.in_ok-insert.ensures.updates.0)
