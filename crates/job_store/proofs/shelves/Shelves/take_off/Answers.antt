use Rattle.std.proofs.Common.{ℕ, refl, ap, subst, sym, ◌∙◌}
use Rattle.object.specs.Lists.{In}
use Rattle.job_store.specs.declared.job.Job.{Job}
use Rattle.job_store.specs.declared.label.Label.{Label}
use Rattle.job_store.specs.Spots.{at_spot}
use Rattle.job_store.specs.Shelves.{number, BelongsAt, places}
use Rattle.job_store.proofs.shelving.Shelving.{untaken, only-place}
use Rattle.job_store.proofs.shelving.ShelfFields.{only-ready, only-delayed, only-buried, only-held, only-scheduled, only-reserved, take-at}
use Rattle.job_store.proofs.shelves.Shelves.take_off.Goals as goal

pub returns-in-Ready-clause-taken : goal.returns-in-Ready-clause-taken
returns-in-Ready-clause-taken c jobs ahead none =
    take-at c.args.self.now (record c.args.self.now { ready = c.take.new.self }) (Label.Ready c.in-Ready.tube)
    (only-ready c.args.self.now c.take.new.self c.in-Ready.tube c.take.ensures.others) refl jobs
    (c.args.spot.now.pri, c.args.id) ahead
    (subst (λ n. (e : ℕ × Job) → In e jobs → BelongsAt (Label.Ready c.in-Ready.tube) (n, c.args.id) e
    → ⊥) (c.number-number.ensures (at_spot c.args.spot.now) refl refl ∙ ap
    (λ (l : Label). number l (at_spot c.args.spot.now)) c.in-Ready.is)
    (subst (λ (l : Label). (e : ℕ × Job) → In e jobs
    → BelongsAt l (c.number-number.result, c.args.id) e → ⊥) c.in-Ready.is
    (untaken c.args.label c.args.id c.number-number.result c.args.spot.now jobs
    c.requires
    (c.number-number.ensures (at_spot c.args.spot.now) refl refl) none)))
    c.take.ensures.change

pub returns-in-Ready-clause-gone : goal.returns-in-Ready-clause-gone
returns-in-Ready-clause-gone c p i b =
    (c.take.ensures.change.only p
    (subst (λ (l : Label). In p (places (record c.args.self.now { ready = c.take.new.self }) l)) c.in-Ready.is i)).1
    (only-place c.args.label c.args.id c.args.spot.now.pri (at_spot c.args.spot.now) p
    (ap (λ (l : Label). number l (at_spot c.args.spot.now)) (sym c.in-Ready.is)) b)

pub returns-in-Delayed-clause-taken : goal.returns-in-Delayed-clause-taken
returns-in-Delayed-clause-taken c jobs ahead none =
    take-at c.args.self.now (record c.args.self.now { delayed = c.take-in-Delayed.new.self })
    (Label.Delayed c.in-Delayed.tube)
    (only-delayed c.args.self.now c.take-in-Delayed.new.self c.in-Delayed.tube c.take-in-Delayed.ensures.others)
    refl jobs (c.number-number.result, c.args.id) ahead
    (subst (λ (l : Label). (e : ℕ × Job) → In e jobs
    → BelongsAt l (c.number-number.result, c.args.id) e → ⊥) c.in-Delayed.is
    (untaken c.args.label c.args.id c.number-number.result c.args.spot.now jobs
    c.requires
    (c.number-number.ensures (at_spot c.args.spot.now) refl refl) none))
    c.take-in-Delayed.ensures.change

pub returns-in-Delayed-clause-gone : goal.returns-in-Delayed-clause-gone
returns-in-Delayed-clause-gone c p i b =
    (c.take-in-Delayed.ensures.change.only p
    (subst (λ (l : Label). In p (places (record c.args.self.now { delayed = c.take-in-Delayed.new.self }) l))
    c.in-Delayed.is i)).1 (only-place c.args.label c.args.id _ (at_spot c.args.spot.now) p
    (c.number-number.ensures (at_spot c.args.spot.now) refl refl) b)

pub returns-in-Buried-clause-taken : goal.returns-in-Buried-clause-taken
returns-in-Buried-clause-taken c jobs ahead none =
    take-at c.args.self.now (record c.args.self.now { buried = c.take-in-Buried.new.self })
    (Label.Buried c.in-Buried.tube)
    (only-buried c.args.self.now c.take-in-Buried.new.self c.in-Buried.tube c.take-in-Buried.ensures.others) refl
    jobs (c.number-number.result, c.args.id) ahead
    (subst (λ (l : Label). (e : ℕ × Job) → In e jobs
    → BelongsAt l (c.number-number.result, c.args.id) e → ⊥) c.in-Buried.is
    (untaken c.args.label c.args.id c.number-number.result c.args.spot.now jobs
    c.requires
    (c.number-number.ensures (at_spot c.args.spot.now) refl refl) none))
    c.take-in-Buried.ensures.change

pub returns-in-Buried-clause-gone : goal.returns-in-Buried-clause-gone
returns-in-Buried-clause-gone c p i b =
    (c.take-in-Buried.ensures.change.only p
    (subst (λ (l : Label). In p (places (record c.args.self.now { buried = c.take-in-Buried.new.self }) l))
    c.in-Buried.is i)).1 (only-place c.args.label c.args.id _ (at_spot c.args.spot.now) p
    (c.number-number.ensures (at_spot c.args.spot.now) refl refl) b)

pub returns-in-Held-clause-taken : goal.returns-in-Held-clause-taken
returns-in-Held-clause-taken c jobs ahead none =
    take-at c.args.self.now (record c.args.self.now { held = c.take-in-Held.new.self }) (Label.Held c.in-Held.session)
    (only-held c.args.self.now c.take-in-Held.new.self c.in-Held.session c.take-in-Held.ensures.others) refl
    jobs (c.number-number.result, c.args.id) ahead
    (subst (λ (l : Label). (e : ℕ × Job) → In e jobs
    → BelongsAt l (c.number-number.result, c.args.id) e → ⊥) c.in-Held.is
    (untaken c.args.label c.args.id c.number-number.result c.args.spot.now jobs
    c.requires
    (c.number-number.ensures (at_spot c.args.spot.now) refl refl) none))
    c.take-in-Held.ensures.change

pub returns-in-Held-clause-gone : goal.returns-in-Held-clause-gone
returns-in-Held-clause-gone c p i b =
    (c.take-in-Held.ensures.change.only p
    (subst (λ (l : Label). In p (places (record c.args.self.now { held = c.take-in-Held.new.self }) l)) c.in-Held.is
    i)).1 (only-place c.args.label c.args.id _ (at_spot c.args.spot.now) p
    (c.number-number.ensures (at_spot c.args.spot.now) refl refl) b)

pub returns-in-Scheduled-clause-taken : goal.returns-in-Scheduled-clause-taken
returns-in-Scheduled-clause-taken c jobs ahead none =
    take-at c.args.self.now (record c.args.self.now { scheduled = c.take-in-Scheduled.new.self }) Label.Scheduled
    (only-scheduled c.args.self.now c.take-in-Scheduled.new.self) refl jobs
    (c.number-number.result, c.args.id) ahead
    (subst (λ (l : Label). (e : ℕ × Job) → In e jobs
    → BelongsAt l (c.number-number.result, c.args.id) e → ⊥) c.in-Scheduled.is
    (untaken c.args.label c.args.id c.number-number.result c.args.spot.now jobs
    c.requires
    (c.number-number.ensures (at_spot c.args.spot.now) refl refl) none))
    c.take-in-Scheduled.ensures

pub returns-in-Scheduled-clause-gone : goal.returns-in-Scheduled-clause-gone
returns-in-Scheduled-clause-gone c p i b =
    (c.take-in-Scheduled.ensures.only p
    (subst (λ (l : Label). In p (places (record c.args.self.now { scheduled = c.take-in-Scheduled.new.self }) l))
    c.in-Scheduled.is i)).1 (only-place c.args.label c.args.id _ (at_spot c.args.spot.now) p
    (c.number-number.ensures (at_spot c.args.spot.now) refl refl) b)

pub returns-in-Reserved-clause-taken : goal.returns-in-Reserved-clause-taken
returns-in-Reserved-clause-taken c jobs ahead none =
    take-at c.args.self.now (record c.args.self.now { reserved = c.take-in-Reserved.new.self })
    (Label.Reserved c.in-Reserved.tube)
    (only-reserved c.args.self.now c.take-in-Reserved.new.self c.in-Reserved.tube c.take-in-Reserved.ensures.others)
    refl jobs (c.number-number.result, c.args.id) ahead
    (subst (λ (l : Label). (e : ℕ × Job) → In e jobs
    → BelongsAt l (c.number-number.result, c.args.id) e → ⊥) c.in-Reserved.is
    (untaken c.args.label c.args.id c.number-number.result c.args.spot.now jobs
    c.requires
    (c.number-number.ensures (at_spot c.args.spot.now) refl refl) none))
    c.take-in-Reserved.ensures.change

pub returns-in-Reserved-clause-gone : goal.returns-in-Reserved-clause-gone
returns-in-Reserved-clause-gone c p i b =
    (c.take-in-Reserved.ensures.change.only p
    (subst (λ (l : Label). In p (places (record c.args.self.now { reserved = c.take-in-Reserved.new.self }) l))
    c.in-Reserved.is i)).1 (only-place c.args.label c.args.id _ (at_spot c.args.spot.now) p
    (c.number-number.ensures (at_spot c.args.spot.now) refl refl) b)
