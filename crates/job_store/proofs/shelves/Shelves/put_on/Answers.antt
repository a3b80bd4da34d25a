use Rattle.std.proofs.Common.{refl, sym, ap, ◌∙◌}
use Rattle.job_store.specs.declared.label.Label.{Label}
use Rattle.job_store.specs.Spots.{at_spot}
use Rattle.job_store.specs.Shelves.{belongs, number}
use Rattle.job_store.proofs.shelving.ShelfFields.{only-ready, only-delayed, only-buried, only-held, only-scheduled, only-reserved, put-at}
use Rattle.job_store.proofs.shelves.Shelves.put_on.Goals as goal

pub returns-in-Ready-clause-put : goal.returns-in-Ready-clause-put
returns-in-Ready-clause-put c =
    put-at c.args.self.now (record c.args.self.now { ready = c.put.new.self }) (Label.Ready c.in-Ready.tube)
    (only-ready c.args.self.now c.put.new.self c.in-Ready.tube c.put.ensures.put.others) refl
    (c.args.id, (at_spot c.args.spot.now)) c.args.spot.now.pri
    (sym c.if-not-fits.false ∙ c.fits.ensures c.args.id (at_spot c.args.spot.now) refl refl ∙ ap
    (λ (l : Label). belongs l (c.args.id, (at_spot c.args.spot.now))) c.in-Ready.is)
    refl
    c.put.ensures.put.change

pub returns-in-Delayed-clause-put : goal.returns-in-Delayed-clause-put
returns-in-Delayed-clause-put c =
    put-at c.args.self.now (record c.args.self.now { delayed = c.put-in-Delayed.new.self })
    (Label.Delayed c.in-Delayed.tube)
    (only-delayed c.args.self.now c.put-in-Delayed.new.self c.in-Delayed.tube c.put-in-Delayed.ensures.put.others) refl
    (c.args.id, (at_spot c.args.spot.now)) c.number-number.result
    (sym c.if-not-fits.false ∙ c.fits.ensures c.args.id (at_spot c.args.spot.now) refl refl ∙ ap
    (λ (l : Label). belongs l (c.args.id, (at_spot c.args.spot.now))) c.in-Delayed.is)
    (c.number-number.ensures (at_spot c.args.spot.now) refl refl ∙ ap (λ (l : Label). number l (at_spot c.args.spot.now)) c.in-Delayed.is)
    c.put-in-Delayed.ensures.put.change

pub returns-in-Buried-clause-put : goal.returns-in-Buried-clause-put
returns-in-Buried-clause-put c =
    put-at c.args.self.now (record c.args.self.now { buried = c.put-in-Buried.new.self })
    (Label.Buried c.in-Buried.tube)
    (only-buried c.args.self.now c.put-in-Buried.new.self c.in-Buried.tube c.put-in-Buried.ensures.put.others) refl
    (c.args.id, (at_spot c.args.spot.now)) c.number-number.result
    (sym c.if-not-fits.false ∙ c.fits.ensures c.args.id (at_spot c.args.spot.now) refl refl ∙ ap
    (λ (l : Label). belongs l (c.args.id, (at_spot c.args.spot.now))) c.in-Buried.is)
    (c.number-number.ensures (at_spot c.args.spot.now) refl refl ∙ ap (λ (l : Label). number l (at_spot c.args.spot.now)) c.in-Buried.is)
    c.put-in-Buried.ensures.put.change

pub returns-in-Held-clause-put : goal.returns-in-Held-clause-put
returns-in-Held-clause-put c =
    put-at c.args.self.now (record c.args.self.now { held = c.put-in-Held.new.self }) (Label.Held c.in-Held.session)
    (only-held c.args.self.now c.put-in-Held.new.self c.in-Held.session c.put-in-Held.ensures.put.others) refl
    (c.args.id, (at_spot c.args.spot.now)) c.number-number.result
    (sym c.if-not-fits.false ∙ c.fits.ensures c.args.id (at_spot c.args.spot.now) refl refl ∙ ap
    (λ (l : Label). belongs l (c.args.id, (at_spot c.args.spot.now))) c.in-Held.is)
    (c.number-number.ensures (at_spot c.args.spot.now) refl refl ∙ ap (λ (l : Label). number l (at_spot c.args.spot.now)) c.in-Held.is)
    c.put-in-Held.ensures.put.change

pub returns-in-Scheduled-clause-put : goal.returns-in-Scheduled-clause-put
returns-in-Scheduled-clause-put c =
    put-at c.args.self.now (record c.args.self.now { scheduled = c.put-in-Scheduled.new.self }) Label.Scheduled
    (only-scheduled c.args.self.now c.put-in-Scheduled.new.self) refl
    (c.args.id, (at_spot c.args.spot.now)) c.number-number.result
    (sym c.if-not-fits.false ∙ c.fits.ensures c.args.id (at_spot c.args.spot.now) refl refl ∙ ap
    (λ (l : Label). belongs l (c.args.id, (at_spot c.args.spot.now))) c.in-Scheduled.is)
    (c.number-number.ensures (at_spot c.args.spot.now) refl refl ∙ ap (λ (l : Label). number l (at_spot c.args.spot.now)) c.in-Scheduled.is)
    c.put-in-Scheduled.ensures.gained

pub returns-in-Reserved-clause-put : goal.returns-in-Reserved-clause-put
returns-in-Reserved-clause-put c =
    put-at c.args.self.now (record c.args.self.now { reserved = c.put-in-Reserved.new.self })
    (Label.Reserved c.in-Reserved.tube)
    (only-reserved c.args.self.now c.put-in-Reserved.new.self c.in-Reserved.tube c.put-in-Reserved.ensures.put.others)
    refl (c.args.id, (at_spot c.args.spot.now)) c.number-number.result
    (sym c.if-not-fits.false ∙ c.fits.ensures c.args.id (at_spot c.args.spot.now) refl refl ∙ ap
    (λ (l : Label). belongs l (c.args.id, (at_spot c.args.spot.now))) c.in-Reserved.is)
    (c.number-number.ensures (at_spot c.args.spot.now) refl refl ∙ ap (λ (l : Label). number l (at_spot c.args.spot.now)) c.in-Reserved.is)
    c.put-in-Reserved.ensures.put.change
