use Rattle.std.proofs.Common.{refl}
use Rattle.job_store.specs.declared.label.Label.{Label}
use Rattle.job_store.proofs.shelving.ShelfFields.{only-ready, only-delayed, only-buried, only-held, only-scheduled, only-reserved, reach-at}
use Rattle.job_store.proofs.shelves.Shelves.reach_on.Goals as goal

pub returns-in-Ready-clause-back : goal.returns-in-Ready-clause-back
returns-in-Ready-clause-back c =
    reach-at c.args.self.now (record c.args.self.now { ready = c.reach.new.self }) (Label.Ready c.in-Ready.tube)
    (only-ready c.args.self.now c.reach.new.self c.in-Ready.tube c.reach.ensures.others) refl
    (c.args.spot.now.pri, c.args.id) c.reach.ensures.change

pub returns-in-Delayed-clause-back : goal.returns-in-Delayed-clause-back
returns-in-Delayed-clause-back c =
    reach-at c.args.self.now (record c.args.self.now { delayed = c.reach-in-Delayed.new.self })
    (Label.Delayed c.in-Delayed.tube)
    (only-delayed c.args.self.now c.reach-in-Delayed.new.self c.in-Delayed.tube c.reach-in-Delayed.ensures.others)
    refl (c.number-number.result, c.args.id) c.reach-in-Delayed.ensures.change

pub returns-in-Buried-clause-back : goal.returns-in-Buried-clause-back
returns-in-Buried-clause-back c =
    reach-at c.args.self.now (record c.args.self.now { buried = c.reach-in-Buried.new.self })
    (Label.Buried c.in-Buried.tube)
    (only-buried c.args.self.now c.reach-in-Buried.new.self c.in-Buried.tube c.reach-in-Buried.ensures.others) refl
    (c.number-number.result, c.args.id) c.reach-in-Buried.ensures.change

pub returns-in-Held-clause-back : goal.returns-in-Held-clause-back
returns-in-Held-clause-back c =
    reach-at c.args.self.now (record c.args.self.now { held = c.reach-in-Held.new.self }) (Label.Held c.in-Held.session)
    (only-held c.args.self.now c.reach-in-Held.new.self c.in-Held.session c.reach-in-Held.ensures.others) refl
    (c.number-number.result, c.args.id) c.reach-in-Held.ensures.change

pub returns-in-Scheduled-clause-back : goal.returns-in-Scheduled-clause-back
returns-in-Scheduled-clause-back c =
    reach-at c.args.self.now (record c.args.self.now { scheduled = c.reach-in-Scheduled.new.self }) Label.Scheduled
    (only-scheduled c.args.self.now c.reach-in-Scheduled.new.self) refl
    (c.number-number.result, c.args.id) c.reach-in-Scheduled.ensures

pub returns-in-Reserved-clause-back : goal.returns-in-Reserved-clause-back
returns-in-Reserved-clause-back c =
    reach-at c.args.self.now (record c.args.self.now { reserved = c.reach-in-Reserved.new.self })
    (Label.Reserved c.in-Reserved.tube)
    (only-reserved c.args.self.now c.reach-in-Reserved.new.self c.in-Reserved.tube
    c.reach-in-Reserved.ensures.others) refl (c.number-number.result, c.args.id) c.reach-in-Reserved.ensures.change
