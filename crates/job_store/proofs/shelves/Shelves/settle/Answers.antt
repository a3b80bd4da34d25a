use Rattle.std.proofs.Common.{refl}
use Rattle.job_store.specs.declared.label.Label.{Label}
use Rattle.job_store.proofs.shelving.Shelving.{settled-twice}
use Rattle.job_store.proofs.shelving.ShelfFields.{only-held, only-scheduled, settle-at, settle-ready, settle-delayed, settle-buried, settle-reserved}
use Rattle.job_store.proofs.shelves.Shelves.settle.Goals as goal

pub returns-in-Ready : goal.returns-in-Ready
returns-in-Ready c = settle-ready c.args.self.now c.settle.new.self c.args.jobs.now.entries c.settle.ensures.change c.settle.ensures.others

pub returns-in-Buried : goal.returns-in-Buried
returns-in-Buried c = settle-buried c.args.self.now c.settle-in-Buried.new.self c.args.jobs.now.entries
    c.settle-in-Buried.ensures.change c.settle-in-Buried.ensures.others

pub returns-in-Delayed : goal.returns-in-Delayed
returns-in-Delayed c =
    settled-twice c.args.self.now (record c.args.self.now { delayed = c.settle-in-Delayed.new.self })
    (record c.args.self.now { delayed = c.settle-in-Delayed.new.self; scheduled = c.settle-in-Delayed-2.new.self })
    c.args.jobs.now.entries
    (settle-delayed c.args.self.now c.settle-in-Delayed.new.self c.args.jobs.now.entries
    c.settle-in-Delayed.ensures.change c.settle-in-Delayed.ensures.others)
    (settle-at (record c.args.self.now { delayed = c.settle-in-Delayed.new.self })
    (record (record c.args.self.now { delayed = c.settle-in-Delayed.new.self }) {
      scheduled =
          c.settle-in-Delayed-2.new.self;
    }) Label.Scheduled
    (only-scheduled (record c.args.self.now { delayed = c.settle-in-Delayed.new.self })
    c.settle-in-Delayed-2.new.self) refl c.args.jobs.now.entries c.settle-in-Delayed-2.ensures)

pub returns-in-Reserved : goal.returns-in-Reserved
returns-in-Reserved c =
    settled-twice c.args.self.now (record c.args.self.now {
      held = c.settle-in-Reserved.new.self;
      scheduled =
          c.settle-in-Reserved-2.new.self;
    })
    (record c.args.self.now {
      held = c.settle-in-Reserved.new.self;
      scheduled =
          c.settle-in-Reserved-2.new.self;
      reserved = c.settle-in-Reserved-3.new.self;
    }) c.args.jobs.now.entries
    (settled-twice c.args.self.now (record c.args.self.now { held = c.settle-in-Reserved.new.self })
    (record c.args.self.now { held = c.settle-in-Reserved.new.self; scheduled = c.settle-in-Reserved-2.new.self })
    c.args.jobs.now.entries
    (settle-at c.args.self.now (record c.args.self.now { held = c.settle-in-Reserved.new.self })
    (Label.Held c.in-Reserved.session)
    (only-held c.args.self.now c.settle-in-Reserved.new.self c.in-Reserved.session
    c.settle-in-Reserved.ensures.others) refl c.args.jobs.now.entries c.settle-in-Reserved.ensures.change)
    (settle-at (record c.args.self.now { held = c.settle-in-Reserved.new.self })
    (record (record c.args.self.now { held = c.settle-in-Reserved.new.self }) {
      scheduled =
          c.settle-in-Reserved-2.new.self;
    }) Label.Scheduled
    (only-scheduled (record c.args.self.now { held = c.settle-in-Reserved.new.self })
    c.settle-in-Reserved-2.new.self) refl c.args.jobs.now.entries c.settle-in-Reserved-2.ensures))
    (settle-reserved (record c.args.self.now {
      held = c.settle-in-Reserved.new.self;
      scheduled =
          c.settle-in-Reserved-2.new.self;
    }) c.settle-in-Reserved-3.new.self c.args.jobs.now.entries
    c.settle-in-Reserved-3.ensures.change c.settle-in-Reserved-3.ensures.others)
