use Rattle.std.proofs.Common.{refl, ap, ◌∙◌}
use Rattle.job_store.specs.Entries.{value_at}
use Rattle.job_store.proofs.shelving.Shelving.{grown-twice, doubt-twice, same-grown, same-doubt, still-listed}
use Rattle.job_store.proofs.shelving.Following.{moves-none, followed-put, grown-moved, stored-only, stored-come}
use Rattle.job_store.proofs.moves.store.Goals as goal

pub returns-in_err-spot : goal.returns-in_err-spot
returns-in_err-spot c =
    moves-none c.args.shelves.now c.args.shelves.now c.args.jobs.now c.args.jobs.now _
    c.from_residual.result c.from_residual.ensures.0 refl refl c.by_id.ensures.rising
    (same-grown _ _ (λ l. refl) (λ e i. i)) (same-doubt _ _ (λ l. refl) (λ e i. i))

pub returns-in_err-leave_at : goal.returns-in_err-leave_at
returns-in_err-leave_at c =
    let more = c.in_err-leave_at.ensures.more in
    moves-none c.args.shelves.now c.leave_at.new.self c.args.jobs.now c.args.jobs.now _
    c.from_residual-in_err-leave_at.result c.from_residual-in_err-leave_at.ensures.0 refl refl c.by_id.ensures.rising
    (same-grown _ _ more.shelves more.came) (same-doubt _ _ more.shelves more.went)

pub returns-in_err-put : goal.returns-in_err-put
returns-in_err-put c =
    let more = c.in_ok-leave_at.ensures.more in
    moves-none c.args.shelves.now c.put.new.self c.args.jobs.now c.args.jobs.now _
    c.from_residual-in_err-put.result c.from_residual-in_err-put.ensures.0 refl refl c.by_id.ensures.rising
    (grown-twice c.args.shelves.now c.leave_at.new.self c.put.new.self (same-grown _ _ more.shelves more.came)
    c.in_err-put.ensures.put.grown)
    (doubt-twice c.args.shelves.now c.leave_at.new.self c.put.new.self (same-doubt _ _ more.shelves more.went)
    c.in_err-put.ensures.put.doubt)

pub returns-in_err-insert : goal.returns-in_err-insert
returns-in_err-insert c =
    let more = c.in_ok-leave_at.ensures.more in
    moves-none c.args.shelves.now c.put.new.self c.args.jobs.now c.insert.new.self _
    c.from_residual-in_err-insert.result c.from_residual-in_err-insert.ensures.0 c.in_err-insert.ensures.err
    c.in_err-insert.ensures.before c.in_err-insert.ensures.rising
    (grown-twice c.args.shelves.now c.leave_at.new.self c.put.new.self (same-grown _ _ more.shelves more.came)
    c.in_ok-put.ensures.put.grown)
    (doubt-twice c.args.shelves.now c.leave_at.new.self c.put.new.self (same-doubt _ _ more.shelves more.went)
    c.in_ok-put.ensures.put.doubt)

pub returns : goal.returns
returns c =
    let more = c.in_ok-leave_at.ensures.more in
    record {
      ok = c.in_ok-insert.ensures.ok;
      err = tt;
      rising = c.in_ok-insert.ensures.rising;
      before = c.in_ok-insert.ensures.before;
      grown = grown-moved c.args.shelves.now c.put.new.self c.keep_last.new.self c.keep_last.ensures.shelves
          c.keep_last.ensures.came (grown-twice c.args.shelves.now c.leave_at.new.self c.put.new.self
          (same-grown _ _ more.shelves more.came) c.in_ok-put.ensures.put.grown);
      followed = followed-put c.args.shelves.now c.put.new.self c.keep_last.new.self c.args.id _ _ c.args.job
          c.args.jobs.now.jobs c.insert.new.self.jobs c.by_id.ensures.rising
          (λ e i. still-listed c.leave_at.new.self.went.items c.keep_last.new.self.went.items
          (c.keep_last.ensures.went c.leave_at.new.self.went.items _ c.in_ok-put.ensures.went) e (more.went e i))
          (λ old there. still-listed c.leave_at.new.self.went.items c.keep_last.new.self.went.items
          (c.keep_last.ensures.went c.leave_at.new.self.went.items _ c.in_ok-put.ensures.went) (c.args.id, old)
          (c.in_ok-leave_at.ensures.ok old (ap (value_at c.args.id) c.by_id-2.ensures.jobs ∙ there)))
          c.in_ok-insert.ensures.ok c.keep_last.ensures.shelves
          (stored-only c.args.shelves.now c.leave_at.new.self c.put.new.self c.args.id c.args.job c.in_ok-spot.spot
          c.in_ok-spot.ensures more.shelves c.in_ok-put.ensures.put.only)
          (stored-come c.put.new.self c.args.id c.args.job c.in_ok-spot.spot c.in_ok-spot.ensures c.in_ok-put.ensures.put.come);
    }
