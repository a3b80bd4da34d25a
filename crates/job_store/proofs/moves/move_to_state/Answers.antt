use Rattle.std.proofs.Common.{◌++◌, ◌∷◌, [], Some, refl, sym, ap, ◌∙◌}
use Rattle.job_store.specs.declared.job.Job.{Job}
use Rattle.job_store.specs.Entries.{value_at}
use Rattle.job_store.specs.Spots.{spot_of, changed_spot}
use Rattle.job_store.specs.States.{marked}
use Rattle.job_store.specs.EntryLaws.{altered-absent}
use Rattle.job_store.proofs.shelving.Following.{moves-none, moves-nothing, followed-altered, grown-moved, stored-only, stored-come}
use Rattle.job_store.proofs.moves.move_to_state.Goals as goal

pub returns-in_default-clause-moved : goal.returns-in_default-clause-moved
returns-in_default-clause-moved c =
    moves-nothing c.args.shelves.now c.args.jobs.now _
    (sym (altered-absent c.args.id (marked c.args.state c.args.mark) c.args.jobs.now.jobs
    (ap (value_at c.args.id) (sym c.by_id.ensures.jobs) ∙ sym c.in_default.ensures.value)))
    c.by_id.ensures.rising

pub returns-in_err-put_changed-clause-moved : goal.returns-in_err-put_changed-clause-moved
returns-in_err-put_changed-clause-moved c =
    moves-none c.args.shelves.now c.put_changed.new.self c.args.jobs.now c.args.jobs.now _ c.from_residual.result
    c.from_residual.ensures.0 refl refl c.by_id.ensures.rising
    c.in_err-put_changed.ensures.put.grown c.in_err-put_changed.ensures.put.doubt

pub returns-in_err-set_state-clause-moved : goal.returns-in_err-set_state-clause-moved
returns-in_err-set_state-clause-moved c =
    moves-none c.args.shelves.now c.put_changed.new.self c.args.jobs.now c.set_state.new.self _
    c.from_residual-in_err-set_state.result c.from_residual-in_err-set_state.ensures.0 c.in_err-set_state.ensures.err
    c.in_err-set_state.ensures.before c.in_err-set_state.ensures.rising c.in_ok-put_changed.ensures.put.grown
    c.in_ok-put_changed.ensures.put.doubt

pub returns-clause-moved : goal.returns-clause-moved
returns-clause-moved c = record {
  ok = c.in_ok-set_state.ensures.ok;
  err = tt;
  rising = c.in_ok-set_state.ensures.rising;
  before = c.in_ok-set_state.ensures.before;
  grown = grown-moved c.args.shelves.now c.put_changed.new.self c.keep_last.new.self c.keep_last.ensures.shelves
      c.keep_last.ensures.came c.in_ok-put_changed.ensures.put.grown;
  followed = followed-altered c.args.shelves.now c.put_changed.new.self c.keep_last.new.self c.args.id _ _
      (marked c.args.state c.args.mark) c.as_job-job.result.now c.args.jobs.now.jobs
      c.set_state.new.self.jobs c.by_id.ensures.rising
      (ap (λ (j : Job). Some j) c.as_job-job.ensures ∙ c.in-Some.ensures.value ∙ ap (value_at c.args.id) c.by_id.ensures.jobs) c.in_ok-set_state.ensures.ok
      c.keep_last.ensures.shelves
      (c.keep_last.ensures.went (c.args.shelves.now.went.items ++ (c.args.id, spot_of c.as_job-job.result.now) ∷ []) _
      c.in_ok-put_changed.ensures.went)
      (stored-only c.args.shelves.now c.args.shelves.now c.put_changed.new.self c.args.id
      (marked c.args.state c.args.mark c.as_job-job.result.now) (changed_spot c.as_job-job.result.now.pri c.args.state c.as_job-job.result.now)
      refl (λ l. refl) c.in_ok-put_changed.ensures.put.only)
      (stored-come c.put_changed.new.self c.args.id (marked c.args.state c.args.mark c.as_job-job.result.now)
      (changed_spot c.as_job-job.result.now.pri c.args.state c.as_job-job.result.now) refl c.in_ok-put_changed.ensures.put.come);
}
