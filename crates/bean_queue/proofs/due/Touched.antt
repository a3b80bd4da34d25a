-- A job whose time to run begins anew.
use Rattle.std.proofs.Common.{◌≡◌, ℕ, ◌+◌, true, List, Some, refl, sym, ap, ◌∙◌}
use Rattle.std.proofs.lemmas.Bool.{cond-true}
use Rattle.job_store.specs.declared.job.Job.{Job}
use Rattle.job_store.specs.declared.state.State.{State}
use Rattle.job_store.specs.Entries.{Rising, value_at, altered}
use Rattle.job_store.specs.EntryLaws.{altered-alike}
use Rattle.job_store.specs.States.{is_held, with_state}
use Rattle.bean_queue.specs.Queue.{QueueState, with_jobs}
use Rattle.bean_queue.specs.Rows.{Row, is_job_that, touch_row}

pub touched : (s : QueueState) (x id hi : ℕ) (job : Job) (jobs : List (ℕ × Job)) → Rising 0 hi s.jobs
    → value_at id s.jobs ≡ Some job → is_held x job.state ≡ true
    → jobs ≡ altered id (with_state (State.Reserved x (s.now + job.ttr))) s.jobs
    → with_jobs s jobs ≡ (touch_row s x id).state
unfolding touch_row
touched s x id hi job jobs r there held e =
    ap (with_jobs s)
    (e ∙
    altered-alike id 0 hi (with_state (State.Reserved x (s.now + job.ttr)))
    (λ (j : Job). with_state (State.Reserved x (s.now + j.ttr)) j) s.jobs job r there refl) ∙
    sym (ap (λ (r : Row). r.state) (cond-true (is_job_that (is_held x) (value_at id s.jobs)) _ _ (ap (is_job_that (is_held x)) there ∙ held)))
