-- What is left where changes are taken back.
use Rattle.std.proofs.Common.{◌≡◌, ℕ, Bool, true, false, List, [], ◌∷◌, ◌++◌, Option, None, Some, nat_cmp, refl, sym, ap, ap₂, subst, ◌∙◌}
use Rattle.std.proofs.lemmas.List.{append-nil}
use Rattle.std.specs.BTreeMap.{insert_entry}
use Rattle.job_store.specs.declared.job.Job.{Job}
use Rattle.job_store.specs.declared.undo.Undo.{Undo}
use Rattle.job_store.specs.Entries.{Rising, value_at, with_value, altered}
use Rattle.job_store.specs.Undone.{undone, all_undone, set_to, set_back, put_back, with_log}
use Rattle.job_store.specs.EntryLaws.{Rising-altered, Rising-without, altered-back, altered-absent, without-insert}
use Rattle.job_store.proofs.maps.Entries.{insert_entry-altered}

-- The last one is taken back first

pub undone-push : (log : List Undo) (u : Undo) (jobs : List (ℕ × Job)) → all_undone (log ++ (u ∷ [])) jobs ≡ all_undone log (undone u jobs)
undone-push [] u jobs = refl
undone-push (d ∷ log) u jobs = ap (undone d) (undone-push log u jobs)

pub Rising-undone : (lo hi : ℕ) (u : Undo) (jobs : List (ℕ × Job)) → Rising lo hi jobs → Rising lo hi (undone u jobs)
Rising-undone lo hi (Undo.TakeOut id) jobs r = Rising-without id lo hi jobs r
Rising-undone lo hi (Undo.PutBack id job) jobs r = Rising-altered id (λ _. job) lo hi jobs r
Rising-undone lo hi (Undo.SetBack id pri state history) jobs r = Rising-altered id (set_to pri state history) lo hi jobs r

pub Rising-all_undone : (lo hi : ℕ) (log : List Undo) (jobs : List (ℕ × Job)) → Rising lo hi jobs → Rising lo hi (all_undone log jobs)
Rising-all_undone lo hi [] jobs r = r
Rising-all_undone lo hi (u ∷ log) jobs r = Rising-undone lo hi u (all_undone log jobs) (Rising-all_undone lo hi log jobs r)

-- A change of priority or state, and what was noted for it

set-undone : (id lo hi : ℕ) (f : Job → Job) (log : List Undo) (o : Option Job) (jobs : List (ℕ × Job))
    → ((job : Job) → set_to job.pri job.state job.history (f job) ≡ job) → Rising lo hi jobs → value_at id jobs ≡ o
    → all_undone (log ++ set_back true id o) (altered id f jobs) ≡ all_undone log jobs
set-undone id lo hi f log None jobs back r e =
    ap (λ us. all_undone us (altered id f jobs)) (append-nil log) ∙ ap (all_undone log) (altered-absent id f jobs e)
set-undone id lo hi f log (Some job) jobs back r e =
    undone-push log _ (altered id f jobs) ∙
    ap (all_undone log) (altered-back id lo hi f (set_to job.pri job.state job.history) jobs job r e (back job))

-- the jobs before a trial stay at a change that was noted
-- where there is no job, nothing is noted
pub noted-none : (is_trial : Bool) (id : ℕ) (o : Option Job) (log : List Undo) → o ≡ None → log ≡ log ++ set_back is_trial id o
noted-none false id o log e = sym (append-nil log)
noted-none true id o log e = subst (λ o. log ≡ log ++ set_back true id o) (sym e) (sym (append-nil log))

pub before-set : (is_trial : Bool) (id lo hi : ℕ) (f : Job → Job) (log after : List Undo) (jobs new : List (ℕ × Job))
    → ((job : Job) → set_to job.pri job.state job.history (f job) ≡ job) → Rising lo hi jobs
    → after ≡ log ++ set_back is_trial id (value_at id jobs) → new ≡ altered id f jobs
    → (with_log is_trial after new).before ≡ (with_log is_trial log jobs).before
before-set false id lo hi f log after jobs new back r l n = refl
before-set true id lo hi f log after jobs new back r l n =
    ap Some (ap₂ all_undone l n ∙ set-undone id lo hi f log (value_at id jobs) jobs back r refl)

-- A job that was put, and what was noted for it

put-undone : (id lo hi : ℕ) (new : Job) (log : List Undo) (o : Option Job) (jobs : List (ℕ × Job)) → Rising lo hi jobs
    → value_at id jobs ≡ o → all_undone (log ++ (put_back id o ∷ [])) (insert_entry nat_cmp jobs id new)
    ≡ all_undone log jobs
put-undone id lo hi new log None jobs r e =
    undone-push log (Undo.TakeOut id) (insert_entry nat_cmp jobs id new) ∙ ap (all_undone log) (without-insert id new jobs e)
put-undone id lo hi new log (Some job) jobs r e =
    undone-push log (Undo.PutBack id job) (insert_entry nat_cmp jobs id new) ∙
    ap (λ zs. all_undone log (altered id (λ _. job) zs)) (insert_entry-altered id lo hi (λ _. new) job jobs r e) ∙
    ap (all_undone log) (altered-back id lo hi (λ _. new) (λ _. job) jobs job r e refl)

-- the jobs before a trial stay where a job was put in it
pub before-put : (is_trial : Bool) (id lo hi : ℕ) (job : Job) (log after : List Undo) (jobs new : List (ℕ × Job))
    → is_trial ≡ true → Rising lo hi jobs → after ≡ log ++ (put_back id (value_at id jobs) ∷ [])
    → new ≡ with_value id job jobs → (with_log is_trial after new).before ≡ (with_log is_trial log jobs).before
before-put false id lo hi job log after jobs new t r l n = refl
before-put true id lo hi job log after jobs new t r l n =
    ap Some (ap₂ all_undone l n ∙ put-undone id lo hi job log (value_at id jobs) jobs r refl)

-- One change of a log is taken back, the last one
pub one-undone : (lo hi : ℕ) (u : Undo) (old log : List Undo) (jobs new all : List (ℕ × Job)) → old ≡ log ++ (u ∷ [])
    → new ≡ undone u jobs → all_undone old jobs ≡ all → Rising lo hi jobs → (all_undone log new ≡ all)
    × Rising lo hi new
one-undone lo hi u old log jobs new all o n h r = (
  ap (all_undone log) n ∙ sym (undone-push log u jobs) ∙ ap (λ us. all_undone us jobs) (sym o) ∙ h,
  subst (λ zs. Rising lo hi zs) (sym n) (Rising-undone lo hi u jobs r),
)
