-- Jobs that are made ready one by one.
use Rattle.std.proofs.Common.{◌≡◌, ℕ, suc, ◌+◌, ◌<◌, ◌≤◌, Bool, true, false, cond, ◌&&◌, inl, inr, List, [], ◌∷◌, filter, length, Some, None}
use Rattle.std.proofs.Common.{◌==◌, refl, sym, ap, subst, ◌∙◌, arith, eq-eqb, ne_eqb, IfSome}
use Rattle.std.proofs.lemmas.Bool.{cases_eq}
use Rattle.object.specs.Lists.{In}
use Rattle.job_store.specs.declared.history.History.{History}
use Rattle.job_store.specs.declared.job.Job.{Job}
use Rattle.job_store.specs.declared.mark.Mark.{Mark}
use Rattle.job_store.specs.declared.state.State.{State}
use Rattle.job_store.specs.Entries.{Rising, value_at, each_value, altered}
use Rattle.job_store.specs.EntryLaws.{value_at-here, value_at-next, value_at-In, altered-none, altered-alike}
use Rattle.job_store.specs.Least.{lesser, least}
use Rattle.job_store.specs.LookUps.{due_of_job}
use Rattle.job_store.specs.Histories.{after_mark}
use Rattle.job_store.specs.States.{marked}
use Rattle.bean_queue.specs.declared.ready_again.Returning.{Returning}
use Rattle.bean_queue.specs.Effects.{is_returning, change_if, has_run_out, run_out, returned_history, returned_job}
use Rattle.bean_queue.specs.TurnLaws.{least-in}

ready-stays : (which : Returning) → is_returning which State.Ready ≡ false
ready-stays (Returning.Due second) = refl
ready-stays (Returning.Held x) = refl

module _ (which : Returning) where
  abbrev passes : ℕ × Job → Bool
  passes e = is_returning which e.1.state

  each-altered : (k lo hi : ℕ) (es : List (ℕ × Job)) (v : Job) → Rising lo hi es → value_at k es ≡ Some v
      → is_returning which v.state ≡ true
      → each_value (change_if (is_returning which) (returned_job which)) (altered k (returned_job which) es)
      ≡ each_value (change_if (is_returning which) (returned_job which)) es
  each-altered k lo hi [] v r e t = refl
  each-altered k lo hi (d ∷ es) v r e t =
      elim (cases_eq k d.0) [
        | inl same ↦
            let passed : is_returning which d.1.state ≡ true = cc (value_at-here k d es same) in
            rw (eq-eqb k d.0 same, ready-stays which, passed, altered-none k (suc d.0) hi (returned_job which) es (omega arith) r.1)
        | inr apart ↦ rw (ne_eqb k d.0 apart, each-altered k (suc d.0) hi es v r.1 (sym (value_at-next k d es apart) ∙ e) t)
      ]

  -- of the job at an id it is counted whether its time to run is over
  run_out-altered : (k lo hi : ℕ) (es : List (ℕ × Job)) (v : Job) → Rising lo hi es → value_at k es ≡ Some v
      → is_returning which v.state ≡ true
      → run_out which es ≡ cond (has_run_out which v.state) 1 0 + run_out which (altered k (returned_job which) es)
  run_out-altered k lo hi [] v r e t = cc
  run_out-altered k lo hi (d ∷ es) v r e t =
      elim (cases_eq k d.0) [
        | inl same ↦
            let passed : is_returning which d.1.state ≡ true = cc (value_at-here k d es same) in
            let there : has_run_out which d.1.state ≡ has_run_out which v.state = cc (value_at-here k d es same) in
            rw (eq-eqb k d.0 same, ready-stays which, passed, there, altered-none k (suc d.0) hi (returned_job which) es (omega arith) r.1)
            (elim (has_run_out which v.state) as (λ b. length (cond b (d ∷ filter (λ e. is_returning which e.1.state && has_run_out which e.1.state) es)
            (filter (λ e. is_returning which e.1.state && has_run_out which e.1.state) es)) ≡ cond b 1 0 + run_out which es)
            [ true ↦ omega arith | false ↦ omega arith ])
        | inr apart ↦
            let rest = run_out-altered k (suc d.0) hi es v r.1 (sym (value_at-next k d es apart) ∙ e) t in
            rw (ne_eqb k d.0 apart)
            (elim (is_returning which d.1.state && has_run_out which d.1.state) as (λ b.
            length (cond b (d ∷ filter (λ e. is_returning which e.1.state && has_run_out which e.1.state) es)
            (filter (λ e. is_returning which e.1.state && has_run_out which e.1.state) es))
            ≡ cond (has_run_out which v.state) 1 0 + length (cond b
            (d ∷ filter (λ e. is_returning which e.1.state && has_run_out which e.1.state) (altered k (returned_job which) es))
            (filter (λ e. is_returning which e.1.state && has_run_out which e.1.state) (altered k (returned_job which) es)))) [
              | true ↦ omega (arith, rest)
              | false ↦ rest
            ])
      ]

  -- how many pass
  pub many : List (ℕ × Job) → ℕ
  many [] = 0
  many (e ∷ es) = cond (is_returning which e.1.state) 1 0 + many es

  fewer_or_same : (k : ℕ) (es : List (ℕ × Job)) → many (altered k (returned_job which) es) ≤ many es
  unfolding many
  fewer_or_same k [] = omega arith
  fewer_or_same k (e ∷ es) =
      let h : many (altered k (returned_job which) es) ≤ many es = fewer_or_same k es in
      elim (k == e.0) as (λ b. cond (is_returning which (cond b (returned_job which e.1) e.1).state) 1 0 + many
      (altered k (returned_job which) es) ≤ cond (is_returning which e.1.state) 1 0 + many es) [
        | true ↦ rw (ready-stays which) (omega arith)
        | false ↦ omega arith
      ]

  fewer : (d : ℕ × Job) (es : List (ℕ × Job)) → In d es → is_returning which d.1.state ≡ true → many (altered d.0 (returned_job which) es) < many es
  unfolding many
  fewer d [] i t = absurd i
  fewer d (e ∷ es) (inl same) t =
      let h : many (altered d.0 (returned_job which) es) ≤ many es = fewer_or_same d.0 es in
      let passed : is_returning which e.1.state ≡ true = cc in
      let here : (d.0 == e.0) ≡ true = eq-eqb d.0 e.0 (cc) in
      rw (here, passed, ready-stays which) (omega arith)
  fewer d (e ∷ es) (inr later) t =
      let h : many (altered d.0 (returned_job which) es) < many es = fewer d es later t in
      elim (d.0 == e.0) as (λ b. cond (is_returning which (cond b (returned_job which e.1) e.1).state) 1 0 + many
      (altered d.0 (returned_job which) es) < cond (is_returning which e.1.state) 1 0 + many es) [
        | true ↦ rw (ready-stays which) (omega arith)
        | false ↦ omega arith
      ]

  -- what is so after the first of them, e, was made ready
  pub record IsOneMore (jobs new : List (ℕ × Job)) (e : ℕ × Job) : Type 0 where
    pub there : In e jobs
    pub all : each_value (change_if (is_returning which) (returned_job which)) new ≡ each_value (change_if (is_returning which) (returned_job which)) jobs
    pub less : many new < many jobs
    pub out : run_out which jobs ≡ cond (has_run_out which e.1.state) 1 0 + run_out which new

  pub one_more : (lo hi : ℕ) (jobs new : List (ℕ × Job)) (e : ℕ × Job) → Rising lo hi jobs
      → least passes due_of_job jobs ≡ Some e → (mark : Mark)
      → ((h : History) → after_mark mark h ≡ returned_history which e.1.state h)
      → new ≡ altered e.0 (marked State.Ready mark) jobs → IsOneMore jobs new e
  one_more lo hi jobs new e r found mark counted made =
      let i : In e jobs × (passes e ≡ true) = subst (λ o. IfSome o (λ y. In y jobs × (passes y ≡ true))) found (least-in passes due_of_job jobs) in
      let n : new ≡ altered e.0 (returned_job which) jobs =
      made ∙ altered-alike e.0 lo hi (marked State.Ready mark) (returned_job which) jobs e.1 r (value_at-In lo hi jobs e r i.0)
      (ap (λ (h : History). let job : Job = record e.1 { state = State.Ready; history = h } in job) (counted e.1.history)) in
      record {
        there = i.0;
        all = ap (each_value (change_if (is_returning which) (returned_job which))) n ∙ each-altered e.0 lo hi jobs e.1 r (value_at-In lo hi jobs e r i.0) i.1;
        less = subst (λ zs. many zs < many jobs) (sym n) (fewer e jobs i.0 i.1);
        out =
            run_out-altered e.0 lo hi jobs e.1 r (value_at-In lo hi jobs e r i.0) i.1 ∙
            ap (λ zs. cond (has_run_out which e.1.state) 1 0 + run_out which zs) (sym n);
      }

  -- where none is left, none is counted
  pub none_out : (jobs : List (ℕ × Job)) → least passes due_of_job jobs ≡ None → run_out which jobs ≡ 0
  none_out [] e = refl
  none_out (d ∷ es) e =
      elim (is_returning which d.1.state) as (λ b. cond b (Some (lesser due_of_job d (least passes due_of_job es))) (least passes due_of_job es) ≡ None
      → length (cond (b && has_run_out which d.1.state) (d ∷ filter (λ e. is_returning which e.1.state && has_run_out which e.1.state) es)
      (filter (λ e. is_returning which e.1.state && has_run_out which e.1.state) es)) ≡ 0) [
        | true ↦ λ e. cc
        | false ↦ λ e. none_out es e
      ] e

  -- and where none is left
  pub none_left : (jobs : List (ℕ × Job)) → least passes due_of_job jobs ≡ None → jobs ≡ each_value (change_if (is_returning which) (returned_job which)) jobs
  none_left [] e = refl
  none_left (d ∷ es) e =
      elim (is_returning which d.1.state) as (λ b. cond b (Some (lesser due_of_job d (least passes due_of_job es)))
      (least passes due_of_job es) ≡ None
      → (d ∷ es) ≡ ((d.0, cond b (returned_job which d.1) d.1) ∷ each_value (change_if (is_returning which) (returned_job which)) es)) [
        | true ↦ λ e. cc
        | false ↦ λ e. ap (λ zs. d ∷ zs) (none_left es e)
      ] e
