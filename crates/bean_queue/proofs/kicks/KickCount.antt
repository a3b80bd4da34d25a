-- How many jobs a kick makes ready.
use Rattle.std.proofs.Common.{◌≡◌, ℕ, zero, suc, ◌+◌, ◌<◌, ◌≤◌, Bool, true, false, cond, ◌||◌, inl, inr, List, [], ◌∷◌}
use Rattle.std.proofs.Common.{filter, length, None, Some, IfSome, is_some, ◌==◌, refl, sym, ap, ◌∙◌, arith, eq-eqb}
use Rattle.std.proofs.Common.{ne_eqb}
use Rattle.std.specs.Prelude.{min}
use Rattle.std.proofs.Math.Nat.{min-zero, zero-min, suc-min-suc}
use Rattle.std.proofs.lemmas.Bool.{cond-true, cond-false}
use Rattle.std.specs.List.{list_any}
use Rattle.object.specs.Lists.{In}
use Rattle.job_store.specs.declared.job.Job.{Job}
use Rattle.job_store.specs.Entries.{Rising, altered}
use Rattle.job_store.specs.EntryLaws.{Rising-altered, altered-none, key_from}
use Rattle.job_store.specs.Least.{lesser, least}
use Rattle.job_store.specs.LookUps.{buried_in, delayed_in, due_of_job, rank_of_job, first_buried, first_delayed}
use Rattle.job_store.specs.States.{kicked_job}
use Rattle.bean_words.specs.declared.reply.Reply.{Reply}
use Rattle.bean_queue.specs.Queue.{QueueState, HasRisingIds, used_by}
use Rattle.bean_queue.specs.Rows.{kicked_option, kicked, kick_row, kickable}
use Rattle.bean_queue.specs.TurnLaws.{least-in, least-none}

-- the job under an id, made ready
abbrev pub made_ready : ℕ → List (ℕ × Job) → List (ℕ × Job)
made_ready id jobs = altered id kicked_job jobs

module _ (test : ℕ × Job → Bool) (unready : (id : ℕ) (job : Job) → test (id, kicked_job job) ≡ false) where
  -- how many pass
  abbrev pub count : List (ℕ × Job) → ℕ
  count jobs = length (filter test jobs)

  pub none-count : (jobs : List (ℕ × Job)) → ((e : ℕ × Job) → In e jobs → test e ≡ true → ⊥) → count jobs ≡ 0
  none-count [] none = refl
  none-count (d ∷ ds) none =
      elim (test d) as (λ b. test d ≡ b → length (cond b (d ∷ filter test ds) (filter test ds)) ≡ 0) [
        | true ↦ λ t. absurd (none d (inl refl) t)
        | false ↦ λ t. none-count ds (λ e i. none e (inr i))
      ] refl

  count-next : (d : ℕ × Job) (ds : List (ℕ × Job)) (b : Bool) → test d ≡ b → count (d ∷ ds) ≡ cond b 1 0 + count ds
  count-next d ds true t = let h : count (d ∷ ds) ≡ suc (count ds) = ap (λ b. length (cond b (d ∷ filter test ds) (filter test ds))) t in omega (arith, h)
  count-next d ds false t = let h : count (d ∷ ds) ≡ count ds = ap (λ b. length (cond b (d ∷ filter test ds) (filter test ds))) t in omega (arith, h)

  -- one that passes is made ready, and is one less
  pub one-less : (lo hi : ℕ) (jobs : List (ℕ × Job)) (e : ℕ × Job) → Rising lo hi jobs → In e jobs → test e ≡ true
      → count jobs ≡ suc (count (made_ready e.0 jobs))
  one-less lo hi [] e r i t = absurd i
  one-less lo hi (d ∷ ds) e r (inl same) t =
      let before : count (d ∷ ds) ≡ 1 + count ds = count-next d ds true (ap test (sym same) ∙ t) in
      let head : cond (e.0 == d.0) (kicked_job d.1) d.1 ≡ kicked_job d.1 =
      cond-true (e.0 == d.0) _ d.1 (eq-eqb e.0 d.0 (ap (λ p. p.0) same)) in
      let below : e.0 < suc d.0 = omega (arith, ap (λ (p : ℕ × Job). p.0) same) in
      let tail : made_ready e.0 ds ≡ ds = altered-none e.0 (suc d.0) hi kicked_job ds below r.1 in
      let after : count (made_ready e.0 (d ∷ ds)) ≡ 0 + count (made_ready e.0 ds) =
      count-next (d.0, cond (e.0 == d.0) (kicked_job d.1) d.1) (made_ready e.0 ds) false
      (ap (λ job. test (d.0, job)) head ∙ unready d.0 d.1) in
      omega (arith, before, after, ap count tail)
  one-less lo hi (d ∷ ds) e r (inr later) t =
      let above : suc d.0 ≤ e.0 = key_from (suc d.0) hi ds e r.1 later in
      let head : cond (e.0 == d.0) (kicked_job d.1) d.1 ≡ d.1 =
      cond-false (e.0 == d.0) _ d.1 (ne_eqb e.0 d.0 (λ same. omega (arith, above, same))) in
      let rest : count ds ≡ suc (count (made_ready e.0 ds)) = one-less (suc d.0) hi ds e r.1 later t in
      let before : count (d ∷ ds) ≡ cond (test d) 1 0 + count ds = count-next d ds (test d) refl in
      let after : count (made_ready e.0 (d ∷ ds)) ≡ cond (test d) 1 0 + count (made_ready e.0 ds) =
      count-next (d.0, cond (e.0 == d.0) (kicked_job d.1) d.1) (made_ready e.0 ds) (test d)
      (ap (λ job. test (d.0, job)) head) in
      omega (arith, before, after, rest)

  kicked-count : (by : Job → ℕ) (n hi : ℕ) (jobs : List (ℕ × Job)) → Rising 1 hi jobs → (kicked (least test by) n jobs).count ≡ min n (count jobs)
  unfolding kicked
  kicked-count by zero hi jobs r = sym (zero-min (count jobs))
  kicked-count by (suc n) hi jobs r =
      elim (least test by jobs) as (λ o. least test by jobs ≡ o → IfSome o (λ e. In e jobs × (test e ≡ true))
      → (kicked_option (kicked (least test by) n) jobs o).count ≡ min (suc n) (count jobs)) [
        | None ↦ λ e h. sym (ap (min (suc n)) (none-count jobs (λ x i t. least-none test by jobs x e i t)) ∙ min-zero (suc n))
        | Some e ↦ λ f h.
            let more = kicked-count by n hi (made_ready e.0 jobs) (Rising-altered e.0 kicked_job 1 hi jobs r) in
            let less : count jobs ≡ suc (count (made_ready e.0 jobs)) = one-less 1 hi jobs e r h.0 h.1 in
            let one : (kicked (least test by) n (made_ready e.0 jobs)).count + 1 ≡ suc (min n (count (made_ready e.0 jobs))) = omega (arith, more) in
            one ∙ sym (ap (min (suc n)) less ∙ suc-min-suc n (count (made_ready e.0 jobs)))
      ] refl (least-in test by jobs)

pub is_some-least : (test : ℕ × Job → Bool) (by : Job → ℕ) (jobs : List (ℕ × Job)) → is_some (least test by jobs) ≡ list_any test jobs
is_some-least test by [] = refl
is_some-least test by (e ∷ es) =
    elim (test e) as (λ b. is_some (cond b (Some (lesser by e (least test by es))) (least test by es)) ≡ (b || list_any test es)) [
      | true ↦ refl
      | false ↦ is_some-least test by es
    ]

pub kick-counts : (s : QueueState) (x bound : ℕ) → HasRisingIds s
    → (kick_row s x bound).reply ≡ Some (Reply.KickedCount (min bound (length (kickable (used_by s x) s.jobs))))
unfolding kick_row
kick-counts s x bound sound =
    let tube = used_by s x in
    ap (λ b. Some (Reply.KickedCount
    (kicked (cond b (first_buried (used_by s x)) (first_delayed (used_by s x))) bound s.jobs).count))
    (is_some-least (buried_in (used_by s x)) rank_of_job s.jobs) ∙
    elim (list_any (buried_in (used_by s x)) s.jobs) as (λ b. Some
    (Reply.KickedCount (kicked (cond b (first_buried (used_by s x)) (first_delayed (used_by s x))) bound
    s.jobs).count) ≡ Some (Reply.KickedCount
    (min bound (length (cond b (filter (buried_in (used_by s x)) s.jobs)
    (filter (delayed_in (used_by s x)) s.jobs)))))) [
      | true ↦ ap (λ n. Some (Reply.KickedCount n)) (kicked-count (buried_in (used_by s x)) (λ id job. refl) rank_of_job bound s.next_id s.jobs sound)
      | false ↦ ap (λ n. Some (Reply.KickedCount n)) (kicked-count (delayed_in (used_by s x)) (λ id job. refl) due_of_job bound s.next_id s.jobs sound)
    ]
