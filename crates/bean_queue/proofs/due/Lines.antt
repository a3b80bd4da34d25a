-- Sessions that have a job due by a second, in the order in which they are told.
use Rattle.std.proofs.Common.{◌≡◌, ℕ, ◌<◌, ◌^◌, Bool, true, false, cond, ◌&&◌, ◌==◌, ◌⊎◌, inl, inr, List, [], ◌∷◌, Option, Some, None, IfSome}
use Rattle.std.proofs.Common.{zero, suc, length, get_or, refl, sym, ap, subst, ◌∙◌, arith, eq-eqb, eqb-true, true≢false}
use Rattle.std.proofs.lemmas.Bool.{and_parts, and_from, cond-true}
use Rattle.std.specs.List.{list_any}
use Rattle.std.specs.BTreeMap.{is_at}
use Rattle.std.specs.BTreeSet.{contains, IsLowerBound}
use Rattle.object.specs.Lists.{In}
use Rattle.job_store.specs.declared.job.Job.{Job}
use Rattle.job_store.specs.Entries.{Rising, value_at}
use Rattle.job_store.specs.EntryLaws.{value_at-In, altered-in}
use Rattle.job_store.proofs.least.Least.{least-only, least-nothing}
use Rattle.job_store.proofs.maps.Members.{value-in}
use Rattle.job_store.proofs.shelving.Places.{at_place}
use Rattle.session_store.specs.declared.session.SessionState.{SessionState}
use Rattle.session_store.specs.declared.session.Wait.{Wait}
use Rattle.session_store.specs.Sessions.{first_waiting, is_waiting, wait_rank, with_wait, with_wait_ended}
use Rattle.session_store.proofs.TubeSets.{stays_but}
use Rattle.bean_queue.specs.declared.holder_line.HolderLine.{HolderLine}
use Rattle.bean_queue.specs.Holders.{HasHolders}
use Rattle.bean_queue.specs.HolderLines.{rank_cmp, holder_place, holder_at, HasAllHolders, HaveJoined, IsInLine}
use Rattle.bean_queue.specs.Queue.{holds_by}
use Rattle.bean_queue.proofs.best.Offering.{is_above}
use Rattle.bean_queue.proofs.best.Takable.{chosen}

-- each holder is among these numbers, and each of them has joined
pub all-joined : (line : HolderLine) (numbers : List ℕ) (second : ℕ) (jobs : List (ℕ × Job)) (sessions : List (ℕ × SessionState))
    → HasHolders numbers second jobs sessions → HaveJoined line numbers sessions → HasAllHolders line second jobs sessions
all-joined line numbers second jobs sessions holders joined w i waits holds = joined w i waits (holders w i waits holds)

the_entry : (d e : ℕ × SessionState) → Some d ≡ Some e → d ≡ e
the_entry d e h = cc

no_entry : (e : ℕ × SessionState) → None ≡ Some e → ⊥
no_entry e h = cc

module _ (second : ℕ) (jobs : List (ℕ × Job)) (sessions : List (ℕ × SessionState)) (r : Rising 0 (2 ^ 32) sessions) where
  abbrev is_holder : ℕ × SessionState → Bool
  is_holder e = is_waiting e.1 && holds_by e.0 second jobs

  abbrev shown : ℕ × ℕ → Option SessionState → Option (ℕ × SessionState)
  shown p o =
      elim o as (λ _. Option (ℕ × SessionState)) [
        | None ↦ None
        | Some c ↦ cond ((is_waiting c && holds_by p.1 second jobs) && wait_rank c == p.0) (Some (p.1, c)) None
      ]

  -- Who is seen at a place

  seen-from : (p : ℕ × ℕ) (e : ℕ × SessionState) → holder_at second jobs sessions p ≡ Some e → In e sessions × (is_holder e ≡ true) × (p ≡ holder_place e)
  seen-from p e seen =
      elim (value_at p.1 sessions) as (λ o. value_at p.1 sessions ≡ o → shown p o ≡ Some e
      → In e sessions × (is_holder e ≡ true) × (p ≡ holder_place e)) [
        | None ↦ λ _ never. absurd (no_entry e never)
        | Some c ↦ λ there found.
            let both = chosen ((is_waiting c && holds_by p.1 second jobs) && wait_rank c == p.0) (Some (p.1, c)) e found in
            let tests = and_parts (is_waiting c && holds_by p.1 second jobs) (wait_rank c == p.0) both.0 in
            subst (λ d. In d sessions × (is_holder d ≡ true) × (p ≡ holder_place d)) (the_entry (p.1, c) e both.1)
            (value-in p.1 c sessions there, tests.0, ap (λ n. (n, p.1)) (sym (eqb-true (wait_rank c) p.0 tests.1)))
      ] refl seen

  seen-at : (w : ℕ × SessionState) → In w sessions → is_holder w ≡ true → holder_at second jobs sessions (holder_place w) ≡ Some w
  seen-at w i t =
      ap (shown (holder_place w)) (value_at-In 0 (2 ^ 32) sessions w r i) ∙
      cond-true (is_holder w && wait_rank w.1 == wait_rank w.1) (Some w) None
      (and_from (is_holder w) (wait_rank w.1 == wait_rank w.1) t (eq-eqb (wait_rank w.1) (wait_rank w.1) refl))

  -- Who is told, and who is left

  module _ (line : HolderLine) (all : HasAllHolders line second jobs sessions) where
    stands : (w : ℕ × SessionState) → In w sessions → is_holder w ≡ true → IsInLine line (holder_place w)
    stands w i t = let both = and_parts (is_waiting w.1) (holds_by w.0 second jobs) t in all w i both.0 both.1

    -- who stands at the first place is told next
    pub first-told : (k : ℕ × ℕ) (e : ℕ × SessionState) → IsLowerBound rank_cmp line.places k
        → Some e ≡ holder_at second jobs sessions k → Some e ≡ first_waiting (λ e. holds_by e.0 second jobs) sessions
    first-told k e lowest seen =
        let at = seen-from k e (sym seen) in
        sym (least-only is_holder wait_rank sessions 0 (2 ^ 32) e r (record {
          member = at.0;
          passes = at.1;
          least = λ d i t before.
              true≢false
              (sym (is_above k (holder_place d)
              (subst (λ (p : ℕ × ℕ). (wait_rank d.1 < p.0) ⊎ ((wait_rank d.1 ≡ p.0) × (d.0 < p.1))) (sym at.2) before)) ∙
              lowest (holder_place d) (stands d i t));
        }))

    -- in an empty line nobody stands
    pub nobody-told : line.places.keys ≡ [] → None ≡ first_waiting (λ e. holds_by e.0 second jobs) sessions
    nobody-told empty =
        least-nothing is_holder wait_rank sessions
        (λ e i t. true≢false (sym (stands e i t) ∙ ap (λ ps. list_any (is_at (rank_cmp (holder_place e))) ps) empty))

    module _ (line' : HolderLine) (k : ℕ × ℕ)
        (taken : (p : ℕ × ℕ) → contains rank_cmp line'.places p ≡ cond (is_at (rank_cmp k) p) false (contains rank_cmp line.places p)) where
      stays : (p : ℕ × ℕ) → (k ≡ p → ⊥) → IsInLine line p → IsInLine line' p
      stays p apart i = stays_but rank_cmp at_place k p line.places line'.places (taken p) apart i

      -- where nobody stands at the first place, all others stand
      pub still-all : None ≡ holder_at second jobs sessions k → HasAllHolders line' second jobs sessions
      still-all none w i waits holds =
          stays (holder_place w)
          (λ same. no_entry w (none ∙ ap (holder_at second jobs sessions) same ∙
          seen-at w i (and_from (is_waiting w.1) (holds_by w.0 second jobs) waits holds)))
          (all w i waits holds)

      -- and so they do when the wait of the one who stood there has ended
      pub left-all : (e : ℕ × SessionState) → Some e ≡ holder_at second jobs sessions k → HasAllHolders line' second jobs (with_wait_ended e.0 sessions)
      left-all e seen =
          let at = seen-from k e (sym seen) in
          altered-in e.0 (with_wait None)
          (λ w. is_waiting w.1 ≡ true → holds_by w.0 second jobs ≡ true → IsInLine line' (holder_place w)) sessions
          (λ d i.
          elim (e.0 == d.0) as (λ b. (e.0 == d.0) ≡ b → is_waiting (cond b (with_wait None d.1) d.1) ≡ true
          → holds_by d.0 second jobs ≡ true → IsInLine line' (holder_place (d.0, cond b (with_wait None d.1) d.1))) [
            | true ↦ λ _ t _. cc
            | false ↦ λ apart t holds.
                stays (holder_place d)
                (λ same. true≢false (sym (eq-eqb e.0 d.0 (ap (λ (q : ℕ × ℕ). q.1) (sym at.2 ∙ same))) ∙ apart))
                (all d i t holds)
          ] refl)

-- A line that is made

-- each waiting session with one of these numbers stands in the line, or its number is still to come
abbrev pub AreJoined : HolderLine → List ℕ → List ℕ → List (ℕ × SessionState) → Type 0
AreJoined line numbers rest sessions =
    (w : ℕ × SessionState) → In w sessions → is_waiting w.1 ≡ true → In w.0 numbers → In w.0 rest ⊎ IsInLine line (holder_place w)

pub joined-one : (line line' : HolderLine) (numbers items rest : List ℕ) (number : ℕ) (sessions : List (ℕ × SessionState))
    → Rising 0 (2 ^ 32) sessions → items ≡ number ∷ rest → ((p : ℕ × ℕ) → IsInLine line p → IsInLine line' p)
    → IfSome (value_at number sessions) (λ c. is_waiting c ≡ true → IsInLine line' (wait_rank c, number))
    → AreJoined line numbers items sessions → AreJoined line' numbers rest sessions
joined-one line line' numbers items rest number sessions r cut grown stands was w i waits named =
    elim (was w i waits named) as (λ _. In w.0 rest ⊎ IsInLine line' (holder_place w)) [
      | inl later ↦ elim (subst (In w.0) cut later) as (λ _. In w.0 rest ⊎ IsInLine line' (holder_place w)) [
        | inl here ↦
            inr (subst (λ o. IfSome o (λ c. is_waiting c ≡ true → IsInLine line' (wait_rank c, w.0)))
            (value_at-In 0 (2 ^ 32) sessions w r i)
            (subst (λ n. IfSome (value_at n sessions) (λ c. is_waiting c ≡ true → IsInLine line' (wait_rank c, n))) (sym here) stands)
            waits)
        | inr further ↦ inl further
      ]
      | inr stood ↦ inr (grown (holder_place w) stood)
    ]

pub joined-all : (line : HolderLine) (numbers rest : List ℕ) (sessions : List (ℕ × SessionState)) → rest ≡ []
    → AreJoined line numbers rest sessions → HaveJoined line numbers sessions
joined-all line numbers rest sessions end joined w i waits named =
    elim (joined w i waits named) as (λ _. IsInLine line (holder_place w)) [
      | inl later ↦ absurd (subst (In w.0) end later)
      | inr stood ↦ stood
    ]

-- a list that isn't longer than nothing is empty
pub no-places : (ps : List (ℕ × ℕ)) → (0 < length ps → false ≡ true) → ps ≡ []
no-places [] h = refl
no-places (p ∷ ps) h = absurd (true≢false (sym (h (omega arith))))

-- a session that waits stands in a line at the rank of its wait
pub stands-ranked : (line : HolderLine) (number : ℕ) (o : Option SessionState) (c : SessionState) (wait : Wait) → Some c ≡ o
    → c.wait ≡ Some wait → IsInLine line (wait.rank, number)
    → IfSome o (λ c. is_waiting c ≡ true → IsInLine line (wait_rank c, number))
stands-ranked line number o c wait there is stands =
    subst (λ o. IfSome o (λ c. is_waiting c ≡ true → IsInLine line (wait_rank c, number))) there
    (λ _. subst (λ n. IsInLine line (n, number)) (sym (ap (λ (w : Option Wait). elim w as (λ _. ℕ) [ None ↦ 0 | Some wait ↦ wait.rank ]) is)) stands)

-- a number that is come to is one of them
pub got-in : (xs : List ℕ) (i : ℕ) → i < length xs → In (get_or xs i 0) xs
got-in [] i below = absurd (omega (arith, below))
got-in (x ∷ xs) zero below = inl refl
got-in (x ∷ xs) (suc i) below = inr (got-in xs i (omega (arith, below)))
