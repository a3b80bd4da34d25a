-- What a loop has seen of what stands from a base on, when it has seen one more.
use Rattle.std.proofs.Common.{◌≡◌, ◌⊎◌, inl, inr, ⊎_elim, ℕ, ◌+◌, ◌<◌, ◌≤◌, Option, Some, None, List, length, sym, ap, ◌∙◌, arith}
use Rattle.std.proofs.lemmas.Bool.{cases_lt}
use Rattle.std.proofs.lemmas.Option.{same_Some, none-some}
use Rattle.std.specs.List.{slice_get}
use Rattle.std.specs.Option.{is_some, IsSome}
use Rattle.std.specs.FinMap.{get}
use Rattle.ballot.specs.Slots.{Slots}
use Rattle.ballot.specs.Rests.{kept_from}
use Rattle.slot_log.specs.declared.places.Place.{Place}
use Rattle.slot_log.specs.declared.places.Place.TheVariants.{Requested, Proposed, Decided}
use Rattle.slot_log.specs.Places.{stands_at}
use Rattle.slot_log.proofs.Forgetting.{kept_stands, low_gone}
use Rattle.slot_log.proofs.Ranks.{ranked_at, rank_within}
use Rattle.slot_log.proofs.Settling.{ranks_below, proposals_below, decisions_below}

-- a number below the next is below this one, or is this one
below_or_at : (s n : ℕ) → s < n + 1 → (s < n) ⊎ (s ≡ n)
below_or_at s n low = ⊎_elim (λ (l : s < n). inl l) (λ (l : n ≤ s). inr (omega arith)) (cases_lt s n)

module _ {C : Type 0} (requests : List C) (front : ℕ) (proposals decisions : Slots C) (base : ℕ) where
  abbrev kept : Place → Option C
  kept = stands_at requests front proposals (kept_from base decisions)

  -- one request more
  pub next_request : (n : ℕ) (x : C) → slice_get requests n ≡ Some x → (p : Place) (c : C) → ranks_below (front + (n + 1)) p
      → kept p ≡ Some c → ranks_below (front + n) p ⊎ (x ≡ c)
  next_request n x got (Requested rank) c low there =
      ⊎_elim (λ (l : rank < front + n). inl l)
      (λ (e : rank ≡ front + n).
      inr (same_Some x c (sym (ranked_at requests front rank n e ∙ got) ∙ there)))
      (below_or_at rank (front + n) (omega arith))
  next_request n x got (Proposed s) c low there = absurd low
  next_request n x got (Decided s) c low there = absurd low

  -- all requests, and no proposal yet
  pub all_requests : (n : ℕ) → length requests ≤ n → ((s : ℕ) → IsSome (get proposals s) → base ≤ s) → (p : Place) (c : C)
      → proposals_below base p → kept p ≡ Some c → ranks_below (front + n) p
  all_requests n end above (Requested rank) c low there = let within = rank_within requests front rank c there in omega arith
  all_requests n end above (Proposed s) c low there = let high = above s (ap is_some there) in absurd (omega arith)
  all_requests n end above (Decided s) c low there = absurd low

  -- the slot has a proposal, or it has none
  pub next_proposal : (n slot : ℕ) → slot ≡ n → (x : C) → get proposals slot ≡ Some x → (p : Place) (c : C) → proposals_below (n + 1) p
      → kept p ≡ Some c → proposals_below n p ⊎ (x ≡ c)
  next_proposal n slot own x got (Requested rank) c low there = inl tt
  next_proposal n slot own x got (Proposed s) c low there =
      ⊎_elim (λ (l : s < n). inl l)
      (λ (e : s ≡ n). inr (same_Some x c (sym got ∙ ap (get proposals) (own ∙ sym e) ∙ there)))
      (below_or_at s n low)
  next_proposal n slot own x got (Decided s) c low there = absurd low

  pub no_proposal : (n slot : ℕ) → slot ≡ n → get proposals slot ≡ None → (p : Place) (c : C) → proposals_below (n + 1) p
      → kept p ≡ Some c → proposals_below n p
  no_proposal n slot own none (Requested rank) c low there = tt
  no_proposal n slot own none (Proposed s) c low there =
      ⊎_elim (λ (l : s < n). l) (λ (e : s ≡ n). absurd (none-some c (sym none ∙ ap (get proposals) (own ∙ sym e) ∙ there))) (below_or_at s n low)
  no_proposal n slot own none (Decided s) c low there = absurd low

  -- all proposals, and no decision yet
  pub all_proposals : (n end : ℕ) → end ≤ n → ((s : ℕ) → IsSome (get proposals s) → s < end) → (p : Place) (c : C)
      → decisions_below base p → kept p ≡ Some c → proposals_below n p
  all_proposals n end past within (Requested rank) c low there = tt
  all_proposals n end past within (Proposed s) c low there = let high = within s (ap is_some there) in omega arith
  all_proposals n end past within (Decided s) c low there = absurd (none-some c (sym (low_gone base decisions s low) ∙ there))

  -- the slot has a decision, or it has none
  pub next_decision : (n slot : ℕ) → slot ≡ n → (x : C) → get decisions slot ≡ Some x → (p : Place) (c : C) → decisions_below (n + 1) p
      → kept p ≡ Some c → decisions_below n p ⊎ (x ≡ c)
  next_decision n slot own x got (Requested rank) c low there = inl tt
  next_decision n slot own x got (Proposed s) c low there = inl tt
  next_decision n slot own x got (Decided s) c low there =
      ⊎_elim (λ (l : s < n). inl l)
      (λ (e : s ≡ n). inr (same_Some x c (sym got ∙ ap (get decisions) (own ∙ sym e)
      ∙ kept_stands base requests front proposals decisions (Decided s) c there)))
      (below_or_at s n low)

  pub no_decision : (n slot : ℕ) → slot ≡ n → get decisions slot ≡ None → (p : Place) (c : C) → decisions_below (n + 1) p
      → kept p ≡ Some c → decisions_below n p
  no_decision n slot own none (Requested rank) c low there = tt
  no_decision n slot own none (Proposed s) c low there = tt
  no_decision n slot own none (Decided s) c low there =
      ⊎_elim (λ (l : s < n). l)
      (λ (e : s ≡ n). absurd (none-some c (sym none ∙ ap (get decisions) (own ∙ sym e)
      ∙ kept_stands base requests front proposals decisions (Decided s) c there)))
      (below_or_at s n low)

  -- all there is
  pub all_decisions : (n end : ℕ) → end ≤ n → ((s : ℕ) → IsSome (get decisions s) → s < end) → (p : Place) (c : C)
      → kept p ≡ Some c → decisions_below n p
  all_decisions n end past within (Requested rank) c there = tt
  all_decisions n end past within (Proposed s) c there = tt
  all_decisions n end past within (Decided s) c there =
      let high = within s (ap is_some (kept_stands base requests front proposals decisions (Decided s) c there)) in omega arith
