-- A log whose fields are those of another.
use Rattle.std.proofs.Common.{◌≡◌, ◌+◌, ◌≤◌, ◌<◌, ℕ, Bool, true, Some, List, arith, sym, ap, ap₂, subst, ◌∙◌}
use Rattle.std.specs.Prelude.{IsSome}
use Rattle.std.specs.FinMap.{get, len}
use Rattle.std.specs.VecDeque.{deque_len, deque_capacity}
use Rattle.object.specs.KeyMaps.{at_key}
use Rattle.object.specs.declared.command.Key.{Key}
use Rattle.slot_log.specs.Books.{SlotBook}
use Rattle.slot_log.specs.Proposals.{IsInWindow}
use Rattle.slot_log.specs.Places.{ranked, is_found}
use Rattle.slot_log.specs.Requests.{is_known}
use Rattle.slot_log.specs.Kept.{book_of, standing, IsNext, KeepsBook}
use Rattle.slot_log.specs.declared.places.Place.{Place}
use Rattle.slot_log.specs.declared.places.Place.TheVariants.{Requested, Proposed, Decided}
use Rattle.slot_log.specs.declared.slot_log.SlotLog.TheInside.{Inside}
use Rattle.slot_log.proofs.Standing.{among, found_still}

module _ {C : Type 0} (same : C → C → Bool) (key_of : C → Key) (exact : (x y : C) → same x y ≡ true → x ≡ y) (itself : (x : C) → same x x ≡ true)
    (a b : Inside C) (kept : KeepsBook same key_of a) (book : book_of b ≡ book_of a)
    (rank : b.front_rank ≡ a.front_rank) (places : b.places.by_key ≡ a.places.by_key)
    (others : b.places.others.items ≡ a.places.others.items) where
  keep : (p : Place) (c : C) → standing a p ≡ Some c → standing b p ≡ Some c
  keep (Requested r) c there = ap₂ (λ (k : SlotBook C) n. ranked k.requests n r) book rank ∙ there
  keep (Proposed s) c there = ap (λ (k : SlotBook C). get k.proposals s) book ∙ there
  keep (Decided s) c there = ap (λ (k : SlotBook C). get k.decisions s) book ∙ there

  known : (c : C) → is_known same (book_of b) c ≡ is_known same (book_of a) c
  known c = ap (λ (k : SlotBook C). is_known same k c) book

  -- it is kept too, if it has the room
  pub copy_kept : deque_len b.requests + len b.proposals ≤ deque_capacity b.requests → KeepsBook same key_of b
  copy_kept room =
      let back : book_of a ≡ book_of b = sym book in
      let slot_in : a.slot_in ≡ b.slot_in = ap (λ (k : SlotBook C). k.slot_in) back in
      let slot_out : a.slot_out ≡ b.slot_out = ap (λ (k : SlotBook C). k.slot_out) back in
      let decision : (s : ℕ) → get b.decisions s ≡ get a.decisions s = λ s. ap (λ (k : SlotBook C). get k.decisions s) book in
      let proposal : (s : ℕ) → get b.proposals s ≡ get a.proposals s = λ s. ap (λ (k : SlotBook C). get k.proposals s) book in
      record {
        slot_in = subst IsNext slot_in kept.slot_in;
        slot_out = subst IsNext slot_out kept.slot_out;
        front_rank = let less = kept.front_rank in omega (arith, less, rank, slot_in);
        within = λ s h. kept.within s (subst IsSome (decision s) h);
        performed = λ s low high. subst IsSome (sym (decision s))
            (kept.performed s (subst (λ n. n ≤ s) (sym slot_in) low) (subst (λ n. s < n) (sym slot_out) high));
        numbered = λ s h. kept.numbered s (subst IsSome (proposal s) h);
        near = λ s h. subst (λ n. IsInWindow n s) slot_out (kept.near s (subst IsSome (proposal s) h));
        ahead = λ s low. proposal s ∙ kept.ahead s (subst (λ n. n ≤ s) (sym slot_in) low);
        room = room;
        others = λ c h. known c ∙ kept.others c (ap (λ (ds : List C). among same ds c) (sym others) ∙ h);
        found = λ c h.
            subst (λ (ds : List C). is_found same key_of (at_key b.places.by_key) (standing b) ds c ≡ true) (sym others)
            (found_still same key_of exact itself (at_key a.places.by_key) (at_key b.places.by_key) (standing a) (standing b) a.places.others.items
            (λ q. ap (λ m. at_key m q) places) keep c (kept.found c (sym (known c) ∙ h)));
      }
