-- The first request goes to the proposals.
use Rattle.std.proofs.Common.{◌≡◌, ◌⊎◌, inr, ⊎_elim, ℕ, ◌+◌, ◌^◌, ◌≤◌, Bool, true, false, ◌||◌, Some, None, List, ◌∷◌, sym, ap, ◌∙◌, arith}
use Rattle.std.proofs.lemmas.Bool.{or_left}
use Rattle.std.specs.List.{list_any}
use Rattle.object.specs.KeyMaps.{at_key, with_key}
use Rattle.std.specs.FinMap.{get, insert, len, values}
use Rattle.std.specs.declared.collections.VecDeque.{VecDeque}
use Rattle.std.specs.declared.alloc.Global.{Global}
use Rattle.std.specs.VecDeque.{deque_len, deque_capacity}
use Rattle.object.specs.declared.command.Key.{Key}
use Rattle.ballot.proofs.SlotMaps.{insert_cases}
use Rattle.slot_log.specs.declared.places.Place.{Place}
use Rattle.slot_log.specs.declared.places.Place.TheVariants.{Requested, Proposed, Decided}
use Rattle.slot_log.specs.declared.places.Places.{Places}
use Rattle.slot_log.specs.declared.slot_log.SlotLog.TheInside.{Inside}
use Rattle.slot_log.specs.Places.{ranked, is_found}
use Rattle.slot_log.specs.Requests.{is_known}
use Rattle.slot_log.specs.Proposals.{IsLeastOpen, IsInWindow}
use Rattle.slot_log.specs.Kept.{book_of, standing, KeepsBook}
use Rattle.slot_log.proofs.Maps.{some_inserted, others_inserted, within_inserted}
use Rattle.slot_log.proofs.Held.{any_insert, goes_to_proposals}
use Rattle.slot_log.proofs.Books.{new_near}
use Rattle.slot_log.proofs.Ranks.{ranked_rest}
use Rattle.slot_log.proofs.Standing.{among, found_moved}

module _ {C : Type 0} (same : C → C → Bool) (key_of : C → Key) (exact : (x y : C) → same x y ≡ true → x ≡ y) (itself : (x : C) → same x x ≡ true)
    (a : Inside C) (kept : KeepsBook same key_of a) (rs : VecDeque C Global) (x : C) (first : a.requests.items ≡ x ∷ rs.items) where
  first_known : is_known same (book_of a) x ≡ true
  first_known =
      ap (λ (ds : List C). list_any (λ d. same d x) ds ||
      (list_any (λ d. same d x) (values a.proposals) || list_any (λ d. same d x) (values a.decisions))) first
      ∙ or_left (list_any (λ d. same d x) (x ∷ rs.items)) (list_any (λ d. same d x) (values a.proposals) || list_any (λ d. same d x) (values a.decisions))
      (or_left (same x x) (list_any (λ d. same d x) rs.items) (itself x))

  module _ (slot next : ℕ) (least : IsLeastOpen (book_of a) slot) (behind : next ≡ slot + 1) (places : Places C)
      (puts : among same a.places.others.items x ≡ false → (q : Key) → at_key places.by_key q ≡ with_key (at_key a.places.by_key) (key_of x) (Proposed slot) q)
      (leaves : among same a.places.others.items x ≡ true → (q : Key) → at_key places.by_key q ≡ at_key a.places.by_key q)
      (others : places.others.items ≡ a.places.others.items) where
    abbrev then : Inside C
    then = record a { slot_in = next; requests = rs; proposals = insert a.proposals slot x; front_rank = a.front_rank + 1; places = places }

    free : get a.proposals slot ≡ None
    free = kept.ahead slot least.next

    known_still : (c : C) → is_known same (book_of a) c ≡ is_known same (book_of then) c
    known_still c =
        ap (λ (ds : List C). list_any (λ d. same d c) ds ||
        (list_any (λ d. same d c) (values a.proposals) || list_any (λ d. same d c) (values a.decisions))) first
        ∙ goes_to_proposals (same x c) (list_any (λ d. same d c) rs.items)
        (list_any (λ d. same d c) (values a.proposals)) (list_any (λ d. same d c) (values a.decisions))
        ∙ ap (λ b. list_any (λ d. same d c) rs.items || (b || list_any (λ d. same d c) (values a.decisions)))
        (sym (any_insert (λ d. same d c) a.proposals slot x free))

    keep : (p : Place) (c : C) → standing a p ≡ Some c → (c ≡ x) ⊎ (standing then p ≡ Some c)
    keep (Requested r) c there = ranked_rest x rs.items a.front_rank r c (ap (λ (ds : List C). ranked ds a.front_rank r) (sym first) ∙ there)
    keep (Proposed s) c there =
        ⊎_elim (λ (h : (s ≡ slot) × (get (insert a.proposals slot x) s ≡ Some x)).
        let none : Some c ≡ None = sym there ∙ ap (get a.proposals) h.0 ∙ free in absurd (cc))
        (λ (h : get (insert a.proposals slot x) s ≡ get a.proposals s). inr (h ∙ there))
        (insert_cases a.proposals slot x s)
    keep (Decided s) c there = inr there

    found : (c : C) → is_known same (book_of a) c ≡ true → is_found same key_of (at_key places.by_key) (standing then) a.places.others.items c ≡ true
    found c h =
        found_moved same key_of exact itself (at_key a.places.by_key) (at_key places.by_key) (standing a)
        (standing then) a.places.others.items x (Proposed slot) (kept.found x first_known)
        puts leaves (some_inserted a.proposals slot x) keep c (kept.found c h)

    -- the fields are kept so
    pub proposal_kept : deque_len rs + len (insert a.proposals slot x) ≤ deque_capacity rs → KeepsBook same key_of then
    proposal_kept room =
        let low = least.next in
        let high = least.numbered in
        let rank = kept.front_rank in
        record {
          slot_in = (omega arith, omega arith);
          slot_out = kept.slot_out;
          front_rank = omega arith;
          within = kept.within;
          performed = λ s low high. kept.performed s (omega arith) high;
          numbered = within_inserted a.proposals (λ s. s ≤ 2 ^ 62) slot x high kept.numbered;
          near = within_inserted a.proposals (IsInWindow a.slot_out) slot x (new_near same key_of a kept slot least) kept.near;
          ahead = λ s h. others_inserted a.proposals slot x s (λ e. absurd (omega arith)) ∙ kept.ahead s (omega arith);
          room = room;
          others = λ c h. sym (known_still c) ∙ kept.others c (ap (λ (os : List C). among same os c) (sym others) ∙ h);
          found = λ c h. ap (λ (os : List C). is_found same key_of (at_key places.by_key) (standing then) os c) others ∙ found c (known_still c ∙ h);
        }
