-- The commands of the book are those that the places find.
use Rattle.std.proofs.Common.{◌≡◌, ⊎_elim, ℕ, zero, suc, ◌-◌, Bool, true, false, cond, ◌||◌, nat_le, Option, Some, None, List, [], ◌∷◌, sym, ap, ◌∙◌}
use Rattle.std.proofs.lemmas.Bool.{or_left, or_right}
use Rattle.std.proofs.lemmas.Option.{same_Some}
use Rattle.std.specs.List.{list_any, slice_get}
use Rattle.std.specs.Option.{option_map_or, option_and_then}
use Rattle.object.specs.KeyMaps.{at_key}
use Rattle.std.specs.FinMap.{values}
use Rattle.object.specs.declared.command.Key.{Key}
use Rattle.slot_log.specs.declared.places.Place.{Place}
use Rattle.slot_log.specs.declared.places.Place.TheVariants.{Requested, Proposed, Decided}
use Rattle.slot_log.specs.declared.slot_log.SlotLog.TheInside.{Inside}
use Rattle.slot_log.specs.Places.{ranked, is_found}
use Rattle.slot_log.specs.Requests.{is_known}
use Rattle.slot_log.specs.Kept.{book_of, standing, KeepsBook}
use Rattle.slot_log.proofs.Held.{any_found}
use Rattle.slot_log.proofs.Standing.{IsInPlace, among, found_cases, same_tests}

any_got : {C : Type 0} (p : C → Bool) (xs : List C) (i : ℕ) (c : C) → slice_get xs i ≡ Some c → p c ≡ true → list_any p xs ≡ true
any_got p [] i c got h = cc
any_got p (x ∷ xs) zero c got h = or_left (p x) (list_any p xs) (ap p (same_Some x c got) ∙ h)
any_got p (x ∷ xs) (suc i) c got h = or_right (p x) (list_any p xs) (any_got p xs i c got h)

any_ranked : {C : Type 0} (p : C → Bool) (xs : List C) (front rank : ℕ) (c : C) → ranked xs front rank ≡ Some c → p c ≡ true → list_any p xs ≡ true
any_ranked p xs front rank c got h =
    elim (nat_le front rank) as (λ b. cond b (slice_get xs (rank - front)) None ≡ Some c → list_any p xs ≡ true) [
      | true ↦ λ g. any_got p xs (rank - front) c g h
      | false ↦ λ g. cc
    ] got

module _ {C : Type 0} (same : C → C → Bool) (key_of : C → Key) (exact : (x y : C) → same x y ≡ true → x ≡ y) (itself : (x : C) → same x x ≡ true) where
  -- what stands at a place is known
  pub known_standing : (a : Inside C) (p : Place) (c : C) → standing a p ≡ Some c → is_known same (book_of a) c ≡ true
  known_standing a (Requested rank) c there =
      or_left (list_any (λ d. same d c) a.requests.items) (list_any (λ d. same d c) (values a.proposals) || list_any (λ d. same d c) (values a.decisions))
      (any_ranked (λ d. same d c) a.requests.items a.front_rank rank c there (itself c))
  known_standing a (Proposed s) c there =
      or_right (list_any (λ d. same d c) a.requests.items) (list_any (λ d. same d c) (values a.proposals) || list_any (λ d. same d c) (values a.decisions))
      (or_left (list_any (λ d. same d c) (values a.proposals)) (list_any (λ d. same d c) (values a.decisions))
      (any_found (λ d. same d c) a.proposals s c there (itself c)))
  known_standing a (Decided s) c there =
      or_right (list_any (λ d. same d c) a.requests.items) (list_any (λ d. same d c) (values a.proposals) || list_any (λ d. same d c) (values a.decisions))
      (or_right (list_any (λ d. same d c) (values a.proposals)) (list_any (λ d. same d c) (values a.decisions))
      (any_found (λ d. same d c) a.decisions s c there (itself c)))

  -- the places find what the book knows
  pub known_is : (a : Inside C) → KeepsBook same key_of a → (c : C)
      → is_found same key_of (at_key a.places.by_key) (standing a) a.places.others.items c ≡ is_known same (book_of a) c
  known_is a kept c =
      same_tests _ _
      (λ h.
      ⊎_elim (λ (is : IsInPlace key_of (at_key a.places.by_key) (standing a) c). known_standing a is.place c is.there)
      (λ (t : among same a.places.others.items c ≡ true). kept.others c t)
      (found_cases same key_of exact itself (at_key a.places.by_key) (standing a) a.places.others.items c h))
      (kept.found c)

-- a search where the key has no place
pub found_nowhere : {C : Type 0} (same : C → C → Bool) (key_of : C → Key) (look : Key → Option Place)
    (stands : Place → Option C) (others : List C) (c : C) → look (key_of c) ≡ None
    → is_found same key_of look stands others c ≡ list_any (λ d. same d c) others
found_nowhere same key_of look stands others c none =
    ap (λ o. option_map_or (λ d. same d c) (option_and_then stands o) false || list_any (λ d. same d c) others) none

-- and where it has one
pub found_at : {C : Type 0} (same : C → C → Bool) (key_of : C → Key) (look : Key → Option Place)
    (stands : Place → Option C) (others : List C) (c : C) (p : Place) (o : Option C) → look (key_of c) ≡ Some p
    → o ≡ stands p → is_found same key_of look stands others c
    ≡ (option_map_or (λ d. same d c) o false || list_any (λ d. same d c) others)
found_at same key_of look stands others c p o looked there =
    ap (λ o. option_map_or (λ d. same d c) (option_and_then stands o) false || list_any (λ d. same d c) others) looked
    ∙ ap (λ o. option_map_or (λ d. same d c) o false || list_any (λ d. same d c) others) (sym there)
