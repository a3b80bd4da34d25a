-- A new command goes to the requests.
use Rattle.std.proofs.Common.{◌≡◌, ◌⊎◌, inl, inr, ⊎_elim, ℕ, ◌+◌, ◌≤◌, Bool, true, false, ◌||◌, Some, List, [], ◌∷◌, ◌++◌, length, refl, sym, ap, subst, ◌∙◌}
use Rattle.std.proofs.lemmas.List.Folds.{list_any-append}
use Rattle.std.specs.List.{list_any}
use Rattle.object.specs.KeyMaps.{at_key}
use Rattle.std.specs.FinMap.{len, values}
use Rattle.std.specs.declared.collections.VecDeque.{VecDeque}
use Rattle.std.specs.declared.alloc.Global.{Global}
use Rattle.std.specs.VecDeque.{deque_len, deque_capacity}
use Rattle.object.specs.declared.command.Key.{Key}
use Rattle.slot_log.specs.declared.places.Place.{Place}
use Rattle.slot_log.specs.declared.places.Place.TheVariants.{Requested, Proposed, Decided}
use Rattle.slot_log.specs.declared.places.Places.{Places}
use Rattle.slot_log.specs.declared.slot_log.SlotLog.TheInside.{Inside}
use Rattle.slot_log.specs.Places.{ranked, with_new_key, others_noted, is_found}
use Rattle.slot_log.specs.Requests.{is_known}
use Rattle.slot_log.specs.Kept.{book_of, standing, KeepsBook}
use Rattle.slot_log.proofs.Ranks.{ranked_more, ranked_last}
use Rattle.slot_log.proofs.Standing.{among, found_old, found_new, among_new}

-- The tests below are: s of the new command, and r, p, d of the requests, proposals and decisions.
stays : (s r p d : Bool) → (r || (p || d)) ≡ true → ((r || (s || false)) || (p || d)) ≡ true
stays s true p d h = refl
stays true false p d h = refl
stays false false p d h = h

comes : (s r p d : Bool) → s ≡ true → ((r || (s || false)) || (p || d)) ≡ true
comes s true p d h = refl
comes true false p d h = refl
comes false false p d h = cc

was : (s r p d : Bool) → ((r || (s || false)) || (p || d)) ≡ true → ((r || (p || d)) ≡ true) ⊎ (s ≡ true)
was s true p d h = inl refl
was true false p d h = inr refl
was false false p d h = inl h

module _ {C : Type 0} (same : C → C → Bool) (key_of : C → Key) (exact : (x y : C) → same x y ≡ true → x ≡ y) (itself : (x : C) → same x x ≡ true)
    (a : Inside C) (kept : KeepsBook same key_of a) (rs : VecDeque C Global) (places : Places C) (x : C) (rank : ℕ)
    (last : rs.items ≡ a.requests.items ++ x ∷ [])
    (looks : (q : Key) → at_key places.by_key q ≡ with_new_key (at_key a.places.by_key) (key_of x) (Requested rank) q)
    (more : places.others.items ≡ others_noted (at_key a.places.by_key (key_of x)) a.places.others.items x) where
  abbrev then : Inside C
  then = record a { requests = rs; places = places }

  known_now : (c : C) → is_known same (book_of then) c
      ≡ ((list_any (λ d. same d c) a.requests.items || (same x c || false)) ||
      (list_any (λ d. same d c) (values a.proposals) || list_any (λ d. same d c) (values a.decisions)))
  known_now c =
      ap (λ b. b || (list_any (λ d. same d c) (values a.proposals) || list_any (λ d. same d c) (values a.decisions)))
      (ap (λ (ds : List C). list_any (λ d. same d c) ds) last ∙ list_any-append (λ d. same d c) a.requests.items (x ∷ []))

  known_still : (c : C) → is_known same (book_of a) c ≡ true → is_known same (book_of then) c ≡ true
  known_still c h = known_now c ∙ stays (same x c) (list_any (λ d. same d c) a.requests.items)
      (list_any (λ d. same d c) (values a.proposals)) (list_any (λ d. same d c) (values a.decisions)) h

  known_new : is_known same (book_of then) x ≡ true
  known_new = known_now x ∙ comes (same x x) (list_any (λ d. same d x) a.requests.items)
      (list_any (λ d. same d x) (values a.proposals)) (list_any (λ d. same d x) (values a.decisions)) (itself x)

  known_before : (c : C) → is_known same (book_of then) c ≡ true → (is_known same (book_of a) c ≡ true) ⊎ (x ≡ c)
  known_before c h =
      ⊎_elim (λ (k : is_known same (book_of a) c ≡ true). inl k) (λ (e : same x c ≡ true). inr (exact x c e))
      (was (same x c) (list_any (λ d. same d c) a.requests.items) (list_any (λ d. same d c) (values a.proposals))
      (list_any (λ d. same d c) (values a.decisions)) (sym (known_now c) ∙ h))

  module _ (own : rank ≡ a.front_rank + length a.requests.items) where
    here : standing then (Requested rank) ≡ Some x
    here = ap (λ (ds : List C). ranked ds a.front_rank rank) last ∙ ranked_last a.requests.items x a.front_rank rank own

    keep : (p : Place) (c : C) → standing a p ≡ Some c → standing then p ≡ Some c
    keep (Requested r) c there = ap (λ (ds : List C). ranked ds a.front_rank r) last ∙ ranked_more a.requests.items (x ∷ []) a.front_rank r c there
    keep (Proposed s) c there = there
    keep (Decided s) c there = there

    -- the fields are kept so
    pub request_kept : deque_len rs + len a.proposals ≤ deque_capacity rs → KeepsBook same key_of then
    request_kept room =
        let old = at_key a.places.by_key in
        let new = at_key places.by_key in
        record {
          slot_in = kept.slot_in;
          slot_out = kept.slot_out;
          front_rank = kept.front_rank;
          within = kept.within;
          performed = kept.performed;
          numbered = kept.numbered;
          near = kept.near;
          ahead = kept.ahead;
          room = room;
          others = λ c h.
              ⊎_elim (λ (o : among same a.places.others.items c ≡ true). known_still c (kept.others c o))
              (λ (e : x ≡ c). subst (λ d. is_known same (book_of then) d ≡ true) e known_new)
              (among_new same key_of exact itself old new (standing a)
              (standing then) a.places.others.items places.others.items x
              (Requested rank) looks more here keep c h);
          found = λ c h.
              ⊎_elim (λ (k : is_known same (book_of a) c ≡ true).
              found_old same key_of exact itself old new (standing a)
              (standing then) a.places.others.items places.others.items x (Requested rank) looks more here keep c
              (kept.found c k))
              (λ (e : x ≡ c). subst (λ d. is_found same key_of new (standing then) places.others.items d ≡ true) e
              (found_new same key_of exact itself old new (standing a)
              (standing then) a.places.others.items places.others.items x (Requested rank) looks more here keep))
              (known_before c h);
        }
