-- A command is decided in a slot.
use Rattle.std.proofs.Common.{◌≡◌, ◌⊎◌, inl, inr, ⊎_elim, ℕ, ◌≤◌, ◌^◌, Bool, true, false, ◌||◌, Some, None, List, refl, sym, ap, subst, ◌∙◌}
use Rattle.std.specs.List.{list_any}
use Rattle.object.specs.KeyMaps.{at_key}
use Rattle.std.specs.FinMap.{get, insert, values}
use Rattle.object.specs.declared.command.Key.{Key}
use Rattle.ballot.proofs.SlotMaps.{insert_cases}
use Rattle.slot_log.specs.declared.places.Place.{Place}
use Rattle.slot_log.specs.declared.places.Place.TheVariants.{Requested, Proposed, Decided}
use Rattle.slot_log.specs.declared.places.Places.{Places}
use Rattle.slot_log.specs.declared.slot_log.SlotLog.TheInside.{Inside}
use Rattle.slot_log.specs.Places.{with_new_key, others_noted, is_found}
use Rattle.slot_log.specs.Requests.{is_known}
use Rattle.slot_log.specs.Kept.{book_of, standing, KeepsBook}
use Rattle.slot_log.proofs.Maps.{some_inserted, stays_inserted, within_inserted}
use Rattle.slot_log.proofs.Held.{any_insert}
use Rattle.slot_log.proofs.Standing.{among, found_still, found_old, found_new, among_new}

-- The tests below are: s of the command, and r, p, d of the requests, proposals and decisions.
stays : (s r p d : Bool) → (r || (p || d)) ≡ true → (r || (p || (s || d))) ≡ true
stays s true p d h = refl
stays s false true d h = refl
stays true false false d h = refl
stays false false false d h = h

comes : (s r p d : Bool) → s ≡ true → (r || (p || (s || d))) ≡ true
comes s true p d h = refl
comes s false true d h = refl
comes true false false d h = refl
comes false false false d h = cc

was : (s r p d : Bool) → (r || (p || (s || d))) ≡ true → ((r || (p || d)) ≡ true) ⊎ (s ≡ true)
was s true p d h = inl refl
was s false true d h = inl refl
was true false false d h = inr refl
was false false false d h = inl h

module _ {C : Type 0} (same : C → C → Bool) (key_of : C → Key) (exact : (x y : C) → same x y ≡ true → x ≡ y) (itself : (x : C) → same x x ≡ true)
    (a : Inside C) (kept : KeepsBook same key_of a) where
  -- the places stay as they are
  pub places_kept : (places : Places C) → ((q : Key) → at_key places.by_key q ≡ at_key a.places.by_key q)
      → places.others.items ≡ a.places.others.items → KeepsBook same key_of (record a { places = places })
  places_kept places looks others = record {
    slot_in = kept.slot_in;
    slot_out = kept.slot_out;
    front_rank = kept.front_rank;
    within = kept.within;
    performed = kept.performed;
    numbered = kept.numbered;
    near = kept.near;
    ahead = kept.ahead;
    room = kept.room;
    others = λ c h. kept.others c (ap (λ (os : List C). among same os c) (sym others) ∙ h);
    found = λ c h.
        ap (λ (os : List C). is_found same key_of (at_key places.by_key) (standing a) os c) others
        ∙ found_still same key_of exact itself (at_key a.places.by_key) (at_key places.by_key) (standing a)
        (standing a) a.places.others.items looks (λ p c there. there) c (kept.found c h);
  }

  module _ (slot : ℕ) (x : C) (numbered : slot ≤ 2 ^ 62) (free : get a.decisions slot ≡ None) (places : Places C) where
    abbrev then : Inside C
    then = record a { decisions = insert a.decisions slot x; places = places }

    known_now : (c : C) → is_known same (book_of then) c
        ≡ (list_any (λ d. same d c) a.requests.items ||
        (list_any (λ d. same d c) (values a.proposals) || (same x c || list_any (λ d. same d c) (values a.decisions))))
    known_now c = ap (λ b. list_any (λ d. same d c) a.requests.items ||
        (list_any (λ d. same d c) (values a.proposals) || b)) (any_insert (λ d. same d c) a.decisions slot x free)

    known_still : (c : C) → is_known same (book_of a) c ≡ true → is_known same (book_of then) c ≡ true
    known_still c h = known_now c ∙ stays (same x c) (list_any (λ d. same d c) a.requests.items)
        (list_any (λ d. same d c) (values a.proposals)) (list_any (λ d. same d c) (values a.decisions)) h

    known_new : is_known same (book_of then) x ≡ true
    known_new = known_now x ∙ comes (same x x) (list_any (λ d. same d x) a.requests.items)
        (list_any (λ d. same d x) (values a.proposals)) (list_any (λ d. same d x) (values a.decisions)) (itself x)

    known_before : (c : C) → is_known same (book_of then) c ≡ true → (is_known same (book_of a) c ≡ true) ⊎ (x ≡ c)
    known_before c h =
        ⊎_elim (λ (k : is_known same (book_of a) c ≡ true). inl k) (λ (e : same x c ≡ true). inr (exact x c e))
        (was (same x c) (list_any (λ d. same d c) a.requests.items) (list_any (λ d. same d c) (values a.proposals))
        (list_any (λ d. same d c) (values a.decisions)) (sym (known_now c) ∙ h))

    keep : (p : Place) (c : C) → standing a p ≡ Some c → standing then p ≡ Some c
    keep (Requested r) c there = there
    keep (Proposed s) c there = there
    keep (Decided s) c there =
        ⊎_elim (λ (h : (s ≡ slot) × (get (insert a.decisions slot x) s ≡ Some x)).
        let none : Some c ≡ None = sym there ∙ ap (get a.decisions) h.0 ∙ free in absurd (cc))
        (λ (h : get (insert a.decisions slot x) s ≡ get a.decisions s). h ∙ there)
        (insert_cases a.decisions slot x s)

    decision_kept : ((c : C) → among same places.others.items c ≡ true → is_known same (book_of then) c ≡ true)
        → ((c : C) → is_known same (book_of then) c ≡ true → is_found same key_of (at_key places.by_key) (standing then) places.others.items c ≡ true)
        → KeepsBook same key_of then
    decision_kept others found = record {
      slot_in = kept.slot_in;
      slot_out = kept.slot_out;
      front_rank = kept.front_rank;
      within = within_inserted a.decisions (λ s. s ≤ 2 ^ 62) slot x numbered kept.within;
      performed = λ s low high. stays_inserted a.decisions slot x s (kept.performed s low high);
      numbered = kept.numbered;
      near = kept.near;
      ahead = kept.ahead;
      room = kept.room;
      others = others;
      found = found;
    }

    -- the command is noted
    pub noted_kept : ((q : Key) → at_key places.by_key q ≡ with_new_key (at_key a.places.by_key) (key_of x) (Decided slot) q)
        → places.others.items ≡ others_noted (at_key a.places.by_key (key_of x)) a.places.others.items x → KeepsBook same key_of then
    noted_kept looks more =
        let old = at_key a.places.by_key in
        let new = at_key places.by_key in
        let here = some_inserted a.decisions slot x in
        decision_kept
        (λ c h.
        ⊎_elim (λ (o : among same a.places.others.items c ≡ true). known_still c (kept.others c o))
        (λ (e : x ≡ c). subst (λ d. is_known same (book_of then) d ≡ true) e known_new)
        (among_new same key_of exact itself old new (standing a)
        (standing then) a.places.others.items places.others.items x (Decided slot) looks more here keep c h))
        (λ c h.
        ⊎_elim (λ (k : is_known same (book_of a) c ≡ true).
        found_old same key_of exact itself old new (standing a)
        (standing then) a.places.others.items places.others.items x (Decided slot) looks more here keep c
        (kept.found c k))
        (λ (e : x ≡ c). subst (λ d. is_found same key_of new (standing then) places.others.items d ≡ true) e
        (found_new same key_of exact itself old new (standing a)
        (standing then) a.places.others.items places.others.items x (Decided slot) looks more here keep))
        (known_before c h))

  -- a known command is decided
  pub known_kept : (slot : ℕ) (x : C) → slot ≤ 2 ^ 62 → get a.decisions slot ≡ None → is_known same (book_of a) x ≡ true
      → KeepsBook same key_of (record a { decisions = insert a.decisions slot x })
  known_kept slot x numbered free known =
      let now = record a { decisions = insert a.decisions slot x } in
      decision_kept slot x numbered free a.places
      (λ c h. known_still slot x numbered free a.places c (kept.others c h))
      (λ c h.
      ⊎_elim (λ (k : is_known same (book_of a) c ≡ true).
      found_still same key_of exact itself (at_key a.places.by_key) (at_key a.places.by_key) (standing a)
      (standing now) a.places.others.items (λ q. refl) (keep slot x numbered free a.places) c (kept.found c k))
      (λ (e : x ≡ c).
      found_still same key_of exact itself (at_key a.places.by_key) (at_key a.places.by_key) (standing a)
      (standing now) a.places.others.items (λ q. refl) (keep slot x numbered free a.places) c
      (kept.found c (ap (is_known same (book_of a)) (sym e) ∙ known)))
      (known_before slot x numbered free a.places c h))
