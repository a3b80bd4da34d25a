-- A log forgets the slots below a base.
use Rattle.std.proofs.Common.{◌≡◌, ⊎_elim, ℕ, ◌<◌, ◌≤◌, max, nat_le, filter, Bool, true, false, cond}
use Rattle.std.proofs.Common.{◌||◌, Option, Some, None, List, [], ◌∷◌, refl, sym, ap, ◌∙◌, arith}
use Rattle.std.proofs.lemmas.Bool.{false≢true, or_left, or_right}
use Rattle.std.proofs.lemmas.Bool.Decides.{nat_tests}
use Rattle.std.specs.Option.{is_some, option_map_or, option_and_then}
use Rattle.std.specs.FinMap.{get}
use Rattle.ballot.specs.Slots.{Slots}
use Rattle.ballot.specs.Rests.{kept_from}
use Rattle.ballot.proofs.SlotMaps.{same_slots}
use Rattle.ballot.proofs.Rests.{get_above, get_high}
use Rattle.object.specs.declared.command.Key.{Key}
use Rattle.object.specs.KeyMaps.{at_key}
use Rattle.slot_log.specs.declared.places.Place.{Place}
use Rattle.slot_log.specs.declared.places.Place.TheVariants.{Requested, Proposed, Decided}
use Rattle.slot_log.specs.declared.places.Places.{Places}
use Rattle.slot_log.specs.declared.slot_log.SlotLog.TheInside.{Inside}
use Rattle.slot_log.specs.Places.{stands_at, is_found, place_from, AreFound}
use Rattle.slot_log.specs.Requests.{is_known}
use Rattle.slot_log.specs.Kept.{book_of, standing, KeepsBook}
use Rattle.slot_log.proofs.Known.{known_standing}
use Rattle.slot_log.proofs.Maps.{none_from}
use Rattle.slot_log.proofs.Standing.{IsInPlace, among, found_in_place, found_among, found_cases, or_cases}
use Rattle.slot_log.proofs.Stands.{known_stands}

-- a value that is there where the test holds
pub where_some : {X : Type 0} (b : Bool) (o : Option X) (x : X) → cond b o None ≡ Some x → o ≡ Some x
where_some true o x h = h
where_some false o x h = cc

-- nothing is below the base, so all is kept
pub kept_all : {X : Type 0} (base : ℕ) (m : Slots X) → ((s : ℕ) → is_some (get m s) ≡ true → base ≤ s) → kept_from base m ≡ m
kept_all base m above = same_slots (kept_from base m) m (λ q.
    get_above base m q
    ∙ elim (nat_le base q) as (λ b. nat_le base q ≡ b → cond b (get m q) None ≡ get m q) [
      | true ↦ λ t. refl
      | false ↦ λ f. sym (none_from (get m q) (λ there. let high = above q there in absurd (false≢true (sym f ∙ le_true base q high))))
    ] refl)
  where
    le_true : (a b : ℕ) → a ≤ b → nat_le a b ≡ true
    le_true a b h = grind (arith, nat_tests)

-- and what is below it is gone
pub low_gone : {X : Type 0} (base : ℕ) (m : Slots X) (s : ℕ) → s < base → get (kept_from base m) s ≡ None
low_gone base m s low =
    let below : nat_le base s ≡ false = grind (arith, nat_tests, low) in
    get_above base m s ∙ ap (λ b. cond b (get m s) None) below

module _ {C : Type 0} (base : ℕ) (requests : List C) (front : ℕ) (proposals decisions : Slots C) where
  -- what stands from the base on stood before
  pub kept_stands : (p : Place) (c : C) → stands_at requests front proposals (kept_from base decisions) p ≡ Some c
      → stands_at requests front proposals decisions p ≡ Some c
  kept_stands (Requested rank) c there = there
  kept_stands (Proposed s) c there = there
  kept_stands (Decided s) c there = where_some (nat_le base s) (get decisions s) c (sym (get_above base decisions s) ∙ there)

  -- nothing stands there at a decision's place below the base
  stands_from : (o : Option Place)
      → option_and_then (stands_at requests front proposals (kept_from base decisions)) (place_from base o)
      ≡ option_and_then (stands_at requests front proposals (kept_from base decisions)) o
  stands_from None = refl
  stands_from (Some (Requested rank)) = refl
  stands_from (Some (Proposed s)) = refl
  stands_from (Some (Decided s)) =
      elim (nat_le base s) as (λ b. nat_le base s ≡ b
      → option_and_then (stands_at requests front proposals (kept_from base decisions)) (cond b (Some (Decided s)) None) ≡ get (kept_from base decisions) s) [
        | true ↦ λ t. refl
        | false ↦ λ f. sym (get_above base decisions s ∙ ap (λ b. cond b (get decisions s) None) f)
      ] refl

  -- so the same is found without such places
  pub found_from : (same : C → C → Bool) (key_of : C → Key) (look now : Key → Option Place) (others : List C) (c : C)
      → place_from base (now (key_of c)) ≡ place_from base (look (key_of c))
      → is_found same key_of now (stands_at requests front proposals (kept_from base decisions)) others c
      ≡ is_found same key_of look (stands_at requests front proposals (kept_from base decisions)) others c
  found_from same key_of look now others c alike =
      ap (λ o. option_map_or (λ d. same d c) o false || among same others c)
      (sym (stands_from (now (key_of c)))
      ∙ ap (option_and_then (stands_at requests front proposals (kept_from base decisions))) alike
      ∙ stands_from (look (key_of c)))

module _ {C : Type 0} (same : C → C → Bool) (key_of : C → Key) (exact : (x y : C) → same x y ≡ true → x ≡ y) (itself : (x : C) → same x x ≡ true) where
  -- those of the others that pass a test
  among_kept : (test : C → Bool) (others : List C) (c : C) → among same others c ≡ true → test c ≡ true → among same (filter test others) c ≡ true
  among_kept test [] c h t = h
  among_kept test (o ∷ others) c h t =
      ⊎_elim
      (λ (s : same o c ≡ true).
      ap (λ b. among same (cond b (o ∷ filter test others) (filter test others)) c) (ap test (exact o c s) ∙ t)
      ∙ or_left (same o c) (among same (filter test others) c) s)
      (λ (r : among same others c ≡ true).
      let more = among_kept test others c r t in
      elim (test o) as (λ b. among same (cond b (o ∷ filter test others) (filter test others)) c ≡ true) [
        | true ↦ or_right (same o c) (among same (filter test others) c) more
        | false ↦ more
      ])
      (or_cases (same o c) (among same others c) h)

  among_passed : (test : C → Bool) (others : List C) (c : C) → among same (filter test others) c ≡ true → test c ≡ true
  among_passed test [] c h = absurd (false≢true h)
  among_passed test (o ∷ others) c h =
      elim (test o) as (λ b. test o ≡ b → among same (cond b (o ∷ filter test others) (filter test others)) c ≡ true → test c ≡ true) [
        | true ↦ λ t h.
            ⊎_elim (λ (s : same o c ≡ true). ap test (sym (exact o c s)) ∙ t)
            (λ (r : among same (filter test others) c ≡ true). among_passed test others c r)
            (or_cases (same o c) (among same (filter test others) c) h)
        | false ↦ λ f h. among_passed test others c h
      ] refl h

  -- what stands in the log is found
  pub all_found : (a : Inside C) → KeepsBook same key_of a → AreFound same key_of (at_key a.places.by_key) (standing a) a.places.others.items
  all_found a kept p c there = kept.found c (known_standing same key_of exact itself a p c there)

  module _ (a : Inside C) (kept : KeepsBook same key_of a) (base next : ℕ) (later : next ≡ max a.slot_in base) (out : base ≤ a.slot_out) where
    -- nothing is below the base
    pub whole_kept : KeepsBook same key_of (record a { slot_in = next })
    whole_kept =
        let low = kept.slot_in in
        let high = kept.slot_out in
        let rank = kept.front_rank in
        record {
          slot_in = (omega arith, omega arith);
          slot_out = kept.slot_out;
          front_rank = omega arith;
          within = kept.within;
          performed = λ s l h. kept.performed s (omega arith) h;
          numbered = kept.numbered;
          near = kept.near;
          ahead = λ s l. kept.ahead s (omega arith);
          room = kept.room;
          others = kept.others;
          found = kept.found;
        }

    module _ (settled left places : Places C) where
      abbrev rest : Inside C
      rest = record a { slot_in = next; decisions = kept_from base a.decisions; places = places }

      was_there : (s : ℕ) → is_some (get (kept_from base a.decisions) s) ≡ true → is_some (get a.decisions s) ≡ true
      was_there s there =
          elim (nat_le base s) as (λ b. is_some (cond b (get a.decisions s) None) ≡ true → is_some (get a.decisions s) ≡ true) [
            | true ↦ λ h. h
            | false ↦ λ h. absurd (false≢true h)
          ] (ap is_some (sym (get_above base a.decisions s)) ∙ there)

      -- the fields are kept so
      pub rest_kept : AreFound same key_of (at_key settled.by_key) (standing rest) settled.others.items
          → ((q : Key) → place_from base (at_key left.by_key q) ≡ place_from base (at_key settled.by_key q))
          → left.others.items ≡ settled.others.items → places.by_key ≡ left.by_key
          → places.others.items ≡ filter (is_known same (book_of rest)) left.others.items
          → KeepsBook same key_of rest
      rest_kept found leaves same_others same_keys keeps =
          let low = kept.slot_in in
          let high = kept.slot_out in
          let rank = kept.front_rank in
          record {
            slot_in = (omega arith, omega arith);
            slot_out = kept.slot_out;
            front_rank = omega arith;
            within = λ s there. kept.within s (was_there s there);
            performed = λ s l h. ap is_some (get_high base a.decisions s (omega arith)) ∙ kept.performed s (omega arith) h;
            numbered = kept.numbered;
            near = kept.near;
            ahead = λ s l. kept.ahead s (omega arith);
            room = kept.room;
            others = λ c h. among_passed (is_known same (book_of rest)) left.others.items c (ap (λ (os : List C). among same os c) (sym keeps) ∙ h);
            found = still_found;
          }
        where
          now : Key → Option Place
          now = at_key places.by_key

          alike : (q : Key) → place_from base (now q) ≡ place_from base (at_key settled.by_key q)
          alike q = ap (λ m. place_from base (at_key m q)) same_keys ∙ leaves q

          found_beside : (c : C) → is_known same (book_of rest) c ≡ true → is_found same key_of now (standing rest) left.others.items c ≡ true
          found_beside c h =
              let at = known_stands same exact rest c h in
              found_from base a.requests.items a.front_rank a.proposals a.decisions same key_of (at_key settled.by_key) now left.others.items
              c (alike (key_of c))
              ∙ ap (λ (os : List C). is_found same key_of (at_key settled.by_key) (standing rest) os c) same_others
              ∙ found at.place c at.there

          still_found : (c : C) → is_known same (book_of rest) c ≡ true → is_found same key_of now (standing rest) places.others.items c ≡ true
          still_found c h =
              ⊎_elim (λ (is : IsInPlace key_of now (standing rest) c). found_in_place same key_of exact itself now (standing rest) places.others.items c is)
              (λ (t : among same left.others.items c ≡ true). found_among same key_of exact itself now (standing rest) places.others.items c
              (ap (λ (os : List C). among same os c) keeps ∙ among_kept (is_known same (book_of rest)) left.others.items c t h))
              (found_cases same key_of exact itself now (standing rest) left.others.items c (found_beside c h))
