-- Commands that are found where they stand.
use Rattle.std.proofs.Common.{◌≡◌, ◌⊎◌, inl, inr, ⊎_elim, Bool, true, false, cond, ◌||◌, Option, Some, None, List, [], ◌∷◌, ◌++◌, refl, sym, ap, subst, ◌∙◌}
use Rattle.std.proofs.lemmas.Bool.{false≢true, or_left, or_right}
use Rattle.std.proofs.lemmas.List.Folds.{list_any-append}
use Rattle.std.proofs.lemmas.Option.{same_Some}
use Rattle.std.specs.List.{list_any}
use Rattle.std.specs.Option.{option_map_or, option_and_then, is_some}
use Rattle.object.specs.declared.command.Key.{Key}
use Rattle.slot_log.specs.declared.places.Place.{Place}
use Rattle.object.specs.Keys.{same_key}
use Rattle.object.specs.KeyLaws.{same_is, same_itself}
use Rattle.object.specs.KeyMaps.{with_key}
use Rattle.slot_log.specs.Places.{with_new_key, others_noted, is_found}

-- two tests that hold together are one
pub same_tests : (a b : Bool) → (a ≡ true → b ≡ true) → (b ≡ true → a ≡ true) → a ≡ b
same_tests true b there back = sym (there refl)
same_tests false true there back = back refl
same_tests false false there back = refl

pub or_cases : (a b : Bool) → (a || b) ≡ true → (a ≡ true) ⊎ (b ≡ true)
or_cases true b h = inl refl
or_cases false b h = inr h

-- the command stands at the place of its key
pub record IsInPlace {C : Type 0} (key_of : C → Key) (look : Key → Option Place) (stands : Place → Option C) (c : C) : Type 0 where
  pub place : Place
  pub looked : look (key_of c) ≡ Some place
  pub there : stands place ≡ Some c

abbrev pub among : {C : Type 0} → (C → C → Bool) → List C → C → Bool
among same others c = list_any (λ d. same d c) others

module _ {C : Type 0} (same : C → C → Bool) (key_of : C → Key) (exact : (x y : C) → same x y ≡ true → x ≡ y) (itself : (x : C) → same x x ≡ true) where
  pub among_last : (others : List C) (x : C) → among same (others ++ x ∷ []) x ≡ true
  among_last others x = list_any-append (λ d. same d x) others (x ∷ []) ∙ or_right (among same others x)
      (same x x || false) (or_left (same x x) false (itself x))

  pub among_more : (others more : List C) (c : C) → among same others c ≡ true → among same (others ++ more) c ≡ true
  among_more others more c h = list_any-append (λ d. same d c) others more ∙ or_left (among same others c) (among same more c) h

  module _ (look : Key → Option Place) (stands : Place → Option C) (others : List C) (c : C) where
    pub found_in_place : IsInPlace key_of look stands c → is_found same key_of look stands others c ≡ true
    found_in_place is =
        or_left _ (among same others c)
        (ap (λ o. option_map_or (λ d. same d c) (option_and_then stands o) false) is.looked ∙ ap
        (λ o. option_map_or (λ d. same d c) o false) is.there ∙ itself c)

    pub found_among : among same others c ≡ true → is_found same key_of look stands others c ≡ true
    found_among h = or_right (option_map_or (λ d. same d c) (option_and_then stands (look (key_of c))) false) (among same others c) h

    at_place : (o : Option Place) → look (key_of c) ≡ o → option_map_or (λ d. same d c) (option_and_then stands o) false ≡ true → IsInPlace key_of look stands c
    at_place None looked h = absurd (false≢true h)
    at_place (Some p) looked h = what_stands (stands p) refl h
      where
        what_stands : (s : Option C) → stands p ≡ s → option_map_or (λ d. same d c) s false ≡ true → IsInPlace key_of look stands c
        what_stands None there t = absurd (false≢true t)
        what_stands (Some d) there t = record { place = p; looked = looked; there = there ∙ ap (λ x. Some x) (exact d c t) }

    pub found_cases : is_found same key_of look stands others c ≡ true → IsInPlace key_of look stands c ⊎ (among same others c ≡ true)
    found_cases h =
        ⊎_elim (λ (t : option_map_or (λ d. same d c) (option_and_then stands (look (key_of c))) false ≡ true). inl (at_place (look (key_of c)) refl t))
        (λ (t : among same others c ≡ true). inr t)
        (or_cases (option_map_or (λ d. same d c) (option_and_then stands (look (key_of c))) false) (among same others c) h)

  -- the places and the commands at them stay
  module _ (look now : Key → Option Place) (stands then : Place → Option C) (others : List C)
      (looks : (q : Key) → now q ≡ look q) (keep : (p : Place) (c : C) → stands p ≡ Some c → then p ≡ Some c) where
    pub found_still : (c : C) → is_found same key_of look stands others c ≡ true → is_found same key_of now then others c ≡ true
    found_still c h =
        ⊎_elim (λ (is : IsInPlace key_of look stands c).
        found_in_place now then others c (record { place = is.place; looked = looks (key_of c) ∙ is.looked; there = keep is.place c is.there }))
        (λ (t : among same others c ≡ true). found_among now then others c t)
        (found_cases look stands others c h)

  -- a new command is noted
  module _ (look now : Key → Option Place) (stands then : Place → Option C) (others new : List C) (x : C) (to : Place)
      (looks : (q : Key) → now q ≡ with_new_key look (key_of x) to q)
      (more : new ≡ others_noted (look (key_of x)) others x)
      (here : then to ≡ Some x) (keep : (p : Place) (c : C) → stands p ≡ Some c → then p ≡ Some c) where
    in_new : (b : Bool) → is_some (look (key_of x)) ≡ b → (c : C) → among same others c ≡ true → among same new c ≡ true
    in_new true t c h = ap (λ (os : List C). among same os c) (more ∙ ap (λ b. cond b (others ++ x ∷ []) others) t) ∙ among_more others (x ∷ []) c h
    in_new false t c h = ap (λ (os : List C). among same os c) (more ∙ ap (λ b. cond b (others ++ x ∷ []) others) t) ∙ h

    looked_still : (q : Key) (p : Place) → look q ≡ Some p → now q ≡ Some p
    looked_still q p looked = looks q ∙
        elim (is_some (look (key_of x))) as (λ b. is_some (look (key_of x)) ≡ b
        → cond b (look q) (cond (same_key (key_of x) q) (Some to) (look q)) ≡ Some p) [
          | true ↦ λ t. looked
          | false ↦ λ f. elim (same_key (key_of x) q) as (λ b. same_key (key_of x) q ≡ b → cond b (Some to) (look q) ≡ Some p) [
            | true ↦ λ t. absurd (false≢true (sym f ∙ ap (λ k. is_some (look k)) (same_is (key_of x) q t) ∙ ap is_some looked))
            | false ↦ λ e. looked
          ] refl
        ] refl

    pub found_old : (c : C) → is_found same key_of look stands others c ≡ true → is_found same key_of now then new c ≡ true
    found_old c h =
        ⊎_elim (λ (is : IsInPlace key_of look stands c).
        found_in_place now then new c (record { place = is.place; looked = looked_still (key_of c) is.place is.looked; there = keep is.place c is.there }))
        (λ (t : among same others c ≡ true). found_among now then new c (in_new (is_some (look (key_of x))) refl c t))
        (found_cases look stands others c h)

    pub found_new : is_found same key_of now then new x ≡ true
    found_new = elim (is_some (look (key_of x))) as (λ b. is_some (look (key_of x)) ≡ b → is_found same key_of now then new x ≡ true) [
      | true ↦ λ t. found_among now then new x
          (ap (λ (os : List C). among same os x)
          (more ∙ ap (λ b. cond b (others ++ x ∷ []) others) t) ∙ among_last others x)
      | false ↦ λ f. found_in_place now then new x (record {
        place = to;
        looked = looks (key_of x) ∙ ap (λ b. cond b (look (key_of x)) (cond (same_key (key_of x) (key_of x)) (Some to) (look (key_of x)))) f
            ∙ ap (λ b. cond b (Some to) (look (key_of x))) (same_itself (key_of x));
        there = here;
      })
    ] refl

    -- only the new command comes to the others
    pub among_new : (c : C) → among same new c ≡ true → (among same others c ≡ true) ⊎ (x ≡ c)
    among_new c h = elim (is_some (look (key_of x))) as (λ b. is_some (look (key_of x)) ≡ b → (among same others c ≡ true) ⊎ (x ≡ c)) [
      | true ↦ λ t. ⊎_elim (λ (o : among same others c ≡ true). inl o)
          (λ (l : (same x c || false) ≡ true). ⊎_elim (λ (e : same x c ≡ true). inr (exact x c e))
          (λ (f : false ≡ true). absurd (false≢true f)) (or_cases (same x c) false l))
          (or_cases (among same others c) (same x c || false)
          (sym (list_any-append (λ d. same d c) others (x ∷ [])) ∙ ap (λ (os : List C). among same os c)
          (sym (more ∙ ap (λ b. cond b (others ++ x ∷ []) others) t)) ∙ h))
      | false ↦ λ f. inl (ap (λ (os : List C). among same os c) (sym (more ∙ ap (λ b. cond b (others ++ x ∷ []) others) f)) ∙ h)
    ] refl

  -- a command that is found has a place, unless it is among the others
  pub placed : (look : Key → Option Place) (stands : Place → Option C) (others : List C) (x : C)
      → is_found same key_of look stands others x ≡ true → among same others x ≡ false
      → is_some (look (key_of x)) ≡ true
  placed look stands others x h none =
      ⊎_elim (λ (is : IsInPlace key_of look stands x). ap is_some is.looked)
      (λ (t : among same others x ≡ true). absurd (false≢true (sym none ∙ t)))
      (found_cases look stands others x h)

  -- a command that is found stands at another place now
  module _ (look now : Key → Option Place) (stands then : Place → Option C) (others : List C) (x : C) (to : Place)
      (known : is_found same key_of look stands others x ≡ true)
      (puts : among same others x ≡ false → (q : Key) → now q ≡ with_key look (key_of x) to q)
      (leaves : among same others x ≡ true → (q : Key) → now q ≡ look q)
      (here : then to ≡ Some x) (keep : (p : Place) (c : C) → stands p ≡ Some c → (c ≡ x) ⊎ (then p ≡ Some c)) where
    -- where it is among the others
    found_beside : among same others x ≡ true → (c : C) → IsInPlace key_of look stands c → is_found same key_of now then others c ≡ true
    found_beside t c is =
        ⊎_elim (λ (e : c ≡ x). found_among now then others c (ap (among same others) e ∙ t))
        (λ (k : then is.place ≡ Some c). found_in_place now then others c (record { place = is.place; looked = leaves t (key_of c) ∙ is.looked; there = k }))
        (keep is.place c is.there)

    module _ (f : among same others x ≡ false) where
      found_there : is_found same key_of now then others x ≡ true
      found_there = found_in_place now then others x (record {
        place = to;
        looked = puts f (key_of x) ∙ ap (λ b. cond b (Some to) (look (key_of x))) (same_itself (key_of x));
        there = here;
      })

      -- under its key there is no other command
      only : (c : C) → key_of x ≡ key_of c → IsInPlace key_of look stands c → x ≡ c
      only c keys is =
          ⊎_elim (λ (own : IsInPlace key_of look stands x).
          let p : own.place ≡ is.place = same_Some own.place is.place (sym own.looked ∙ ap look keys ∙ is.looked) in
          same_Some x c (sym own.there ∙ ap stands p ∙ is.there))
          (λ (t : among same others x ≡ true). absurd (false≢true (sym f ∙ t)))
          (found_cases look stands others x known)

      found_away : (c : C) → same_key (key_of x) (key_of c) ≡ false → IsInPlace key_of look stands c → is_found same key_of now then others c ≡ true
      found_away c apart is =
          ⊎_elim (λ (e : c ≡ x). absurd (false≢true (sym apart ∙ ap (λ d. same_key (key_of x) (key_of d)) e ∙ same_itself (key_of x))))
          (λ (k : then is.place ≡ Some c). found_in_place now then others c
          (record {
            place = is.place;
            looked =
                puts f (key_of c) ∙ ap (λ b. cond b (Some to) (look (key_of c))) apart ∙ is.looked;
            there = k;
          }))
          (keep is.place c is.there)

      found_alone : (c : C) → IsInPlace key_of look stands c → is_found same key_of now then others c ≡ true
      found_alone c is = elim (same_key (key_of x) (key_of c)) as (λ b. same_key (key_of x) (key_of c) ≡ b → is_found same key_of now then others c ≡ true) [
        | true ↦ λ t. subst (λ d. is_found same key_of now then others d ≡ true) (only c (same_is (key_of x) (key_of c) t) is) found_there
        | false ↦ λ e. found_away c e is
      ] refl

    pub found_moved : (c : C) → is_found same key_of look stands others c ≡ true → is_found same key_of now then others c ≡ true
    found_moved c h =
        ⊎_elim (λ (is : IsInPlace key_of look stands c).
        elim (among same others x) as (λ b. among same others x ≡ b → is_found same key_of now then others c ≡ true) [
          | true ↦ λ t. found_beside t c is
          | false ↦ λ f. found_alone f c is
        ] refl)
        (λ (t : among same others c ≡ true). found_among now then others c t)
        (found_cases look stands others c h)
