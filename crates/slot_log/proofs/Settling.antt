-- Commands that stand from a base on have their places there.
use Rattle.std.proofs.Common.{◌≡◌, ◌⊎◌, inr, ⊎_elim, ℕ, ◌<◌, Bool, true, false, cond, Option, Some, List, refl, sym, ap, subst, ◌∙◌}
use Rattle.std.specs.Prelude.{⊤}
use Rattle.std.proofs.lemmas.Bool.{false≢true}
use Rattle.std.proofs.lemmas.Option.{same_Some}
use Rattle.std.specs.Option.{is_some}
use Rattle.object.specs.declared.command.Key.{Key}
use Rattle.object.specs.Keys.{same_key}
use Rattle.object.specs.KeyLaws.{same_is, same_itself}
use Rattle.object.specs.KeyMaps.{at_key, with_key}
use Rattle.slot_log.specs.declared.places.Place.{Place}
use Rattle.slot_log.specs.declared.places.Place.TheVariants.{Requested, Proposed, Decided}
use Rattle.slot_log.specs.declared.places.Places.{Places}
use Rattle.slot_log.specs.Places.{is_found, AreFound}
use Rattle.slot_log.proofs.Standing.{IsInPlace, among, found_in_place, found_among, found_cases, found_moved, placed}

-- the places of which a loop has seen the commands: the requests by their rank, then the proposals and the decisions by slot
abbrev pub ranks_below : ℕ → Place → Type 0
ranks_below n (Requested rank) = rank < n
ranks_below n (Proposed s) = ⊥
ranks_below n (Decided s) = ⊥

abbrev pub proposals_below : ℕ → Place → Type 0
proposals_below n (Requested rank) = ⊤
proposals_below n (Proposed s) = s < n
proposals_below n (Decided s) = ⊥

abbrev pub decisions_below : ℕ → Place → Type 0
decisions_below n (Requested rank) = ⊤
decisions_below n (Proposed s) = ⊤
decisions_below n (Decided s) = s < n

-- All that stand are found, and those of the places that were seen, where they are kept.
pub record Settles {C : Type 0} (same : C → C → Bool) (key_of : C → Key) (stands kept : Place → Option C) (others : List C)
    (seen : Place → Type 0) (places : Places C) : Type 0 where
  pub all : AreFound same key_of (at_key places.by_key) stands others
  pub mine : (p : Place) (c : C) → seen p → kept p ≡ Some c → is_found same key_of (at_key places.by_key) kept others c ≡ true
  pub left : places.others.items ≡ others

module _ {C : Type 0} (same : C → C → Bool) (key_of : C → Key) (exact : (x y : C) → same x y ≡ true → x ≡ y) (itself : (x : C) → same x x ≡ true) where
  -- a command comes to a place that is kept
  module _ (look now : Key → Option Place) (stands kept : Place → Option C) (others : List C) (x : C) (to : Place)
      (within : (p : Place) (c : C) → kept p ≡ Some c → stands p ≡ Some c)
      (all : AreFound same key_of look stands others)
      (puts : among same others x ≡ false → (q : Key) → now q ≡ with_key look (key_of x) to q)
      (leaves : among same others x ≡ true → (q : Key) → now q ≡ look q)
      (here : kept to ≡ Some x) where
    still_all : AreFound same key_of now stands others
    still_all p c there =
        found_moved same key_of exact itself look now stands stands others x to (all to x (within to x here)) puts leaves
        (within to x here) (λ q d h. inr h) c (all p c there)

    -- under its key there is no other command
    only : among same others x ≡ false → (c : C) → key_of x ≡ key_of c → IsInPlace key_of look kept c → x ≡ c
    only f c keys is =
        ⊎_elim (λ (own : IsInPlace key_of look stands x).
        let p : own.place ≡ is.place = same_Some own.place is.place (sym own.looked ∙ ap look keys ∙ is.looked) in
        same_Some x c (sym own.there ∙ ap stands p ∙ within is.place c is.there))
        (λ (t : among same others x ≡ true). absurd (false≢true (sym f ∙ t)))
        (found_cases same key_of exact itself look stands others x (all to x (within to x here)))

    came : among same others x ≡ false → is_found same key_of now kept others x ≡ true
    came f = found_in_place same key_of exact itself now kept others x (record {
      place = to;
      looked = puts f (key_of x) ∙ ap (λ b. cond b (Some to) (look (key_of x))) (same_itself (key_of x));
      there = here;
    })

    found_here : is_found same key_of now kept others x ≡ true
    found_here = elim (among same others x) as (λ b. among same others x ≡ b → is_found same key_of now kept others x ≡ true) [
      | true ↦ λ t. found_among same key_of exact itself now kept others x t
      | false ↦ λ f. came f
    ] refl

    stays_in_place : (c : C) → IsInPlace key_of look kept c → is_found same key_of now kept others c ≡ true
    stays_in_place c is = elim (among same others x) as (λ b. among same others x ≡ b → is_found same key_of now kept others c ≡ true) [
      | true ↦ λ t. found_in_place same key_of exact itself now kept others c
          (record { place = is.place; looked = leaves t (key_of c) ∙ is.looked; there = is.there })
      | false ↦ λ f. elim (same_key (key_of x) (key_of c)) as (λ b. same_key (key_of x) (key_of c) ≡ b → is_found same key_of now kept others c ≡ true) [
        | true ↦ λ t. subst (λ d. is_found same key_of now kept others d ≡ true) (only f c (same_is (key_of x) (key_of c) t) is) (came f)
        | false ↦ λ e. found_in_place same key_of exact itself now kept others c
            (record { place = is.place; looked = puts f (key_of c) ∙ ap (λ b. cond b (Some to) (look (key_of c))) e ∙ is.looked; there = is.there })
      ] refl
    ] refl

    still_found : (c : C) → is_found same key_of look kept others c ≡ true → is_found same key_of now kept others c ≡ true
    still_found c h =
        ⊎_elim (stays_in_place c) (λ (t : among same others c ≡ true). found_among same key_of exact itself now kept others c t)
        (found_cases same key_of exact itself look kept others c h)

  module _ (stands kept : Place → Option C) (others : List C) (seen then : Place → Type 0)
      (within : (p : Place) (c : C) → kept p ≡ Some c → stands p ≡ Some c) (old : Places C)
      (settled : Settles same key_of stands kept others seen old) where
    -- a command that stands has a place
    pub settled_placed : (p : Place) (x : C) → stands p ≡ Some x → among same old.others.items x ≡ false
        → is_some (at_key old.by_key (key_of x)) ≡ true
    settled_placed p x there f =
        placed same key_of exact itself (at_key old.by_key) stands others x (settled.all p x there)
        (ap (λ (os : List C). among same os x) (sym settled.left) ∙ f)

    -- one more is seen
    pub settled_more : (new : Places C) (x : C) (to : Place)
        → (among same old.others.items x ≡ false → (q : Key) → at_key new.by_key q ≡ with_key (at_key old.by_key) (key_of x) to q)
        → (among same old.others.items x ≡ true → (q : Key) → at_key new.by_key q ≡ at_key old.by_key q)
        → new.others.items ≡ old.others.items → kept to ≡ Some x
        → ((p : Place) (c : C) → then p → kept p ≡ Some c → seen p ⊎ (x ≡ c))
        → Settles same key_of stands kept others then new
    settled_more new x to puts leaves same_others here more =
        let own : among same old.others.items x ≡ among same others x = ap (λ (os : List C). among same os x) settled.left in
        let put = λ (f : among same others x ≡ false). puts (own ∙ f) in
        let leave = λ (t : among same others x ≡ true). leaves (own ∙ t) in
        record {
          all = still_all (at_key old.by_key) (at_key new.by_key) stands kept others x to within settled.all put leave here;
          mine = λ p c s there.
              ⊎_elim
              (λ (was : seen p). still_found (at_key old.by_key) (at_key new.by_key) stands kept others x to within
              settled.all put leave here c (settled.mine p c was there))
              (λ (e : x ≡ c). subst (λ d. is_found same key_of (at_key new.by_key) kept others d ≡ true) e
              (found_here (at_key old.by_key) (at_key new.by_key) stands kept others x to within settled.all put leave here))
              (more p c s there);
          left = same_others ∙ settled.left;
        }

    -- nothing more was to be seen
    pub settled_still : ((p : Place) (c : C) → then p → kept p ≡ Some c → seen p) → Settles same key_of stands kept others then old
    settled_still more = record {
      all = settled.all;
      mine = λ p c s there. settled.mine p c (more p c s there) there;
      left = settled.left;
    }
