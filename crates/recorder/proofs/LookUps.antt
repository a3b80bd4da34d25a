-- What is read from a record that is kept.
use Rattle.std.proofs.Common.{◌≡◌, ◌+◌, ◌-◌, ◌<◌, ◌≤◌, ℕ, Bool, true, false, cond, List, [], ◌∷◌, ◌++◌, length, map}
use Rattle.std.proofs.Common.{take, get_or, reverse, Bor, Option, None, Some, inl, inr, ⊎_elim, refl, sym, ap, subst}
use Rattle.std.proofs.Common.{◌∙◌, append_assoc, arith}
use Rattle.std.proofs.lemmas.Bool.{false≢true}
use Rattle.std.proofs.lemmas.List.{append-nil, length-append, length-map, reverse-append}
use Rattle.std.proofs.Math.Seq.{take-append_seam}
use Rattle.std.proofs.lemmas.Option.{slice_get_past, slice_get_read}
use Rattle.std.specs.Option.{is_some, option_copied, option_and_then, MatchOption}
use Rattle.std.specs.List.{slice_get, HoldsAt}
use Rattle.object.specs.Lists.{In}
use Rattle.object.specs.ListLaws.{In-cases}
use Rattle.object.specs.Keys.{stands, found, place_of, KeysOnce}
use Rattle.object.specs.Happenings.{submitted_key}
use Rattle.object.specs.declared.command.Key.{Key}
use Rattle.recorder.specs.Firsts.{firsts}
use Rattle.recorder.specs.Records.{Record}
use Rattle.recorder.specs.Fates.{fate_at}
use Rattle.recorder.specs.declared.fate.Fate.{Fate}
use Rattle.recorder.proofs.Cuts.{cuts_before, firsts_all, firsts_more}
use Rattle.recorder.proofs.Places.{stands_at, found_at}
use Rattle.recorder.proofs.Rows.{row_at, place_within}

-- what a slice gives at a place
pub slice_given : {X : Type 0} (xs : List X) (i : ℕ) (r : Option (Bor X))
    → MatchOption r (length xs ≤ i) (λ x. (i < length xs) × HoldsAt (λ y. x.now ≡ y) xs i)
    → option_copied r ≡ slice_get xs i
slice_given xs i None h = sym (slice_get_past xs i h)
slice_given xs i (Some x) h = sym (slice_get_read xs (length xs) i x.now refl h.0 (h.1 x.now))

-- a choice of a value or none
pub chosen_none : {V : Type 0} (b : Bool) (v : V) → None ≡ cond b (Some v) None → b ≡ false
chosen_none true v h = cc
chosen_none false v h = refl

pub chosen_some : {V : Type 0} (b : Bool) (u v : V) → Some u ≡ cond b (Some v) None → u ≡ v
chosen_some true u v h = cc
chosen_some false u v h = cc

pub in_reverse : {X : Type 0} (x : X) (xs : List X) → In x (reverse xs) → In x xs
in_reverse x [] i = i
in_reverse {X} x (y ∷ ys) i =
    ⊎_elim (λ j. inr (in_reverse x ys j)) (⊎_elim (λ e. inl e) (λ j. absurd j)) (In-cases x (reverse ys) (y ∷ []) (subst (In x) (reverse-append (y ∷ []) ys) i))

pub empty : {X : Type 0} (xs : List X) → length xs ≡ 0 → xs ≡ []
empty [] h = refl
empty (x ∷ xs) h = cc

module _ {X : Type 0} (key_of : X → Key) where
  -- a key that stands has a place
  pub has_place : (k : Key) (xs : List X) → stands key_of k xs ≡ true → place_of key_of k xs ≡ None → ⊥
  has_place k xs known none = false≢true (ap is_some (sym none) ∙ stands_at key_of k xs ∙ known)

  -- and one that has a place stands
  pub stands_there : (k : Key) (xs : List X) (i : ℕ) → place_of key_of k xs ≡ Some i → stands key_of k xs ≡ true
  stands_there k xs i at = sym (stands_at key_of k xs) ∙ ap is_some at

  pub lacks_there : (k : Key) (xs : List X) → place_of key_of k xs ≡ None → stands key_of k xs ≡ false
  lacks_there k xs none = sym (stands_at key_of k xs) ∙ ap is_some none

  pub found_none : (k : Key) (xs : List X) → place_of key_of k xs ≡ None → found key_of k xs ≡ None
  found_none k xs none = found_at key_of k xs ∙ ap (option_and_then (slice_get xs)) none

  pub found_there : (k : Key) (xs : List X) (i : ℕ) → place_of key_of k xs ≡ Some i → found key_of k xs ≡ slice_get xs i
  found_there k xs i at = found_at key_of k xs ∙ ap (option_and_then (slice_get xs)) at

  -- the first items of lists where one more has a known key
  pub firsts_known : (xs : List X) (y : X) → KeysOnce key_of xs → stands key_of (key_of y) xs ≡ true → firsts key_of (xs ++ y ∷ []) ≡ xs
  firsts_known xs y once known =
      firsts_more key_of xs y ∙ ap (λ b. firsts key_of xs ++ cond b [] (y ∷ [])) known ∙ append-nil
      (firsts key_of xs) ∙ firsts_all key_of xs once

  -- and bit by bit
  pub firsts_next : (xs ys : List X) (y : X) → firsts key_of (firsts key_of (xs ++ y ∷ []) ++ ys) ≡ firsts key_of (xs ++ y ∷ ys)
  firsts_next xs ys y = sym (cuts_before key_of (xs ++ y ∷ []) ys) ∙ ap (firsts key_of) (append_assoc xs (y ∷ []) ys)

module _ {Op Reply : Type 0} where
  -- the fate at a key's place
  pub fate_read : (r : Record Op Reply) (fates : List Fate) (k : Key) (i : ℕ) (d : Fate)
      → fates ≡ map (λ s. fate_at r (submitted_key s)) r.happenings.submitted →
      place_of submitted_key k r.happenings.submitted ≡ Some i → d ≡ get_or fates i d → d ≡ fate_at r k
  fate_read r fates k i d fated at read = read ∙ ap (λ fs. get_or fs i d) fated ∙ row_at submitted_key (fate_at r) k r.happenings.submitted i d at

  pub fate_within : (r : Record Op Reply) (fates : List Fate) (k : Key) (i : ℕ) → fates ≡ map (λ s. fate_at r (submitted_key s)) r.happenings.submitted →
      place_of submitted_key k r.happenings.submitted ≡ Some i → i < length fates
  fate_within r fates k i fated at =
      let inside = place_within submitted_key k r.happenings.submitted i at in
      let long : length fates ≡ length r.happenings.submitted =
      ap length fated ∙ length-map r.happenings.submitted (λ s. fate_at r (submitted_key s)) in omega arith

-- a list without its last item
pub all_but_last : {X : Type 0} (xs : List X) (y : X) → take (length (xs ++ y ∷ []) - 1) (xs ++ y ∷ []) ≡ xs
all_but_last xs y =
    let one : length (xs ++ y ∷ []) ≡ length xs + 1 = length-append xs (y ∷ []) in
    let less : length (xs ++ y ∷ []) - 1 ≡ length xs = omega arith in
    ap (λ n. take n (xs ++ y ∷ [])) less ∙ take-append_seam xs (y ∷ [])
