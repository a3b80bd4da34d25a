-- The place of the first item of a key.
use Rattle.std.proofs.Common.{◌≡◌, ◌≢◌, ℕ, suc, ◌<◌, true, false, cond, ◌||◌, List, [], ◌∷◌, length, take, get_or}
use Rattle.std.proofs.Common.{Option, None, Some, inl, inr, refl, sym, ap, subst, ◌∙◌, arith}
use Rattle.std.proofs.lemmas.Bool.{false≢true}
use Rattle.std.proofs.lemmas.Option.{slice_get_read}
use Rattle.std.specs.Option.{option_map}
use Rattle.std.specs.Prelude.{slice_get}
use Rattle.object.specs.KeyLaws.{same_is, same_when}
use Rattle.object.specs.Keys.{same_key, stands, found, place_of}
use Rattle.object.specs.Lists.{In}
use Rattle.object.specs.declared.command.Key.{Key}

-- the first item of the key stands at this place
pub record IsFirst {X : Type 0} (key_of : X → Key) (k : Key) (xs : List X) (i : ℕ) : Type 0 where
  pub item : X
  pub at : slice_get xs i ≡ Some item
  pub found_it : found key_of k xs ≡ Some item
  pub known : stands key_of k xs ≡ true
  pub has : key_of item ≡ k
  pub within : i < length xs
  pub before : (y : X) → In y (take i xs) → key_of y ≢ k

not_later : (o : Option ℕ) → option_map suc o ≡ None → o ≡ None
not_later None e = refl
not_later (Some n) e = absurd (cc)

module _ {X : Type 0} (key_of : X → Key) where
  -- a key without a place doesn't stand
  pub no_place : (k : Key) (xs : List X) → place_of key_of k xs ≡ None → stands key_of k xs ≡ false
  no_place k [] h = refl
  no_place k (x ∷ xs) h =
      elim (same_key (key_of x) k) as (λ b. cond b (Some 0) (option_map suc (place_of key_of k xs)) ≡ None → (b || stands key_of k xs) ≡ false) [
        | true ↦ λ e. absurd (cc)
        | false ↦ λ e. no_place k xs (not_later (place_of key_of k xs) e)
      ] h

  others_before : (k : Key) (x : X) (xs : List X) (i : ℕ) → same_key (key_of x) k ≡ false
      → ((y : X) → In y (take i xs) → key_of y ≢ k) → (y : X) → In y (x ∷ take i xs) → key_of y ≢ k
  others_before k x xs i other before y (inl same) is = false≢true (sym other ∙ same_when (key_of x) k (ap key_of (sym same) ∙ is))
  others_before k x xs i other before y (inr more) is = before y more is

  -- what stands at the place of a key
  pub first_at : (k : Key) (xs : List X) (i : ℕ) → place_of key_of k xs ≡ Some i → IsFirst key_of k xs i
  first_at k [] i h = absurd (cc)
  first_at k (x ∷ xs) i h =
      elim (same_key (key_of x) k) as (λ b. same_key (key_of x) k ≡ b
      → cond b (Some 0) (option_map suc (place_of key_of k xs)) ≡ Some i → IsFirst key_of k (x ∷ xs) i) [
        | true ↦ λ same e. let zeroth : 0 ≡ i = cc in subst (IsFirst key_of k (x ∷ xs)) zeroth (record {
          item = x;
          at = refl;
          found_it = rw same refl;
          known = rw same refl;
          has = same_is (key_of x) k same;
          within = omega arith;
          before = λ y j. absurd j;
        })
        | false ↦ λ other e. later i other (λ n. first_at k xs n) (place_of key_of k xs) refl e
      ] refl h
    where
      later : (i : ℕ) → same_key (key_of x) k ≡ false
          → ((n : ℕ) → place_of key_of k xs ≡ Some n → IsFirst key_of k xs n) → (o : Option ℕ)
          → place_of key_of k xs ≡ o → option_map suc o ≡ Some i → IsFirst key_of k (x ∷ xs) i
      later i other rest None is e = absurd (cc)
      later i other rest (Some n) is e =
          let next : suc n ≡ i = cc in
          let r = rest n is in
          subst (IsFirst key_of k (x ∷ xs)) next (record {
            item = r.item;
            at = r.at;
            found_it = rw other r.found_it;
            known = rw other r.known;
            has = r.has;
            within = let w = r.within in omega arith;
            before = others_before k x xs n other r.before;
          })

-- what is read at the place is the first item
pub read_first : {X : Type 0} (key_of : X → Key) (k : Key) (xs : List X) (i : ℕ) (x : X) → IsFirst key_of k xs i
    → x ≡ get_or xs i x → (found key_of k xs ≡ Some x) × (key_of x ≡ k)
read_first key_of k xs i x first read =
    let one : Some first.item ≡ Some x = sym first.at ∙ slice_get_read xs (length xs) i x refl first.within read in
    let same : first.item ≡ x = cc in
    (first.found_it ∙ one, ap key_of (sym same) ∙ first.has)

-- a key without a place is not found
pub none_found : {X : Type 0} (key_of : X → Key) (k : Key) (xs : List X) (x : X) → place_of key_of k xs ≡ None → found key_of k xs ≡ Some x → ⊥
none_found key_of k [] x h g = cc
none_found key_of k (y ∷ xs) x h g =
    elim (same_key (key_of y) k) as (λ b. cond b (Some 0) (option_map suc (place_of key_of k xs)) ≡ None → cond b (Some y) (found key_of k xs) ≡ Some x → ⊥) [
      | true ↦ λ e f. cc
      | false ↦ λ e f. none_found key_of k xs x (not_later (place_of key_of k xs) e) f
    ] h g
