-- The bytes of a name.
use Rattle.std.proofs.Common.{◌↔◌, IsTrue, MatchBool, Bool, true, false, ℕ, zero, suc, ◌≡◌, Some, slice_get, ◌<◌, ◌≤◌}
use Rattle.std.proofs.Common.{inl, inr, List, [], ◌∷◌, length, refl, sym, ◌∙◌, subst, arith}
use Rattle.std.specs.List.{AllWithin, HoldsAt}
use Rattle.object.specs.Lists.{In}
use Rattle.bean_words.specs.Names.{IsName, IsNameByte, AreNameBytes}

module _ {X : Type 0} (P : X → Type 0) where
  -- what holds at each index holds of each element
  pub each-member : (xs : List X) → AllWithin P xs 0 (length xs) → (x : X) → In x xs → P x
  each-member [] all x i = absurd i
  each-member (y ∷ xs) all x (inl same) = subst P (sym same) (all 0 x (omega arith) (omega arith))
  each-member (y ∷ xs) all x (inr later) =
      each-member xs (λ k d low high. all (suc k) d (omega arith) (omega arith)) x later

  -- what holds at an index holds of an element
  pub some-member : (xs : List X) (k : ℕ) → k < length xs → HoldsAt P xs k → (x : X) × In x xs × P x
  some-member [] k within holds = absurd (omega arith)
  some-member (y ∷ xs) zero within holds = (y, inl refl, holds y)
  some-member (y ∷ xs) (suc k) within holds =
      let found = some-member xs k (omega arith) holds in (found.0, inr found.1, found.2)

-- a search that went over all bytes decides whether a name may have them
pub name_bytes-decided : (bs : List ℕ) (r : Bool)
    → MatchBool r (AllWithin IsNameByte bs 0 (length bs))
    ((k : ℕ) × (k < length bs) × HoldsAt (λ b. IsNameByte b → ⊥) bs k) → IsTrue r ↔ AreNameBytes bs
name_bytes-decided bs true all = ((λ t. each-member IsNameByte bs all), (λ h. refl))
name_bytes-decided bs false (k, within, holds) =
    ((λ t. cc), (λ h. let found = some-member (λ b. IsNameByte b → ⊥) bs k within holds in absurd (found.2 (h found.0 found.1))))

-- bytes of which one stands first, that are no more than 200
pub name-decided : (bs : List ℕ) (x : ℕ) (r : Bool) → slice_get bs 0 ≡ Some x → (x ≡ 45 → ⊥) → length bs ≤ 200
    → IsTrue r ↔ AreNameBytes bs → IsTrue r ↔ IsName bs
name-decided [] x r at other few h = cc
name-decided (b ∷ bs) x r at other few h = (
  (λ t. record {
    some = omega arith;
    few = few;
    bytes = h.0 t;
    first = λ hyphen. let same : Some x ≡ Some 45 = sym at ∙ hyphen in other cc;
  }),
  (λ name. h.1 name.bytes),
)
