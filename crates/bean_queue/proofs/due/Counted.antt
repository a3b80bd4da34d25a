-- How many of a list pass a test.
use Rattle.std.proofs.Common.{◌≡◌, ℕ, suc, ◌+◌, Bool, true, false, cond, inl, inr, List, [], ◌∷◌, ◌++◌, filter, length, refl, sym, ap, ap₂, ◌∙◌, arith}
use Rattle.object.specs.Lists.{In}
use Rattle.job_store.specs.Entries.{Rising}
use Rattle.job_store.specs.EntryLaws.{key_from}

abbrev pub one_if : Bool → ℕ
one_if true = 1
one_if false = 0

module _ {X : Type 0} where
  length-chosen : (b : Bool) (x : X) (xs : List X) → length (cond b (x ∷ xs) xs) ≡ length xs + one_if b
  length-chosen true x xs = omega arith
  length-chosen false x xs = omega arith

  pub chosen-last : (test : X → Bool) (xs : List X) (x : X) → length (filter test (xs ++ x ∷ [])) ≡ length (filter test xs) + one_if (test x)
  chosen-last test [] x = length-chosen (test x) x []
  chosen-last test (y ∷ ys) x =
      let one = length-chosen (test y) y (filter test (ys ++ x ∷ [])) in
      let other = length-chosen (test y) y (filter test ys) in
      let rest = chosen-last test ys x in
      omega (arith, one, other, rest)

  pub chosen-alike : (one other : X → Bool) (xs : List X) → ((x : X) → In x xs → one x ≡ other x) → filter one xs ≡ filter other xs
  chosen-alike one other [] same = refl
  chosen-alike one other (x ∷ xs) same =
      ap₂ (λ (b : Bool) (ys : List X). cond b (x ∷ ys) ys) (same x (inl refl))
      (chosen-alike one other xs (λ y i. same y (inr i)))

  pub chosen-none : (test : X → Bool) (xs : List X) → ((x : X) → In x xs → test x ≡ false) → filter test xs ≡ []
  chosen-none test [] none = refl
  chosen-none test (x ∷ xs) none = ap₂ (λ (b : Bool) (ys : List X). cond b (x ∷ ys) ys) (none x (inl refl)) (chosen-none test xs (λ y i. none y (inr i)))

-- one test passes at the entries of other keys that the other passes, and perhaps at this one
module _ {X : Type 0} (one other : ℕ × X → Bool) (n : ℕ × X) where
  pub chosen-more : (lo hi : ℕ) (es : List (ℕ × X)) → Rising lo hi es → In n es
      → ((e : ℕ × X) → In e es → (e.0 ≡ n.0 → ⊥) → one e ≡ other e) → other n ≡ false
      → length (filter one es) ≡ length (filter other es) + one_if (one n)
  chosen-more lo hi [] r i alike apart = absurd i
  chosen-more lo hi (e ∷ es) r i alike apart =
      let here = length-chosen (one e) e (filter one es) in
      let there = length-chosen (other e) e (filter other es) in
      elim i as (λ _. length (filter one (e ∷ es)) ≡ length (filter other (e ∷ es)) + one_if (one n)) [
        | inl same ↦
            let key : n.0 ≡ e.0 = ap (λ (d : ℕ × X). d.0) same in
            let rest : filter one es ≡ filter other es =
            chosen-alike one other es (λ d j. alike d (inr j)
            (λ k. let above = key_from (suc e.0) hi es d r.1 j in absurd (omega (arith, above, k, key)))) in
            let lengths : length (filter one es) ≡ length (filter other es) = ap length rest in
            let own : one_if (one n) ≡ one_if (one e) = ap (λ (d : ℕ × X). one_if (one d)) same in
            let none : one_if (other e) ≡ 0 = ap (λ (b : Bool). one_if b) (ap other (sym same) ∙ apart) in
            omega (arith, here, there, lengths, own, none)
        | inr more ↦
            let above = key_from (suc e.0) hi es n r.1 more in
            let alike_here : one_if (one e) ≡ one_if (other e) = ap (λ (b : Bool). one_if b) (alike e (inl refl) (λ k. absurd (omega (arith, above, k)))) in
            let rest = chosen-more (suc e.0) hi es r.1 more (λ d j. alike d (inr j)) apart in
            omega (arith, here, there, alike_here, rest)
      ]
