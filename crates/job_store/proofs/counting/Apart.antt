-- Lists of places where none is twice: two of them that have the same places are as long.
use Rattle.std.proofs.Common.{◌≡◌, ℕ, suc, ◌≤◌, Bool, true, false, cond, inl, inr, List, [], ◌∷◌, ◌++◌, length, arith, refl, sym, ap, subst, ◌∙◌, Less}
use Rattle.std.specs.List.Sorted.{IsStrictlySortedBy}
use Rattle.std.specs.List.{filter}
use Rattle.object.specs.ListLaws.{In-cases}
use Rattle.object.specs.Lists.{In}
use Rattle.job_store.specs.Counts.{AreApart}
use Rattle.job_store.proofs.shelving.Places.{shelf_cmp, before_place, sorted-first, sorted-rest}

-- What a filter keeps

pub in-filter : {X : Type 0} (test : X → Bool) (x : X) (xs : List X) → In x xs → test x ≡ true → In x (filter test xs)
in-filter test x [] i t = absurd i
in-filter test x (y ∷ ys) i t =
    elim (test y) as (λ b. test y ≡ b → In x (cond b (y ∷ filter test ys) (filter test ys))) [
      | true ↦ λ b. elim i as (λ i. In x (y ∷ filter test ys)) [ inl here ↦ inl here | inr later ↦ inr (in-filter test x ys later t) ]
      | false ↦ λ b. elim i as (λ i. In x (filter test ys)) [
        | inl here ↦ let f : true ≡ false = sym t ∙ ap test here ∙ b in cc
        | inr later ↦ in-filter test x ys later t
      ]
    ] refl

pub from-filter : {X : Type 0} (test : X → Bool) (x : X) (xs : List X) → In x (filter test xs) → In x xs × (test x ≡ true)
from-filter test x [] i = absurd i
from-filter test x (y ∷ ys) i =
    elim (test y) as (λ b. test y ≡ b → In x (cond b (y ∷ filter test ys) (filter test ys)) → In x (y ∷ ys) × (test x ≡ true)) [
      | true ↦ λ b i. elim i as (λ i. In x (y ∷ ys) × (test x ≡ true)) [
        | inl here ↦ (inl here, ap test here ∙ b)
        | inr later ↦ let w = from-filter test x ys later in (inr w.0, w.1)
      ]
      | false ↦ λ b i. let w = from-filter test x ys i in (inr w.0, w.1)
    ] refl i

pub apart-filter : (test : ℕ × ℕ → Bool) (ps : List (ℕ × ℕ)) → AreApart ps → AreApart (filter test ps)
apart-filter test [] a = a
apart-filter test (p ∷ ps) a =
    elim (test p) as (λ b. AreApart (cond b (p ∷ filter test ps) (filter test ps))) [
      | true ↦ (λ i. a.0 (from-filter test p ps i).0, apart-filter test ps a.1)
      | false ↦ apart-filter test ps a.1
    ]

pub apart-append : (ps qs : List (ℕ × ℕ)) → AreApart ps → AreApart qs → ((p : ℕ × ℕ) → In p ps → In p qs → ⊥) → AreApart (ps ++ qs)
apart-append [] qs a b none = b
apart-append (p ∷ ps) qs a b none = (
  λ i. elim (In-cases p ps qs i) as (λ v. ⊥) [ inl one ↦ a.0 one | inr other ↦ none p (inl refl) other ],
  apart-append ps qs a.1 b (λ q i j. none q (inr i) j),
)

-- the places but one
but : (p : ℕ × ℕ) (ps : List (ℕ × ℕ)) → In p ps → List (ℕ × ℕ)
but p [] i = []
but p (q ∷ qs) (inl here) = qs
but p (q ∷ qs) (inr later) = q ∷ but p qs later

length-but : (p : ℕ × ℕ) (ps : List (ℕ × ℕ)) (i : In p ps) → length ps ≡ suc (length (but p ps i))
unfolding but
length-but p [] i = absurd i
length-but p (q ∷ qs) (inl here) = refl
length-but p (q ∷ qs) (inr later) = ap suc (length-but p qs later)

in-but : (p x : ℕ × ℕ) (ps : List (ℕ × ℕ)) (i : In p ps) → In x ps → (x ≡ p → ⊥) → In x (but p ps i)
unfolding but
in-but p x [] i j apart = absurd i
in-but p x (q ∷ qs) (inl here) (inl same) apart = absurd (apart (same ∙ sym here))
in-but p x (q ∷ qs) (inl here) (inr later) apart = later
in-but p x (q ∷ qs) (inr i) (inl same) apart = inl same
in-but p x (q ∷ qs) (inr i) (inr later) apart = inr (in-but p x qs i later apart)

no-longer : (ps qs : List (ℕ × ℕ)) → AreApart ps → ((p : ℕ × ℕ) → In p ps → In p qs) → length ps ≤ length qs
no-longer [] qs a within = omega arith
no-longer (p ∷ ps) qs a within =
    let i : In p qs = within p (inl refl) in
    let rest = no-longer ps (but p qs i) a.1 (λ x j. in-but p x qs i (within x (inr j)) (λ same. a.0 (subst (λ y. In y ps) same j))) in
    omega (arith, rest, length-but p qs i)

pub as-long : (ps qs : List (ℕ × ℕ)) → AreApart ps → AreApart qs → ((p : ℕ × ℕ) → In p ps → In p qs)
    → ((p : ℕ × ℕ) → In p qs → In p ps) → length ps ≡ length qs
as-long ps qs a b there back = omega (arith, no-longer ps qs a there, no-longer qs ps b back)

-- places in their order
pub apart-sorted : (ps : List (ℕ × ℕ)) → IsStrictlySortedBy shelf_cmp ps → AreApart ps
apart-sorted [] s = tt
apart-sorted (p ∷ ps) s = (λ i. not-less p (sorted-first p p ps s i), apart-sorted ps (sorted-rest p ps s))
  where
    not-less : (p : ℕ × ℕ) → shelf_cmp p p ≡ Less → ⊥
    not-less p less = elim (before_place p p less) as (λ v. ⊥) [ inl below ↦ omega (arith, below) | inr w ↦ omega (arith, w.1) ]
