-- Names in a set.
use Rattle.std.proofs.Common.{◌≡◌, ℕ, true, ◌⊎◌, inl, inr, List, [], ◌∷◌, Less, Equal, Greater, refl, sym, subst, ◌∙◌}
use Rattle.std.specs.Ordering.{match_ordering}
use Rattle.std.specs.List.{list_any}
use Rattle.std.specs.BTreeMap.{is_at}
use Rattle.std.specs.BTreeSet.{insert_key}
use Rattle.std.proofs.lemmas.Bool.{or_cases}
use Rattle.std.proofs.lemmas.Map.Lookups.{exact_bytes}
use Rattle.std.proofs.lemmas.Map.Text.{is_eq-slice_cmp}
use Rattle.std.proofs.lemmas.Slice.Eq.{bytes_eq-Decides}
use Rattle.object.specs.Lists.{In}
use Rattle.bean_words.specs.NameSets.{AddsOnly}
use Rattle.bean_words.specs.Names.{name_cmp}

pub from-insert : (t x : List ℕ) (xs : List (List ℕ)) → In t (insert_key name_cmp xs x) → In t xs ⊎ (t ≡ x)
from-insert t x [] (inl same) = inr same
from-insert t x [] (inr never) = absurd never
from-insert t x (y ∷ ys) i =
    elim (name_cmp x y) as (λ r. In t (match_ordering r (x ∷ y ∷ ys) (y ∷ ys) (y ∷ insert_key name_cmp ys x)) → In t (y ∷ ys) ⊎ (t ≡ x)) [
      | Less ↦ λ i. elim i as (λ v. In t (y ∷ ys) ⊎ (t ≡ x)) [ inl same ↦ inr same | inr old ↦ inl old ]
      | Equal ↦ λ i. inl i
      | Greater ↦ λ i. elim i as (λ v. In t (y ∷ ys) ⊎ (t ≡ x)) [
        | inl same ↦ inl (inl same)
        | inr later ↦ elim (from-insert t x ys later) as (λ v. In t (y ∷ ys) ⊎ (t ≡ x)) [ inl j ↦ inl (inr j) | inr it ↦ inr it ]
      ]
    ] i

pub to-insert : (t x : List ℕ) (xs : List (List ℕ)) → In t xs ⊎ (t ≡ x) → In t (insert_key name_cmp xs x)
to-insert t x [] (inl never) = absurd never
to-insert t x [] (inr same) = inl same
to-insert t x (y ∷ ys) i =
    elim (name_cmp x y) as (λ r. name_cmp x y ≡ r → In t (match_ordering r (x ∷ y ∷ ys) (y ∷ ys) (y ∷ insert_key name_cmp ys x))) [
      | Less ↦ λ e. elim i as (λ v. In t (x ∷ y ∷ ys)) [ inl old ↦ inr old | inr same ↦ inl same ]
      | Equal ↦ λ e. elim i as (λ v. In t (y ∷ ys)) [ inl old ↦ old | inr same ↦ inl (same ∙ exact_bytes x y e) ]
      | Greater ↦ λ e. elim i as (λ v. In t (y ∷ insert_key name_cmp ys x)) [
        | inl old ↦ elim old as (λ v. In t (y ∷ insert_key name_cmp ys x)) [ inl same ↦ inl same | inr later ↦ inr (to-insert t x ys (inl later)) ]
        | inr same ↦ inr (to-insert t x ys (inr same))
      ]
    ] refl

pub at-name : (t x : List ℕ) → is_at (name_cmp t) x ≡ true → t ≡ x
at-name t x e = (bytes_eq-Decides t x).0 (sym (is_eq-slice_cmp t x) ∙ e)

-- a name that is found is there
pub found-in : (t : List ℕ) (xs : List (List ℕ)) → list_any (is_at (name_cmp t)) xs ≡ true → In t xs
found-in t [] e = cc
found-in t (x ∷ xs) e =
    elim (or_cases (is_at (name_cmp t) x) (list_any (is_at (name_cmp t)) xs) e) as (λ v. In t (x ∷ xs)) [
      | inl here ↦ inl (at-name t x here)
      | inr later ↦ inr (found-in t xs later)
    ]

-- One set after another

pub adds-none : (Such : List ℕ → Type 0) (names : List (List ℕ)) → AddsOnly Such names names
adds-none Such names = record { kept = λ t i. i; only = λ t i. inl i }

pub adds-twice : {Such : List ℕ → Type 0} {a b c : List (List ℕ)} → AddsOnly Such a b → AddsOnly Such b c → AddsOnly Such a c
adds-twice {Such} {a} {b} {c} one two = record {
  kept = λ t i. two.kept t (one.kept t i);
  only = λ t i. elim (two.only t i) as (λ v. In t a ⊎ Such t) [ inl j ↦ one.only t j | inr has ↦ inr has ];
}

-- Some names are gone over, and those that are wanted are added

pub record AreAdded (Has Wanted : List ℕ → Type 0) (first names rest whole : List (List ℕ)) : Type 0 where
  pub added : AddsOnly Has first names
  pub all : (t : List ℕ) → Wanted t → In t whole → In t names ⊎ In t rest

module _ (Has Wanted : List ℕ → Type 0) where
  pub none-added : (names rest whole : List (List ℕ)) → rest ≡ whole → AreAdded Has Wanted names names rest whole
  none-added names rest whole is = record {
    added = adds-none Has names;
    all = λ t w i. inr (subst (In t) (sym is) i);
  }

  pub one-added : (first names names' old rest whole : List (List ℕ)) (k : List ℕ) → old ≡ k ∷ rest
      → AddsOnly Has names names' → (Wanted k → In k names') → AreAdded Has Wanted first names old whole
      → AreAdded Has Wanted first names' rest whole
  one-added first names names' old rest whole k is more there were = record {
    added = adds-twice were.added more;
    all = λ t w i.
        elim (were.all t w i) as (λ v. In t names' ⊎ In t rest) [
          | inl j ↦ inl (more.kept t j)
          | inr j ↦ elim (subst (In t) is j) as (λ v. In t names' ⊎ In t rest) [
            | inl same ↦ inl (subst (λ u. In u names') (sym same) (there (subst Wanted same w)))
            | inr later ↦ inr later
          ]
        ];
  }

  pub all-added : (first names rest whole : List (List ℕ)) → rest ≡ [] → AreAdded Has Wanted first names rest whole
      → (t : List ℕ) → Wanted t → In t whole → In t names
  all-added first names rest whole none added t w i =
      elim (added.all t w i) as (λ v. In t names) [ inl j ↦ j | inr j ↦ absurd (subst (In t) none j) ]
