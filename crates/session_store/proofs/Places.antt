-- Places in a line.
use Rattle.std.proofs.Common.{◌≡◌, ℕ, true, ◌&&◌, inl, inr, List, [], ◌∷◌, Option, Some, None, IfSome}
use Rattle.std.proofs.Common.{refl, ap, subst, ◌∙◌, true≢false, ◌==◌, not, eq-eqb}
use Rattle.std.specs.declared.cmp.Ordering.{Ordering}
use Rattle.std.specs.declared.cmp.Ordering.TheVariants.{Less, Equal, Greater}
use Rattle.std.specs.Ordering.{nat_cmp}
use Rattle.std.specs.List.{list_any}
use Rattle.std.specs.Option.{option_eq}
use Rattle.std.specs.BTreeMap.{is_at}
use Rattle.std.specs.BTreeSet.{BTreeSet}
use Rattle.std.proofs.lemmas.Bool.{and_from, or_cases}
use Rattle.std.proofs.lemmas.Map.Lookups.{exact_unsigned}
use Rattle.object.specs.Lists.{In}
use Rattle.object.specs.KeyLaws.{then_equal}
use Rattle.session_store.specs.declared.place.LinePlace.{LinePlace}
use Rattle.session_store.specs.Lines.{line_cmp, IsIn, HasAll}

pub at_equal : (o : Ordering) → is_at (λ (x : ℕ). o) 0 ≡ true → o ≡ Equal
at_equal Less e = cc
at_equal Equal e = refl
at_equal Greater e = cc

pub same_place : (p q : LinePlace) → is_at (line_cmp p) q ≡ true → p ≡ q
same_place p q e =
    let both = then_equal (nat_cmp p.order q.order) (nat_cmp p.session q.session) (at_equal (line_cmp p q) e) in
    let o : p.order ≡ q.order = exact_unsigned p.order q.order both.0 in
    let s : p.session ≡ q.session = exact_unsigned p.session q.session both.1 in
    λ i. record { order = o i; session = s i }

pub in_keys : (p : LinePlace) (ks : List LinePlace) → list_any (is_at (line_cmp p)) ks ≡ true → In p ks
in_keys p [] e = cc
in_keys p (k ∷ ks) e =
    elim (or_cases (is_at (line_cmp p) k) (list_any (is_at (line_cmp p)) ks) e) as (λ v. In p (k ∷ ks)) [
      | inl here ↦ inl (same_place p k here)
      | inr later ↦ inr (in_keys p ks later)
    ]

pub some_place : (p q : LinePlace) → Some p ≡ Some q → p ≡ q
some_place p q e = cc

-- what a test has shown to be another place
pub another : (o : Option LinePlace) (k : LinePlace)
    → true ≡ not (option_eq (λ (p q : LinePlace). p.order == q.order && p.session == q.session) o (Some k)) → o ≡ Some k
    → ⊥
another o k t same =
    let t : true ≡ not (k.order == k.order && k.session == k.session) =
    subst (λ o. true ≡ not (option_eq (λ (p q : LinePlace). p.order == q.order && p.session == q.session) o
    (Some k))) same t in
    true≢false (t ∙ ap not (and_from (k.order == k.order) (k.session == k.session) (eq-eqb k.order k.order refl) (eq-eqb k.session k.session refl)))

-- a place is in a line that has all of another
pub some_in : (line line' : BTreeSet LinePlace) (o : Option LinePlace) → HasAll line line' → IfSome o (IsIn line) → IfSome o (IsIn line')
some_in line line' None more h = tt
some_in line line' (Some p) more h = more p h
