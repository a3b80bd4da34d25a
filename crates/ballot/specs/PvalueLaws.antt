-- Pvalues are compared part by part, and lists of them one by one.
use Rattle.std.proofs.Common.{rules, ◌≡◌, Bool, true, List, ◌==◌}
use Rattle.std.proofs.lemmas.Grind.{common_steps}
use Rattle.std.specs.Ordering.{on, eq_of_both}
use Rattle.std.specs.Cmp.{IsPartialEquivalence, IsEquivalence, and_per, and_equiv, on_per, on_equiv, partial_equiv_from_equiv, nat_eq_equiv}
use Rattle.std.specs.Cmp.Lexicographic.{pointwise, lists_per, lists_equiv}
use Rattle.ballot.specs.Ballots.{Numbers, is_same}
use Rattle.ballot.specs.declared.pvalue.Pvalue.{Pvalue}
use Rattle.ballot.specs.Exact.{pointwise_exact}

ballots_equiv : IsEquivalence is_same
ballots_equiv =
    and_equiv (on_equiv (λ (b : Numbers). b.round) nat_eq_equiv)
    (and_equiv (on_equiv (λ (b : Numbers). b.node) nat_eq_equiv) (on_equiv (λ (b : Numbers). b.boot) nat_eq_equiv))

-- under a comparison of values
abbrev pub same_pvalues : {C : Type 0} → (C → C → Bool) → Pvalue C → Pvalue C → Bool
same_pvalues {C} E =
    eq_of_both (on (λ (p : Pvalue C). p.ballot) is_same)
    (eq_of_both (on (λ (p : Pvalue C). p.slot) (λ a b. a == b)) (on (λ (p : Pvalue C). p.value) E))

-- lists of pvalues, one by one
unfoldable pub same_lists : {C : Type 0} → (C → C → Bool) → List (Pvalue C) → List (Pvalue C) → Bool
same_lists E ps qs = pointwise (same_pvalues E) ps qs

pub same_lists-per : {C : Type 0} {E : C → C → Bool} → IsPartialEquivalence E → IsPartialEquivalence (same_lists E)
unfolding same_lists
same_lists-per {C} {E} e =
    lists_per
    (and_per (on_per (λ (p : Pvalue C). p.ballot) (partial_equiv_from_equiv ballots_equiv))
    (and_per (on_per (λ (p : Pvalue C). p.slot) (partial_equiv_from_equiv nat_eq_equiv)) (on_per (λ (p : Pvalue C). p.value) e)))

pub same_lists-equiv : {C : Type 0} {E : C → C → Bool} → IsEquivalence E → IsEquivalence (same_lists E)
unfolding same_lists
same_lists-equiv {C} {E} e =
    lists_equiv
    (and_equiv (on_equiv (λ (p : Pvalue C). p.ballot) ballots_equiv)
    (and_equiv (on_equiv (λ (p : Pvalue C). p.slot) nat_eq_equiv) (on_equiv (λ (p : Pvalue C). p.value) e)))

-- where values are compared exactly, so are lists of pvalues
pub same_lists-exact : {C : Type 0} {E : C → C → Bool} → ((x y : C) → E x y ≡ true → x ≡ y) → (ps qs : List (Pvalue C)) → same_lists E ps qs ≡ true → ps ≡ qs
unfolding same_lists
same_lists-exact {C} {E} exact = pointwise_exact (λ p q h. grind (rules, common_steps, exact))
