-- Where a map by slot has values, after it has got one or lost one.
use Rattle.std.proofs.Common.{◌≡◌, ◌≢◌, ⊎_elim, ℕ, Bool, true, false, cond, List, [], ◌∷◌, map, Some, None, Option, refl, sym, ap, ◌∙◌, subst, arith}
use Rattle.std.specs.Prelude.{IsSome}
use Rattle.std.specs.FinMap.{get, insert, remove, entries, find, get-entries, get-from_entries, get-remove}
use Rattle.std.specs.Ordering.{nat_cmp, eq_by_cmp}
use Rattle.std.specs.Cmp.{nat_cmp_total}
use Rattle.std.proofs.lemmas.Bool.Decides.{nat_tests}
use Rattle.ballot.specs.Slots.{Slots, each_value}
use Rattle.node.specs.SlotLaws.{get_insert_cases}
use Rattle.agreement.proofs.chosen.LeaderRows.{none_not}

-- where a value stands
pub is_there : {X : Type 0} (o : Option X) (v : X) → o ≡ Some v → IsSome o
is_there o v e = subst IsSome (sym e) refl

-- it does so too with one more, or without another one
pub still_there : {X : Type 0} (m : Slots X) (s : ℕ) (v : X) (t : ℕ) → IsSome (get m t) → IsSome (get (insert m s v) t)
still_there m s v t h = ⊎_elim
    (λ (same : (t ≡ s) × (get (insert m s v) t ≡ Some v)). is_there (get (insert m s v) t) v same.1)
    (λ (apart : (t ≢ s) × (get (insert m s v) t ≡ get m t)). subst IsSome (sym apart.1) h)
    (get_insert_cases m s v t)

other_test : (q s : ℕ) → q ≢ s → eq_by_cmp nat_cmp q s ≡ false
other_test q s h = grind (arith, nat_tests)

pub others_there : {X : Type 0} (m : Slots X) (s t : ℕ) → t ≢ s → IsSome (get m t) → IsSome (get (remove m s) t)
others_there m s t apart h = subst IsSome (sym (get-remove nat_cmp_total m s t ∙ ap (λ b. cond b None (get m t)) (other_test t s apart))) h

-- a value that is added where there was none leaves the others
pub added : {X : Type 0} (m : Slots X) (s : ℕ) (v : X) → get m s ≡ None → (t : ℕ) (d : X) → get m t ≡ Some d → get (insert m s v) t ≡ Some d
added m s v none t d e = ⊎_elim
    (λ (same : (t ≡ s) × (get (insert m s v) t ≡ Some v)). none_not (ap (λ y. get m y) same.0 ∙ none) e)
    (λ (apart : (t ≢ s) × (get (insert m s v) t ≡ get m t)). apart.1 ∙ e)
    (get_insert_cases m s v t)

-- where there is a value, there is what is made of it
mapped_if : {X Y : Type 0} (y : Y) (x : X) (p : Option Y) (o : Option X) → (IsSome o → IsSome p) → (test : Bool)
    → IsSome (cond test (Some x) o) → IsSome (cond test (Some y) p)
mapped_if y x p o rest true h = refl
mapped_if y x p o rest false h = rest h

mapped_there : {X Y : Type 0} (f : ℕ → X → Y) (es : List (ℕ × X)) (s : ℕ) → IsSome (find nat_cmp s es)
    → IsSome (find nat_cmp s (map (λ e. (e.0, f e.0 e.1)) es))
mapped_there f [] s h = h
mapped_there f (e ∷ es) s h = mapped_if (f e.0 e.1) e.1 (find nat_cmp s (map (λ e. (e.0, f e.0 e.1)) es))
    (find nat_cmp s es) (mapped_there f es s) (eq_by_cmp nat_cmp s e.0) h

pub each_there : {X Y : Type 0} (f : ℕ → X → Y) (m : Slots X) (s : ℕ) (v : X) → get m s ≡ Some v → IsSome (get (each_value f m) s)
each_there f m s v e =
    subst IsSome (sym (get-from_entries nat_cmp_total (map (λ x. (x.0, f x.0 x.1)) (entries m)) s))
    (mapped_there f (entries m) s (is_there (find nat_cmp s (entries m)) v (sym (get-entries m s) ∙ e)))
