-- The entries of a tree, in rising slot, as a finite map, and what changes of such a map leave.
use Rattle.std.proofs.Common.{◌≡◌, ◌⊎◌, inl, inr, ⊎_elim, arith, ℕ, Bool, true, false, cond, List, [], ◌∷◌, map, Option}
use Rattle.std.proofs.Common.{None, Some, refl, sym, ap, ap₂, subst, ◌∙◌, Less}
use Rattle.std.specs.Prelude.{T, ◌&&◌, is_some, option_map}
use Rattle.std.specs.Ordering.{nat_cmp, eq_by_cmp, is_lt}
use Rattle.std.specs.Cmp.{nat_cmp_total, eq_by_cmp_equiv}
use Rattle.std.specs.Map.{lookup, keys_of}
use Rattle.std.specs.BTreeMap.{is_at}
use Rattle.std.specs.List.{AllByRecursion}
use Rattle.std.specs.List.Sorted.{IsStrictlySortedBy}
use Rattle.std.specs.FinMap.{empty, get, contains_key, insert, remove, entries, from_sorted, from_entries, find}
use Rattle.std.specs.FinMap.{is_sorted, same_map, nat_cmp-IsAntisymmetric, get-empty, get-from_sorted, get-entries}
use Rattle.std.specs.FinMap.{get-insert, get-remove, get-from_entries}
use Rattle.std.specs.FinMap.Entries.{below_all}
use Rattle.std.proofs.lemmas.Bool.Decides.{nat_tests}
use Rattle.ballot.specs.Slots.{Slots, each_value}

-- maps that answer alike are the same
pub same_slots : {X : Type 0} (m n : Slots X) → ((q : ℕ) → get m q ≡ get n q) → m ≡ n
same_slots m n h = same_map nat_cmp_total nat_cmp-IsAntisymmetric m n h

both : (a b : Bool) → T a → T b → T (a && b)
both true b p q = q
both false b p q = p

below_from : {X : Type 0} (k : ℕ) (es : List (ℕ × X)) → AllByRecursion (λ y. nat_cmp k y ≡ Less) (keys_of es) → T (below_all nat_cmp k es)
below_from k [] h = tt
below_from k (e ∷ es) h = both _ _ (subst (λ o. T (is_lt o)) (sym h.0) tt) (below_from k es h.1)

pub sorted_from : {X : Type 0} (es : List (ℕ × X)) → IsStrictlySortedBy nat_cmp (keys_of es) → T (is_sorted nat_cmp es)
unfolding IsStrictlySortedBy
sorted_from [] h = tt
sorted_from (e ∷ es) h = both _ _ (below_from e.0 es h.0) (sorted_from es h.1)

pub lookup-find : {X : Type 0} (q : ℕ) (es : List (ℕ × X)) → lookup (is_at (nat_cmp q)) es ≡ find nat_cmp q es
lookup-find q [] = refl
lookup-find q (e ∷ es) = ap (cond (eq_by_cmp nat_cmp q e.0) (Some e.1)) (lookup-find q es)

-- the tree answers as the finite map
pub get_view : {X : Type 0} (es : List (ℕ × X)) → T (is_sorted nat_cmp es) → (q : ℕ) → get (from_sorted {R = nat_cmp} es) q ≡ lookup (is_at (nat_cmp q)) es
get_view es h q = get-from_sorted nat_cmp es q h ∙ sym (lookup-find q es)

-- what changed at one key changed so in the finite map
pub insert_view : {X : Type 0} (es fs : List (ℕ × X)) → T (is_sorted nat_cmp es) → T (is_sorted nat_cmp fs)
    → (k : ℕ) (v : X) → ((q : ℕ) → lookup (is_at (nat_cmp q)) fs
    ≡ cond (is_at (nat_cmp k) q) (Some v) (lookup (is_at (nat_cmp q)) es))
    → from_sorted {R = nat_cmp} fs ≡ insert (from_sorted es) k v
insert_view es fs he hf k v u =
    same_map nat_cmp_total nat_cmp-IsAntisymmetric (from_sorted fs) (insert (from_sorted es) k v)
    (λ q. get_view fs hf q ∙ u q ∙ ap₂ (λ b o. cond b (Some v) o) ((eq_by_cmp_equiv nat_cmp_total).symm k q) (sym (get_view es he q)) ∙
    sym (get-insert nat_cmp_total (from_sorted es) k v q))

pub remove_view : {X : Type 0} (es fs : List (ℕ × X)) → T (is_sorted nat_cmp es) → T (is_sorted nat_cmp fs) → (k : ℕ)
    → ((q : ℕ) → lookup (is_at (nat_cmp q)) fs ≡ cond (is_at (nat_cmp k) q) None (lookup (is_at (nat_cmp q)) es))
    → from_sorted {R = nat_cmp} fs ≡ remove (from_sorted es) k
remove_view es fs he hf k u =
    same_map nat_cmp_total nat_cmp-IsAntisymmetric (from_sorted fs) (remove (from_sorted es) k)
    (λ q. get_view fs hf q ∙ u q ∙ ap₂ (λ b o. cond b None o) ((eq_by_cmp_equiv nat_cmp_total).symm k q) (sym (get_view es he q)) ∙
    sym (get-remove nat_cmp_total (from_sorted es) k q))

pub empty_view : {X : Type 0} (es : List (ℕ × X)) → es ≡ [] → from_sorted {R = nat_cmp} es ≡ empty
empty_view {X = X} es e = ap (λ (xs : List (ℕ × X)). from_sorted {R = nat_cmp} xs) e ∙ same_map nat_cmp_total
    nat_cmp-IsAntisymmetric (from_sorted []) empty (λ q. get-from_sorted nat_cmp [] q tt ∙ sym (get-empty nat_cmp q))

-- a map is that of its entries
pub from_its_entries : {X : Type 0} (m : Slots X) → from_entries (entries m) ≡ m
from_its_entries m = same_map nat_cmp_total nat_cmp-IsAntisymmetric (from_entries (entries m)) m
    (λ q. get-from_entries nat_cmp_total (entries m) q ∙ sym (get-entries m q))

key_cases : (k q : ℕ) → (eq_by_cmp nat_cmp q k ≡ true) ⊎ (eq_by_cmp nat_cmp q k ≡ false)
key_cases k q = elim (eq_by_cmp nat_cmp q k) as (λ b. (b ≡ true) ⊎ (b ≡ false)) [ true ↦ inl refl | false ↦ inr refl ]

pub same_key : (k q : ℕ) → eq_by_cmp nat_cmp q k ≡ true → q ≡ k
same_key k q h = grind (arith, nat_tests)

-- at the key of what was put, and at the others
pub insert_cases : {X : Type 0} (m : Slots X) (k : ℕ) (v : X) (q : ℕ) → ((q ≡ k) × (get (insert m k v) q ≡ Some v)) ⊎ (get (insert m k v) q ≡ get m q)
insert_cases m k v q =
    ⊎_elim
    (λ (h : eq_by_cmp nat_cmp q k ≡ true). inl (same_key k q h, get-insert nat_cmp_total m k v q ∙ ap (λ b. cond b (Some v) (get m q)) h))
    (λ (h : eq_by_cmp nat_cmp q k ≡ false). inr (get-insert nat_cmp_total m k v q ∙ ap (λ b. cond b (Some v) (get m q)) h)) (key_cases k q)

-- what is still there after a removal was there before
pub kept_by_remove : {X : Type 0} (m : Slots X) (k q : ℕ) (x : X) → get (remove m k) q ≡ Some x → get m q ≡ Some x
kept_by_remove m k q x h =
    ⊎_elim
    (λ (t : eq_by_cmp nat_cmp q k ≡ true). let none : None ≡ Some x =
    sym (get-remove nat_cmp_total m k q ∙ ap (λ b. cond b None (get m q)) t) ∙ h in absurd (cc))
    (λ (t : eq_by_cmp nat_cmp q k ≡ false). sym (get-remove nat_cmp_total m k q ∙ ap (λ b. cond b None (get m q)) t) ∙ h) (key_cases k q)

none_there : {X : Type 0} (o : Option X) → is_some o ≡ false → o ≡ None
none_there None h = refl
none_there (Some x) h = cc

-- to put at a free key and to take it out again changes nothing
pub remove-insert : {X : Type 0} (m : Slots X) (k : ℕ) (v : X) → contains_key m k ≡ false → remove (insert m k v) k ≡ m
remove-insert m k v free =
    same_map nat_cmp_total nat_cmp-IsAntisymmetric (remove (insert m k v) k) m
    (λ q. get-remove nat_cmp_total (insert m k v) k q ∙ ap (λ o. cond (eq_by_cmp nat_cmp q k) None o) (get-insert nat_cmp_total m k v q) ∙
    ⊎_elim
    (λ (h : eq_by_cmp nat_cmp q k ≡ true). ap (λ b. cond b None (cond b (Some v) (get m q))) h ∙ sym
    (ap (λ n. get m n) (same_key k q h) ∙ none_there (get m k) free))
    (λ (h : eq_by_cmp nat_cmp q k ≡ false). ap (λ b. cond b None (cond b (Some v) (get m q))) h) (key_cases k q))

-- to put again what is there changes nothing
pub insert_again : {X : Type 0} (m : Slots X) (k : ℕ) (v : X) → get m k ≡ Some v → insert m k v ≡ m
insert_again m k v there =
    same_map nat_cmp_total nat_cmp-IsAntisymmetric (insert m k v) m
    (λ q. get-insert nat_cmp_total m k v q ∙
    ⊎_elim
    (λ (h : eq_by_cmp nat_cmp q k ≡ true). ap (λ b. cond b (Some v) (get m q)) h ∙ sym (ap (λ n. get m n) (same_key k q h) ∙ there))
    (λ (h : eq_by_cmp nat_cmp q k ≡ false). ap (λ b. cond b (Some v) (get m q)) h) (key_cases k q))

-- a map with other values
find_mapped : {X Y : Type 0} (f : ℕ → X → Y) (es : List (ℕ × X)) (q : ℕ)
    → find nat_cmp q (map (λ e. (e.0, f e.0 e.1)) es) ≡ option_map (f q) (find nat_cmp q es)
find_mapped f [] q = refl
find_mapped {X} {Y} f (e ∷ es) q =
    elim (eq_by_cmp nat_cmp q e.0) as (λ b. eq_by_cmp nat_cmp q e.0 ≡ b
    → cond b (Some (f e.0 e.1)) (find nat_cmp q (map (λ e. (e.0, f e.0 e.1)) es))
    ≡ option_map (f q) (cond b (Some e.1) (find nat_cmp q es))) [
      | true ↦ λ t. ap (λ s. Some (f s e.1)) (sym (same_key e.0 q t))
      | false ↦ λ t. find_mapped f es q
    ] refl

pub get_each : {X Y : Type 0} (f : ℕ → X → Y) (m : Slots X) (q : ℕ) → get (each_value f m) q ≡ option_map (f q) (get m q)
get_each f m q = get-from_entries nat_cmp_total (map (λ x. (x.0, f x.0 x.1)) (entries m)) q ∙ find_mapped f
    (entries m) q ∙ ap (option_map (f q)) (sym (get-entries m q))
