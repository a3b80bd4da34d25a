-- What maps by slot hold.
use Rattle.std.proofs.Common.{◌≡◌, ◌≢◌, ◌<◌, ◌⊎◌, inl, inr, ⊎_elim, ℕ, Bool, true, false, cond, List, [], ◌∷◌, map}
use Rattle.std.proofs.Common.{Some, None, Option, refl, sym, ap, ◌∙◌, subst, arith}
use Rattle.std.specs.FinMap.{empty, get, insert, remove, entries, find, is_sorted, contains_key, get-empty, get-insert}
use Rattle.std.specs.FinMap.{get-remove, get-entries, get-from_entries, entries_sorted, same_map}
use Rattle.std.specs.FinMap.{nat_cmp-IsAntisymmetric}
use Rattle.std.specs.FinMap.Entries.{below_all}
use Rattle.std.specs.Ordering.{nat_cmp, eq_by_cmp, is_lt}
use Rattle.std.specs.Cmp.{nat_cmp_total}
use Rattle.std.proofs.lemmas.Bool.Decides.{nat_tests}
use Rattle.std.proofs.lemmas.Bool.{cases_eq}
use Rattle.std.specs.Prelude.{T, ◌&&◌, is_some}
use Rattle.object.specs.Lists.{In}
use Rattle.ballot.specs.Slots.{Slots, each_value}
use Rattle.object.specs.ListLaws.{Each, Each-weaker}

eq_yes : (q : ℕ) → eq_by_cmp nat_cmp q q ≡ true
eq_yes q = grind (arith, nat_tests)

eq_no : (q s : ℕ) → q ≢ s → eq_by_cmp nat_cmp q s ≡ false
eq_no q s h = grind (arith, nat_tests)

eq_cases : (q s : ℕ) → ((q ≡ s) × (eq_by_cmp nat_cmp q s ≡ true)) ⊎ ((q ≢ s) × (eq_by_cmp nat_cmp q s ≡ false))
eq_cases q s = ⊎_elim (λ (e : q ≡ s). inl (e, grind (arith, nat_tests))) (λ (n : q ≢ s). inr (n, eq_no q s n)) (cases_eq q s)

pub get_insert_same : {X : Type 0} (m : Slots X) (s : ℕ) (v : X) → get (insert m s v) s ≡ Some v
get_insert_same m s v = get-insert nat_cmp_total m s v s ∙ ap (λ b. cond b (Some v) (get m s)) (eq_yes s)

pub get_insert_other : {X : Type 0} (m : Slots X) (s : ℕ) (v : X) (q : ℕ) → q ≢ s → get (insert m s v) q ≡ get m q
get_insert_other m s v q apart = get-insert nat_cmp_total m s v q ∙ ap (λ b. cond b (Some v) (get m q)) (eq_no q s apart)

pub get_insert_cases : {X : Type 0} (m : Slots X) (s : ℕ) (v : X) (q : ℕ) → ((q ≡ s) × (get (insert m s v) q ≡ Some v))
    ⊎ ((q ≢ s) × (get (insert m s v) q ≡ get m q))
get_insert_cases m s v q = ⊎_elim
    (λ (e : q ≡ s). inl (e, subst (λ z. get (insert m s v) z ≡ Some v) (sym e) (get_insert_same m s v)))
    (λ (n : q ≢ s). inr (n, get_insert_other m s v q n)) (cases_eq q s)

pub not_none : {X : Type 0} {P : Type 0} (v : X) → None ≡ Some v → P
not_none v e = absurd (cc)

cond_none : {X : Type 0} (b : Bool) (o : Option X) (v : X) → cond b None o ≡ Some v → o ≡ Some v
cond_none true o v e = not_none v e
cond_none false o v e = e

pub get_remove_cases : {X : Type 0} (m : Slots X) (s q : ℕ) (v : X) → get (remove m s) q ≡ Some v → get m q ≡ Some v
get_remove_cases m s q v e = cond_none (eq_by_cmp nat_cmp q s) (get m q) v (sym (get-remove nat_cmp_total m s q) ∙ e)

pub none_in_empty : {X P : Type 0} (s : ℕ) (v : X) → get (empty {R = nat_cmp}) s ≡ Some v → P
none_in_empty s v e = not_none v (sym (get-empty nat_cmp s) ∙ e)

is_absent : {X : Type 0} (o : Option X) → is_some o ≡ false → o ≡ None
is_absent None h = refl
is_absent (Some v) h = absurd (cc)

pub absent : {X : Type 0} (m : Slots X) (s : ℕ) → contains_key m s ≡ false → get m s ≡ None
absent m s e = is_absent (get m s) e

both_parts : (a b : Bool) → T (a && b) → T a × T b
both_parts true b h = (tt, h)
both_parts false b h = absurd h

-- in a sorted list each entry is found
less_from : (x y : ℕ) → T (is_lt (nat_cmp x y)) → x < y
less_from x y h = grind (arith, nat_tests)

found_above : {X : Type 0} (x : ℕ) (es : List (ℕ × X)) → T (below_all nat_cmp x es) → (q : ℕ) (v : X) → find nat_cmp q es ≡ Some v → x < q
found_above x [] h q v f = not_none v f
found_above x (e ∷ es) h q v f =
    ⊎_elim
    (λ (p : (q ≡ e.0) × (eq_by_cmp nat_cmp q e.0 ≡ true)). let l = less_from x e.0 (both_parts _ _ h).0 in omega arith)
    (λ (p : (q ≢ e.0) × (eq_by_cmp nat_cmp q e.0 ≡ false)). found_above x es (both_parts _ _ h).1 q v
    (subst (λ b. cond b (Some e.1) (find nat_cmp q es) ≡ Some v) p.1 f))
    (eq_cases q e.0)

find_tail : {X : Type 0} (e : ℕ × X) (es : List (ℕ × X)) → T (is_sorted nat_cmp (e ∷ es)) → (q : ℕ) (v : X)
    → find nat_cmp q es ≡ Some v → find nat_cmp q (e ∷ es) ≡ Some v
find_tail e es h q v f = let l =
    found_above e.0 es (both_parts _ _ h).0 q v f in ap (λ b. cond b (Some e.1) (find nat_cmp q es))
    (eq_no q e.0 (λ x. absurd (omega arith))) ∙ f

each_found : {X : Type 0} (es : List (ℕ × X)) → T (is_sorted nat_cmp es) → Each (λ e. find nat_cmp e.0 es ≡ Some e.1) es
each_found [] h = tt
each_found (e ∷ es) h = (
  ap (λ b. cond b (Some e.1) (find nat_cmp e.0 es)) (eq_yes e.0),
  Each-weaker
      (λ x. find nat_cmp x.0 es ≡ Some x.1) (λ x. find nat_cmp x.0 (e ∷ es) ≡ Some x.1)
      (λ x f. find_tail e es h x.0 x.1 f) es (each_found es (both_parts _ _ h).1),
)

pub entries_get : {X : Type 0} (m : Slots X) → Each (λ e. get m e.0 ≡ Some e.1) (entries m)
entries_get m = Each-weaker (λ e. find nat_cmp e.0 (entries m) ≡ Some e.1) (λ e. get m e.0 ≡ Some e.1)
    (λ e f. get-entries m e.0 ∙ f) (entries m) (each_found (entries m) (entries_sorted m))

-- a map with other values
mapped_step : {X Y : Type 0} (f : ℕ → X → Y) (s : ℕ) (x : ℕ × X) (o : Option X) (p : Option Y) (w : Y)
    → (p ≡ Some w → (v : X) × (o ≡ Some v) × (w ≡ f s v)) → (b : Bool) → (b ≡ true → s ≡ x.0)
    → cond b (Some (f x.0 x.1)) p ≡ Some w → (v : X) × (cond b (Some x.1) o ≡ Some v) × (w ≡ f s v)
mapped_step f s x o p w rest true same e = (x.1, refl, let h : Some (f x.0 x.1) ≡ Some w = e in let k = same refl in cc)
mapped_step f s x o p w rest false same e = rest e

exact : (q s : ℕ) → eq_by_cmp nat_cmp q s ≡ true → q ≡ s
exact q s h = grind (arith, nat_tests)

find_mapped : {X Y : Type 0} (f : ℕ → X → Y) (es : List (ℕ × X)) (s : ℕ) (w : Y)
    → find nat_cmp s (map (λ e. (e.0, f e.0 e.1)) es) ≡ Some w → (v : X) × (find nat_cmp s es ≡ Some v) × (w ≡ f s v)
find_mapped f [] s w e = not_none w e
find_mapped f (x ∷ es) s w e =
    mapped_step f s x (find nat_cmp s es) (find nat_cmp s (map (λ e. (e.0, f e.0 e.1)) es)) w (find_mapped f es s w)
    (eq_by_cmp nat_cmp s x.0) (exact s x.0) e

pub get_each_value : {X Y : Type 0} (f : ℕ → X → Y) (m : Slots X) (s : ℕ) (w : Y) → get (each_value f m) s ≡ Some w → (v : X) × (get m s ≡ Some v) × (w ≡ f s v)
get_each_value f m s w e =
    let r = find_mapped f (entries m) s w (sym (get-from_entries nat_cmp_total (map (λ x. (x.0, f x.0 x.1)) (entries m)) s) ∙ e) in
    (r.0, get-entries m s ∙ r.1, r.2)

taken : {X : Type 0} (s : ℕ) (v : X) (e : ℕ × X) (es : List (ℕ × X)) → eq_by_cmp nat_cmp s e.0 ≡ true → find nat_cmp s (e ∷ es) ≡ Some v → v ≡ e.1
taken s v e es p f = let g = subst (λ b. cond b (Some e.1) (find nat_cmp s es) ≡ Some v) p f in cc

found_in : {X : Type 0} (es : List (ℕ × X)) (s : ℕ) (v : X) → find nat_cmp s es ≡ Some v → In (s, v) es
found_in [] s v f = not_none v f
found_in (e ∷ es) s v f =
    ⊎_elim
    (λ (p : (s ≡ e.0) × (eq_by_cmp nat_cmp s e.0 ≡ true)). inl (λ i. (p.0 i, taken s v e es p.1 f i)))
    (λ (p : (s ≢ e.0) × (eq_by_cmp nat_cmp s e.0 ≡ false)). inr (found_in es s v (subst (λ b. cond b (Some e.1) (find nat_cmp s es) ≡ Some v) p.1 f)))
    (eq_cases s e.0)

pub get_entries : {X : Type 0} (m : Slots X) (s : ℕ) (v : X) → get m s ≡ Some v → In (s, v) (entries m)
get_entries m s v f = found_in (entries m) s v (sym (get-entries m s) ∙ f)

-- a value that stands there already
pub insert_again : {X : Type 0} (m : Slots X) (s : ℕ) (v : X) → get m s ≡ Some v → insert m s v ≡ m
insert_again m s v there = same_map nat_cmp_total nat_cmp-IsAntisymmetric (insert m s v) m
    (λ q. ⊎_elim
    (λ (e : (q ≡ s) × (get (insert m s v) q ≡ Some v)). e.1 ∙ sym there ∙ ap (get m) (sym e.0))
    (λ (e : (q ≢ s) × (get (insert m s v) q ≡ get m q)). e.1)
    (get_insert_cases m s v q))

again_if : {X : Type 0} (m : Slots X) (s : ℕ) (v : X) (o : Option X) → get m s ≡ o → is_some o ≡ true → ((d : X) → get m s ≡ Some d → d ≡ v) → insert m s v ≡ m
again_if m s v None e there same = absurd (cc)
again_if m s v (Some d) e there same = insert_again m s v (e ∙ ap (λ x. Some x) (same d e))

-- and one that is no other than what stands there
pub known_again : {X : Type 0} (m : Slots X) (s : ℕ) (v : X) → contains_key m s ≡ true → ((d : X) → get m s ≡ Some d → d ≡ v) → insert m s v ≡ m
known_again m s v there same = again_if m s v (get m s) refl there same
