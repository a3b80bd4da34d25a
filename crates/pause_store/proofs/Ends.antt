-- The ends of pauses.
use Rattle.std.proofs.Common.{◌≡◌, ℕ, ◌≤◌, ◌⊎◌, inl, inr, List, [], ◌∷◌, refl, sym, ap, subst, ◌∙◌, arith}
use Rattle.std.proofs.Common.{Less, Equal, Greater, nat_lt, ltb-false, ltb-true, true, false}
use Rattle.std.specs.Ordering.{match_ordering, nat_cmp, ordering_then}
use Rattle.std.specs.List.{AllByRecursion}
use Rattle.std.specs.List.Sorted.{IsStrictlySortedBy}
use Rattle.std.specs.BTreeMap.{insert_entry}
use Rattle.std.specs.BTreeSet.{insert_key}
use Rattle.std.proofs.lemmas.Map.Keys.{sorted_head, sorted_tail}
use Rattle.std.proofs.lemmas.Map.Lookups.{exact_bytes, exact_unsigned}
use Rattle.object.specs.Lists.{In}
use Rattle.object.specs.KeyLaws.{then_equal}
use Rattle.bean_words.specs.Names.{name_cmp}
use Rattle.job_store.specs.EntryLaws.{cmp_greater}
use Rattle.pause_store.specs.declared.pause.Pause.{Pause}
use Rattle.pause_store.specs.Pauses.{DropsOver, HasEnds, pause_cmp}

-- an entry of a map in which a second was set
in-insert : (p : List ℕ × ℕ) (tube : List ℕ) (v : ℕ) (es : List (List ℕ × ℕ)) → In p (insert_entry name_cmp es tube v) → (p ≡ (tube, v)) ⊎ In p es
in-insert p tube v [] i = elim i [ inl e ↦ inl e | inr none ↦ absurd none ]
in-insert p tube v (e ∷ es) i =
    elim (name_cmp tube e.0) as (λ o. name_cmp tube e.0 ≡ o
    → In p (match_ordering o ((tube, v) ∷ e ∷ es) ((e.0, v) ∷ es) (e ∷ insert_entry name_cmp es tube v))
    → (p ≡ (tube, v)) ⊎ In p (e ∷ es)) [
      | Less ↦ λ o i. i
      | Equal ↦ λ o i. elim i [ inl same ↦ inl (same ∙ ap (λ x. (x, v)) (sym (exact_bytes tube e.0 o))) | inr more ↦ inr (inr more) ]
      | Greater ↦ λ o i. elim i [
        | inl same ↦ inr (inl same)
        | inr more ↦ elim (in-insert p tube v es more) [ inl new ↦ inl new | inr old ↦ inr (inr old) ]
      ]
    ] refl i

pub ends-insert : (second : ℕ) (ends : List Pause) (tube : List ℕ) (v : ℕ) (es fs : List (List ℕ × ℕ))
    → fs ≡ insert_entry name_cmp es tube v → In (record { until = v; tube = tube }) ends → HasEnds second ends es
    → HasEnds second ends fs
ends-insert second ends tube v es fs is there h p i later =
    elim (in-insert p tube v es (subst (In p) is i)) [
      | inl new ↦ subst (λ (q : List ℕ × ℕ). In (record { until = q.1; tube = q.0 }) ends) (sym new) there
      | inr old ↦ h p old later
    ]

pub ends-grown : (second : ℕ) (ends more : List Pause) (es fs : List (List ℕ × ℕ)) → fs ≡ es
    → ((p : Pause) → In p ends → In p more) → HasEnds second ends es → HasEnds second more fs
ends-grown second ends more es fs is grown h p i later = grown (record { until = p.1; tube = p.0 }) (h p (subst (In p) is i) later)

-- the first end is over, and went
pub ends-less : (second : ℕ) (end : Pause) (ends rest : List Pause) (es fs : List (List ℕ × ℕ)) → end.until ≤ second
    → ends ≡ end ∷ rest → ((p : List ℕ × ℕ) → In p fs → In p es) → HasEnds second ends es → HasEnds second rest fs
ends-less second end ends rest es fs over is fewer h p i later =
    elim (subst (In (record { until = p.1; tube = p.0 })) is (h p (fewer p i) later)) [
      | inl same ↦ absurd (omega (arith, over, later, ap (λ (q : Pause). q.until) same))
      | inr more ↦ more
    ]

-- Ends in their order

same-pause : (p q : Pause) → pause_cmp p q ≡ Equal → p ≡ q
same-pause p q e =
    let both = then_equal (nat_cmp p.until q.until) (name_cmp p.tube q.tube) e in
    let u : p.until ≡ q.until = exact_unsigned p.until q.until both.0 in
    let t : p.tube ≡ q.tube = exact_bytes p.tube q.tube both.1 in
    λ i. record { until = u i; tube = t i }

pub kept-key : (k p : Pause) (ks : List Pause) → In p ks → In p (insert_key pause_cmp ks k)
kept-key k p [] i = absurd i
kept-key k p (x ∷ xs) i =
    elim (pause_cmp k x) as (λ o. In p (match_ordering o (k ∷ x ∷ xs) (x ∷ xs) (x ∷ insert_key pause_cmp xs k))) [
      | Less ↦ inr i
      | Equal ↦ i
      | Greater ↦ elim i as (λ _. In p (x ∷ insert_key pause_cmp xs k)) [ inl same ↦ inl same | inr more ↦ inr (kept-key k p xs more) ]
    ]

pub new-key : (k : Pause) (ks : List Pause) → In k (insert_key pause_cmp ks k)
new-key k [] = inl refl
new-key k (x ∷ xs) =
    elim (pause_cmp k x) as (λ o. pause_cmp k x ≡ o → In k (match_ordering o (k ∷ x ∷ xs) (x ∷ xs) (x ∷ insert_key pause_cmp xs k))) [
      | Less ↦ λ o. inl refl
      | Equal ↦ λ o. inl (same-pause k x o)
      | Greater ↦ λ o. inr (new-key k xs)
    ] refl

-- the first of some ends is the soonest
not-later : (k x : Pause) → pause_cmp k x ≡ Less → k.until ≤ x.until
not-later k x l =
    elim (nat_lt x.until k.until) as (λ b. nat_lt x.until k.until ≡ b → k.until ≤ x.until) [
      | true ↦ λ t.
          let e : Greater ≡ Less = sym (ap (λ o. ordering_then o (name_cmp k.tube x.tube)) (cmp_greater k.until x.until (ltb-true x.until k.until t))) ∙ l in
          cc
      | false ↦ λ t. ltb-false x.until k.until t
    ] refl

soonest-tail : (k p : Pause) (ks : List Pause) → AllByRecursion (λ q. pause_cmp k q ≡ Less) ks → In p ks → k.until ≤ p.until
soonest-tail k p [] a i = absurd i
soonest-tail k p (x ∷ xs) a i = elim i [
  | inl same ↦ subst (λ (q : Pause). k.until ≤ q.until) (sym same) (not-later k x a.0)
  | inr more ↦ soonest-tail k p xs a.1 more
]

pub soonest : (k p : Pause) (ks : List Pause) → IsStrictlySortedBy pause_cmp (k ∷ ks) → In p (k ∷ ks) → k.until ≤ p.until
soonest k p ks s i = elim i [
  | inl same ↦ subst (λ (q : Pause). k.until ≤ q.until) (sym same) (omega arith)
  | inr more ↦ soonest-tail k p ks (sorted_head pause_cmp k ks s) more
]

pub sorted-rest : (items rest : List Pause) (first : Pause) → items ≡ first ∷ rest → IsStrictlySortedBy pause_cmp items → IsStrictlySortedBy pause_cmp rest
sorted-rest items rest first is sorted = sorted_tail pause_cmp first rest (subst (IsStrictlySortedBy pause_cmp) is sorted)

-- What is over is dropped

pub drops-none : (second : ℕ) (es : List (List ℕ × ℕ)) → DropsOver second es es
drops-none second es = record { left = refl; fewer = λ p i. i }

pub drops-twice : {second : ℕ} {a b c : List (List ℕ × ℕ)} → DropsOver second a b → DropsOver second b c → DropsOver second a c
drops-twice one two = record {
  left = two.left ∙ one.left;
  fewer = λ p i. one.fewer p (two.fewer p i);
}
