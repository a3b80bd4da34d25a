-- Maps from tubes to seconds, as `BTreeMap` changes them, and the pauses that are left of them.
use Rattle.std.proofs.Common.{◌≡◌, ◌↔◌, ℕ, ◌<◌, ◌≤◌, true, false, cond, not, ◌||◌, inl, inr, List, [], ◌∷◌, Some}
use Rattle.std.proofs.Common.{None, is_some, nat_lt, bytes_eq, refl, sym, ap, ap₂, subst, ◌∙◌, arith, ltb-true}
use Rattle.std.proofs.Common.{ltb-false, le-ltb, Less, Equal, Greater, true≢false}
use Rattle.std.proofs.lemmas.Bool.{cond-true, cond-false}
use Rattle.std.specs.Ordering.{match_ordering, is_eq}
use Rattle.std.specs.List.{AllByRecursion, filter}
use Rattle.std.specs.List.Sorted.{IsStrictlySortedBy}
use Rattle.std.specs.Map.{keys_of, lookup, remove_entry}
use Rattle.std.specs.BTreeMap.{insert_entry}
use Rattle.std.specs.Cmp.Lexicographic.{nat_list_cmp_total}
use Rattle.std.proofs.lemmas.Map.Keys.{sorted_head, sorted_tail}
use Rattle.std.proofs.lemmas.Map.Lookups.{exact_bytes}
use Rattle.std.proofs.lemmas.Map.Text.{is_eq-slice_cmp}
use Rattle.std.proofs.lemmas.Slice.Eq.{bytes_eq-Decides}
use Rattle.object.specs.Lists.{In}
use Rattle.bean_words.specs.Names.{name_cmp}
use Rattle.tube_store.proofs.NameMaps.{of, itself, the_some}
use Rattle.pause_store.specs.Pauses.{is_paused, left_at, unpaused, tubes_over}

abbrev Seconds : Type 0
Seconds = List (List ℕ × ℕ)

-- all entries are of tubes after this one
abbrev AreAbove : List ℕ → Seconds → Type 0
AreAbove tube es = AllByRecursion (λ p. name_cmp tube p.0 ≡ Less) es

above-keys : (tube : List ℕ) (es : Seconds) → AllByRecursion (λ q. name_cmp tube q ≡ Less) (keys_of es) → AreAbove tube es
above-keys tube [] a = tt
above-keys tube (e ∷ es) a = (a.0, above-keys tube es a.1)

above-head : (e : List ℕ × ℕ) (es : Seconds) → IsStrictlySortedBy name_cmp (keys_of (e ∷ es)) → AreAbove e.0 es
above-head e es s = above-keys e.0 es (sorted_head name_cmp e.0 (keys_of es) s)

above-far : (tube : List ℕ) (e : List ℕ × ℕ) (es : Seconds) → name_cmp tube e.0 ≡ Less → AreAbove e.0 es → AreAbove tube es
above-far tube e [] l a = tt
above-far tube e (d ∷ es) l a = (nat_list_cmp_total.trans tube e.0 d.0 l a.0, above-far tube e es l a.1)

above-left : (tube : List ℕ) (second : ℕ) (es : Seconds) → AreAbove tube es → AreAbove tube (left_at second es)
above-left tube second [] a = tt
above-left tube second (e ∷ es) a =
    elim (nat_lt second e.1) as (λ b. AreAbove tube (cond b (e ∷ left_at second es) (left_at second es))) [
      | true ↦ (a.0, above-left tube second es a.1)
      | false ↦ above-left tube second es a.1
    ]

same-tube : (x y : List ℕ) → name_cmp x y ≡ Equal → x ≡ y
same-tube x y e = exact_bytes x y e

is-itself : (tube : List ℕ) → of tube tube ≡ true
is-itself tube = is_eq-slice_cmp tube tube ∙ itself tube

-- An entry before all others

insert-front : (tube : List ℕ) (v : ℕ) (es : Seconds) → AreAbove tube es → insert_entry name_cmp es tube v ≡ (tube, v) ∷ es
insert-front tube v [] a = refl
insert-front tube v (e ∷ es) a = ap (λ o. match_ordering o ((tube, v) ∷ e ∷ es) ((e.0, v) ∷ es) (e ∷ insert_entry name_cmp es tube v)) a.0

unpaused-front : (tube : List ℕ) (es : Seconds) → AreAbove tube es → unpaused tube es ≡ es
unpaused-front tube [] a = refl
unpaused-front tube (e ∷ es) a =
    cond-true (not (bytes_eq tube e.0)) (e ∷ unpaused tube es) (unpaused tube es) (ap not (sym (is_eq-slice_cmp tube e.0) ∙ ap is_eq a.0)) ∙
    ap (λ zs. e ∷ zs) (unpaused-front tube es a.1)

none-front : (tube : List ℕ) (es : Seconds) → AreAbove tube es → lookup (of tube) es ≡ None
none-front tube [] a = refl
none-front tube (e ∷ es) a = cond-false (of tube e.0) (Some e.1) (lookup (of tube) es) (ap is_eq a.0) ∙ none-front tube es a.1

-- What is left after a second was set

pub left-insert : (second : ℕ) (tube : List ℕ) (v : ℕ) (es : Seconds) → IsStrictlySortedBy name_cmp (keys_of es)
    → nat_lt second v ≡ true → left_at second (insert_entry name_cmp es tube v)
    ≡ insert_entry name_cmp (left_at second es) tube v
left-insert second tube v [] s later = cond-true (nat_lt second v) ((tube, v) ∷ []) [] later
left-insert second tube v (e ∷ es) s later =
    let rest = left_at second es in
    let above : AreAbove e.0 es = above-head e es s in
    elim (name_cmp tube e.0) as (λ o. name_cmp tube e.0 ≡ o
    → left_at second (match_ordering o ((tube, v) ∷ e ∷ es) ((e.0, v) ∷ es) (e ∷ insert_entry name_cmp es tube v))
    ≡ insert_entry name_cmp (left_at second (e ∷ es)) tube v) [
      | Less ↦ λ o.
          cond-true (nat_lt second v) ((tube, v) ∷ left_at second (e ∷ es)) (left_at second (e ∷ es)) later ∙
          sym (insert-front tube v (left_at second (e ∷ es)) (above-left tube second (e ∷ es) (o, above-far tube e es o above)))
      | Equal ↦ λ o.
          cond-true (nat_lt second v) ((e.0, v) ∷ rest) rest later ∙
          elim (nat_lt second e.1) as (λ b. (e.0, v) ∷ rest ≡ insert_entry name_cmp (cond b (e ∷ rest) rest) tube v) [
            | true ↦ sym (ap (λ o. match_ordering o ((tube, v) ∷ e ∷ rest) ((e.0, v) ∷ rest) (e ∷ insert_entry name_cmp rest tube v)) o)
            | false ↦
                ap (λ x. (x, v) ∷ rest) (sym (same-tube tube e.0 o)) ∙
                sym (insert-front tube v rest (subst (λ x. AreAbove x rest) (sym (same-tube tube e.0 o)) (above-left e.0 second es above)))
          ]
      | Greater ↦ λ o.
          elim (nat_lt second e.1) as (λ b. cond b (e ∷ left_at second (insert_entry name_cmp es tube v))
          (left_at second (insert_entry name_cmp es tube v))
          ≡ insert_entry name_cmp (cond b (e ∷ rest) rest) tube v) [
            | true ↦
                ap (λ zs. e ∷ zs) (left-insert second tube v es (sorted_tail name_cmp e.0 (keys_of es) s) later) ∙
                sym (ap (λ o. match_ordering o ((tube, v) ∷ e ∷ rest) ((e.0, v) ∷ rest) (e ∷ insert_entry name_cmp rest tube v)) o)
            | false ↦ left-insert second tube v es (sorted_tail name_cmp e.0 (keys_of es) s) later
          ]
    ] refl

pub left-over : (second : ℕ) (tube : List ℕ) (v : ℕ) (es : Seconds) → IsStrictlySortedBy name_cmp (keys_of es)
    → nat_lt second v ≡ false → left_at second (insert_entry name_cmp es tube v) ≡ unpaused tube (left_at second es)
left-over second tube v [] s over = cond-false (nat_lt second v) ((tube, v) ∷ []) [] over
left-over second tube v (e ∷ es) s over =
    let rest = left_at second es in
    let above : AreAbove e.0 es = above-head e es s in
    elim (name_cmp tube e.0) as (λ o. name_cmp tube e.0 ≡ o
    → left_at second (match_ordering o ((tube, v) ∷ e ∷ es) ((e.0, v) ∷ es) (e ∷ insert_entry name_cmp es tube v))
    ≡ unpaused tube (left_at second (e ∷ es))) [
      | Less ↦ λ o.
          cond-false (nat_lt second v) ((tube, v) ∷ left_at second (e ∷ es)) (left_at second (e ∷ es)) over ∙
          sym (unpaused-front tube (left_at second (e ∷ es)) (above-left tube second (e ∷ es) (o, above-far tube e es o above)))
      | Equal ↦ λ o.
          let others : unpaused tube rest ≡ rest =
          unpaused-front tube rest (subst (λ x. AreAbove x rest) (sym (same-tube tube e.0 o))
          (above-left e.0 second es above)) in
          cond-false (nat_lt second v) ((e.0, v) ∷ rest) rest over ∙
          elim (nat_lt second e.1) as (λ b. rest ≡ unpaused tube (cond b (e ∷ rest) rest)) [
            | true ↦ sym (cond-false (not (bytes_eq tube e.0)) (e ∷ unpaused tube rest) (unpaused tube rest)
                (ap not (sym (is_eq-slice_cmp tube e.0) ∙ ap is_eq o)) ∙ others)
            | false ↦ sym others
          ]
      | Greater ↦ λ o.
          let next = left-over second tube v es (sorted_tail name_cmp e.0 (keys_of es) s) over in
          elim (nat_lt second e.1) as (λ b. cond b (e ∷ left_at second (insert_entry name_cmp es tube v))
          (left_at second (insert_entry name_cmp es tube v)) ≡ unpaused tube (cond b (e ∷ rest) rest)) [
            | true ↦
                ap (λ zs. e ∷ zs) next ∙
                sym (cond-true (not (bytes_eq tube e.0)) (e ∷ unpaused tube rest) (unpaused tube rest) (ap not (sym (is_eq-slice_cmp tube e.0) ∙ ap is_eq o)))
            | false ↦ next
          ]
    ] refl

-- What is left after an entry that is over went

pub left-remove : (second : ℕ) (tube : List ℕ) (v : ℕ) (es : Seconds) → lookup (of tube) es ≡ Some v
    → nat_lt second v ≡ false → left_at second (remove_entry (of tube) es) ≡ left_at second es
left-remove second tube v [] there over = refl
left-remove second tube v (e ∷ es) there over =
    elim (of tube e.0) as (λ b. cond b (Some e.1) (lookup (of tube) es) ≡ Some v
    → left_at second (cond b es (e ∷ remove_entry (of tube) es)) ≡ left_at second (e ∷ es)) [
      | true ↦ λ is. sym (cond-false (nat_lt second e.1) (e ∷ left_at second es) (left_at second es) (ap (nat_lt second) (the_some e.1 v is) ∙ over))
      | false ↦ λ is. ap (λ zs. cond (nat_lt second e.1) (e ∷ zs) zs) (left-remove second tube v es is over)
    ] there

pub left-later : (second later : ℕ) (es : Seconds) → second ≤ later → left_at later (left_at second es) ≡ left_at later es
left-later second later [] h = refl
left-later second later (e ∷ es) h =
    elim (nat_lt second e.1) as (λ b. nat_lt second e.1 ≡ b → left_at later (cond b (e ∷ left_at second es) (left_at second es)) ≡ left_at later (e ∷ es)) [
      | true ↦ λ t. ap (λ zs. cond (nat_lt later e.1) (e ∷ zs) zs) (left-later second later es h)
      | false ↦ λ t.
          let over = ltb-false second e.1 t in
          left-later second later es h ∙ sym
          (cond-false (nat_lt later e.1) (e ∷ left_at later es) (left_at later es)
          (le-ltb later e.1 (omega (arith, over, h))))
    ] refl

-- Whether a tube is paused

none-paused : (tube : List ℕ) (es : Seconds) → AreAbove tube es → is_paused tube es ≡ false
none-paused tube [] a = refl
none-paused tube (e ∷ es) a = ap (λ b. b || is_paused tube es) (sym (is_eq-slice_cmp tube e.0) ∙ ap is_eq a.0) ∙ none-paused tube es a.1

pub paused-there : (second : ℕ) (tube : List ℕ) (v : ℕ) (es : Seconds) → IsStrictlySortedBy name_cmp (keys_of es)
    → lookup (of tube) es ≡ Some v → is_paused tube (left_at second es) ≡ nat_lt second v
paused-there second tube v [] s there = absurd (true≢false (sym (ap is_some there)))
paused-there second tube v (e ∷ es) s there =
    let rest = left_at second es in
    elim (name_cmp tube e.0) as (λ o. name_cmp tube e.0 ≡ o → is_paused tube (left_at second (e ∷ es)) ≡ nat_lt second v) [
      | Less ↦ λ o. absurd (true≢false (sym (ap is_some (sym (none-front tube (e ∷ es) (o, above-far tube e es o (above-head e es s))) ∙ there))))
      | Equal ↦ λ o.
          let here : e.1 ≡ v = the_some e.1 v (sym (cond-true (of tube e.0) (Some e.1) (lookup (of tube) es) (ap is_eq o)) ∙ there) in
          elim (nat_lt second e.1) as (λ b. is_paused tube (cond b (e ∷ rest) rest) ≡ b) [
            | true ↦ ap (λ b. b || is_paused tube rest) (sym (is_eq-slice_cmp tube e.0) ∙ ap is_eq o)
            | false ↦ none-paused tube rest (subst (λ x. AreAbove x rest) (sym (same-tube tube e.0 o)) (above-left e.0 second es (above-head e es s)))
          ] ∙ ap (nat_lt second) here
      | Greater ↦ λ o.
          let next = paused-there second tube v es (sorted_tail name_cmp e.0 (keys_of es) s)
          (sym (cond-false (of tube e.0) (Some e.1) (lookup (of tube) es) (ap is_eq o)) ∙ there) in
          elim (nat_lt second e.1) as (λ b. is_paused tube (cond b (e ∷ rest) rest) ≡ nat_lt second v) [
            | true ↦ ap (λ b. b || is_paused tube rest) (sym (is_eq-slice_cmp tube e.0) ∙ ap is_eq o) ∙ next
            | false ↦ next
          ]
    ] refl

pub paused-nowhere : (second : ℕ) (tube : List ℕ) (es : Seconds) → lookup (of tube) es ≡ None → is_paused tube (left_at second es) ≡ false
paused-nowhere second tube [] absent = refl
paused-nowhere second tube (e ∷ es) absent =
    let rest = left_at second es in
    elim (of tube e.0) as (λ t. of tube e.0 ≡ t → cond t (Some e.1) (lookup (of tube) es) ≡ None → is_paused tube (left_at second (e ∷ es)) ≡ false) [
      | true ↦ λ t is. absurd (true≢false (ap is_some is))
      | false ↦ λ t is.
          elim (nat_lt second e.1) as (λ b. is_paused tube (cond b (e ∷ rest) rest) ≡ false) [
            | true ↦ ap (λ b. b || is_paused tube rest) (sym (is_eq-slice_cmp tube e.0) ∙ t) ∙ paused-nowhere second tube es is
            | false ↦ paused-nowhere second tube es is
          ]
    ] refl absent

-- Until when it is

pub end-there : (second : ℕ) (tube : List ℕ) (v : ℕ) (es : Seconds) → IsStrictlySortedBy name_cmp (keys_of es)
    → lookup (of tube) es ≡ Some v → lookup (of tube) (left_at second es) ≡ cond (nat_lt second v) (Some v) None
end-there second tube v [] s there = absurd (true≢false (sym (ap is_some there)))
end-there second tube v (e ∷ es) s there =
    let rest = left_at second es in
    elim (name_cmp tube e.0) as (λ o. name_cmp tube e.0 ≡ o → lookup (of tube) (left_at second (e ∷ es)) ≡ cond (nat_lt second v) (Some v) None) [
      | Less ↦ λ o. absurd (true≢false (sym (ap is_some (sym (none-front tube (e ∷ es) (o, above-far tube e es o (above-head e es s))) ∙ there))))
      | Equal ↦ λ o.
          let here : e.1 ≡ v = the_some e.1 v (sym (cond-true (of tube e.0) (Some e.1) (lookup (of tube) es) (ap is_eq o)) ∙ there) in
          elim (nat_lt second e.1) as (λ b. lookup (of tube) (cond b (e ∷ rest) rest) ≡ cond b (Some e.1) None) [
            | true ↦ cond-true (of tube e.0) (Some e.1) (lookup (of tube) rest) (ap is_eq o)
            | false ↦ none-front tube rest (subst (λ x. AreAbove x rest) (sym (same-tube tube e.0 o)) (above-left e.0 second es (above-head e es s)))
          ] ∙ ap (λ n. cond (nat_lt second n) (Some n) None) here
      | Greater ↦ λ o.
          let next = end-there second tube v es (sorted_tail name_cmp e.0 (keys_of es) s)
          (sym (cond-false (of tube e.0) (Some e.1) (lookup (of tube) es) (ap is_eq o)) ∙ there) in
          elim (nat_lt second e.1) as (λ b. lookup (of tube) (cond b (e ∷ rest) rest) ≡ cond (nat_lt second v) (Some v) None) [
            | true ↦ cond-false (of tube e.0) (Some e.1) (lookup (of tube) rest) (ap is_eq o) ∙ next
            | false ↦ next
          ]
    ] refl

pub end-nowhere : (second : ℕ) (tube : List ℕ) (es : Seconds) → lookup (of tube) es ≡ None → lookup (of tube) (left_at second es) ≡ None
end-nowhere second tube [] absent = refl
end-nowhere second tube (e ∷ es) absent =
    let rest = left_at second es in
    elim (of tube e.0) as (λ t. of tube e.0 ≡ t → cond t (Some e.1) (lookup (of tube) es) ≡ None → lookup (of tube) (left_at second (e ∷ es)) ≡ None) [
      | true ↦ λ t is. absurd (true≢false (ap is_some is))
      | false ↦ λ t is.
          elim (nat_lt second e.1) as (λ b. lookup (of tube) (cond b (e ∷ rest) rest) ≡ None) [
            | true ↦ cond-false (of tube e.0) (Some e.1) (lookup (of tube) rest) t ∙ end-nowhere second tube es is
            | false ↦ end-nowhere second tube es is
          ]
    ] refl absent

-- Entries that go, and those that are left

pub in-remove : (tube : List ℕ) (p : List ℕ × ℕ) (es : Seconds) → In p (remove_entry (of tube) es) → In p es
in-remove tube p [] i = i
in-remove tube p (e ∷ es) i =
    elim (of tube e.0) as (λ b. In p (cond b es (e ∷ remove_entry (of tube) es)) → In p (e ∷ es)) [
      | true ↦ λ i. inr i
      | false ↦ λ i. elim i [ inl same ↦ inl same | inr more ↦ inr (in-remove tube p es more) ]
    ] i

pub in-left : (second : ℕ) (p : List ℕ × ℕ) (es : Seconds) → In p (left_at second es) → In p es × (second < p.1)
in-left second p [] i = absurd i
in-left second p (e ∷ es) i =
    elim (nat_lt second e.1) as (λ b. nat_lt second e.1 ≡ b → In p (cond b (e ∷ left_at second es) (left_at second es)) → In p (e ∷ es) × (second < p.1)) [
      | true ↦ λ t i. elim i [
        | inl same ↦ (inl same, subst (λ (q : List ℕ × ℕ). second < q.1) (sym same) (ltb-true second e.1 t))
        | inr more ↦ let h = in-left second p es more in (inr h.0, h.1)
      ]
      | false ↦ λ t i. let h = in-left second p es i in (inr h.0, h.1)
    ] refl i

-- An entry that is there

above-in : (tube : List ℕ) (p : List ℕ × ℕ) (es : Seconds) → AreAbove tube es → In p es → name_cmp tube p.0 ≡ Less
above-in tube p [] a i = absurd i
above-in tube p (e ∷ es) a i = elim i [
  | inl same ↦ ap (λ (q : List ℕ × ℕ). name_cmp tube q.0) same ∙ a.0
  | inr more ↦ above-in tube p es a.1 more
]

not-above-itself : (tube : List ℕ) → name_cmp tube tube ≡ Less → ⊥
not-above-itself tube l = true≢false (sym (is-itself tube) ∙ ap is_eq l)

pub lookup-in : (tube : List ℕ) (v : ℕ) (es : Seconds) → IsStrictlySortedBy name_cmp (keys_of es) → In (tube, v) es → lookup (of tube) es ≡ Some v
lookup-in tube v [] s i = absurd i
lookup-in tube v (e ∷ es) s i = elim i [
  | inl same ↦
      cond-true (of tube e.0) (Some e.1) (lookup (of tube) es) (ap (λ (q : List ℕ × ℕ). of tube q.0) (sym same) ∙ is-itself tube) ∙
      ap (λ (q : List ℕ × ℕ). Some q.1) (sym same)
  | inr more ↦
      let l : name_cmp e.0 tube ≡ Less = above-in e.0 (tube, v) es (above-head e es s) more in
      elim (of tube e.0) as (λ b. of tube e.0 ≡ b → cond b (Some e.1) (lookup (of tube) es) ≡ Some v) [
        | true ↦ λ t. absurd (not-above-itself tube
            (subst (λ x. name_cmp x tube ≡ Less)
            (sym ((bytes_eq-Decides tube e.0).0 (sym (is_eq-slice_cmp tube e.0) ∙ t))) l))
        | false ↦ λ t. lookup-in tube v es (sorted_tail name_cmp e.0 (keys_of es) s) more
      ] refl
]

pub in-lookup : (tube : List ℕ) (v : ℕ) (es : Seconds) → lookup (of tube) es ≡ Some v → In (tube, v) es
in-lookup tube v [] there = absurd (true≢false (sym (ap is_some there)))
in-lookup tube v (e ∷ es) there =
    elim (of tube e.0) as (λ b. of tube e.0 ≡ b → cond b (Some e.1) (lookup (of tube) es) ≡ Some v → In (tube, v) (e ∷ es)) [
      | true ↦ λ t is.
          let same : tube ≡ e.0 = (bytes_eq-Decides tube e.0).0 (sym (is_eq-slice_cmp tube e.0) ∙ t) in
          inl (ap₂ (λ x y. (x, y)) same (sym (the_some e.1 v is)))
      | false ↦ λ t is. inr (in-lookup tube v es is)
    ] refl there

pub left-in : (second : ℕ) (p : List ℕ × ℕ) (es : Seconds) → In p es → second < p.1 → In p (left_at second es)
left-in second p [] i later = absurd i
left-in second p (e ∷ es) i later =
    elim (nat_lt second e.1) as (λ b. nat_lt second e.1 ≡ b → In p (cond b (e ∷ left_at second es) (left_at second es))) [
      | true ↦ λ t. elim i as (λ _. In p (e ∷ left_at second es)) [ inl same ↦ inl same | inr more ↦ inr (left-in second p es more later) ]
      | false ↦ λ t. elim i as (λ _. In p (left_at second es)) [
        | inl same ↦ absurd (omega (arith, later, ltb-false second e.1 t, ap (λ (q : List ℕ × ℕ). q.1) same))
        | inr more ↦ left-in second p es more later
      ]
    ] refl

-- those that are left at a later second are those that end after it
pub each-left : (second later : ℕ) (p : List ℕ × ℕ) (es : Seconds) → second ≤ later → In p (left_at later es) ↔ (In p (left_at second es) × (later < p.1))
each-left second later p es order = (
  λ i.
      let there = in-left later p es i in
      let after = there.1 in
      (left-in second p es there.0 (omega (arith, order, after)), after),
  λ both. left-in later p es (in-left second p es both.0).0 both.1,
)

-- Whose pauses are over

pub over-in : (second : ℕ) (p : List ℕ × ℕ) (es : Seconds) → In p es → p.1 ≤ second → In p.0 (tubes_over second es)
over-in second p [] i over = absurd i
over-in second p (e ∷ es) i over =
    let rest = filter (λ (q : List ℕ × ℕ). not (nat_lt second q.1)) es in
    elim (nat_lt second e.1) as (λ b. nat_lt second e.1 ≡ b → In p.0 (keys_of (cond (not b) (e ∷ rest) rest))) [
      | true ↦ λ t. elim i as (λ _. In p.0 (keys_of rest)) [
        | inl same ↦ absurd (omega (arith, over, ltb-true second e.1 t, ap (λ (q : List ℕ × ℕ). q.1) same))
        | inr more ↦ over-in second p es more over
      ]
      | false ↦ λ t. elim i as (λ _. In p.0 (keys_of (e ∷ rest))) [
        | inl same ↦ inl
            (ap (λ (q : List ℕ × ℕ). q.0) same)
        | inr more ↦ inr (over-in second p es more over)
      ]
    ] refl

pub in-over : (second : ℕ) (tube : List ℕ) (es : Seconds) → In tube (tubes_over second es) → (p : List ℕ × ℕ) × In p es × (p.1 ≤ second) × (p.0 ≡ tube)
in-over second tube [] i = absurd i
in-over second tube (e ∷ es) i =
    let rest = filter (λ (q : List ℕ × ℕ). not (nat_lt second q.1)) es in
    elim (nat_lt second e.1) as (λ b. nat_lt second e.1 ≡ b → In tube (keys_of (cond (not b) (e ∷ rest) rest))
    → (p : List ℕ × ℕ) × In p (e ∷ es) × (p.1 ≤ second) × (p.0 ≡ tube)) [
      | true ↦ λ t i. let h = in-over second tube es i in (h.0, inr h.1, h.2, h.3)
      | false ↦ λ t i. elim i as (λ _. (p : List ℕ × ℕ) × In p (e ∷ es) × (p.1 ≤ second) × (p.0 ≡ tube)) [
        | inl same ↦ (e, inl refl, ltb-false second e.1 t, sym same)
        | inr more ↦ let h = in-over second tube es more in (h.0, inr h.1, h.2, h.3)
      ]
    ] refl i
