-- Maps by name, as `BTreeMap` changes them.
use Rattle.std.proofs.Common.{◌≡◌, ℕ, Bool, true, false, cond, not, List, [], ◌∷◌, Some, None, is_some, bytes_eq}
use Rattle.std.proofs.Common.{refl, sym, ap, ap₂, ◌∙◌, Less, Equal, Greater, true≢false}
use Rattle.std.proofs.lemmas.Bool.{cond-true, cond-false}
use Rattle.std.specs.Ordering.{match_ordering, is_eq}
use Rattle.std.specs.List.{filter}
use Rattle.std.specs.List.Sorted.{IsStrictlySortedBy}
use Rattle.std.specs.Cmp.{eq_by_cmp_equiv}
use Rattle.std.specs.Cmp.Lexicographic.{nat_list_cmp_total}
use Rattle.std.specs.Map.{keys_of, lookup, remove_entry, set_value}
use Rattle.std.specs.BTreeMap.{is_at, insert_entry}
use Rattle.std.proofs.lemmas.Map.{NonePasses, lookup-none}
use Rattle.std.proofs.lemmas.Map.Entries.{none_below_head, none_past_head, lookup-filter-keys}
use Rattle.std.proofs.lemmas.Map.Keys.{sorted_tail, IsDistinct-from_sorted}
use Rattle.std.proofs.lemmas.Map.Lookups.{exact_bytes}
use Rattle.std.proofs.lemmas.Map.Text.{is_eq-slice_cmp}
use Rattle.std.proofs.lemmas.Slice.Eq.{bytes_eq-Decides}
use Rattle.bean_words.specs.Names.{name_cmp}

-- whether this is the entry of the tube
abbrev pub of : List ℕ → List ℕ → Bool
of tube = is_at (name_cmp tube)

pub itself : (tube : List ℕ) → bytes_eq tube tube ≡ true
itself tube = (bytes_eq-Decides tube tube).1 refl

pub another : (x y : List ℕ) → (x ≡ y → ⊥) → bytes_eq x y ≡ false
another x y apart = elim (bytes_eq x y) as (λ b. bytes_eq x y ≡ b
    → b ≡ false) [ true ↦ λ t. absurd (apart ((bytes_eq-Decides x y).0 t)) | false ↦ λ t. refl ] refl

module _ {V : Type 0} where
  pub the_some : (x y : V) → Some x ≡ Some y → x ≡ y
  the_some x y e = ap (λ o. elim o [ None ↦ x | Some z ↦ z ]) e

  -- what is found by the order of names is found by the name
  pub lookup-name : (tube : List ℕ) (es : List (List ℕ × V)) → lookup (of tube) es ≡ lookup (bytes_eq tube) es
  lookup-name tube [] = refl
  lookup-name tube (e ∷ es) = ap₂ (λ b o. cond b (Some e.1) o) (is_eq-slice_cmp tube e.0) (lookup-name tube es)

  -- An entry that changes

  -- what is written through `get_mut` could be inserted
  pub set-inserts : (tube : List ℕ) (v old : V) (es : List (List ℕ × V)) → IsStrictlySortedBy name_cmp (keys_of es)
      → lookup (of tube) es ≡ Some old → set_value (of tube) es v ≡ insert_entry name_cmp es tube v
  set-inserts tube v old [] s there = absurd (true≢false (sym (ap is_some there)))
  set-inserts tube v old (e ∷ es) s there =
      elim (name_cmp tube e.0) as (λ o. name_cmp tube e.0 ≡ o
      → cond (is_eq o) ((e.0, v) ∷ es) (e ∷ set_value (of tube) es v)
      ≡ match_ordering o ((tube, v) ∷ e ∷ es) ((e.0, v) ∷ es) (e ∷ insert_entry name_cmp es tube v)) [
        | Less ↦ λ o.
            let none : lookup (of tube) (e ∷ es) ≡ None = lookup-none (of tube) (e ∷ es) (none_below_head nat_list_cmp_total tube e es s o) in
            absurd (true≢false (sym (ap is_some (sym none ∙ there))))
        | Equal ↦ λ o. refl
        | Greater ↦ λ o.
            ap (λ zs. e ∷ zs) (set-inserts tube v old es (sorted_tail name_cmp e.0 (keys_of es) s)
            (sym (cond-false (of tube e.0) (Some e.1) (lookup (of tube) es) (ap is_eq o)) ∙ there))
      ] refl

  -- the old value, written again, takes that back
  pub set-back : (tube : List ℕ) (v old : V) (es : List (List ℕ × V)) → lookup (of tube) es ≡ Some old
      → set_value (of tube) (set_value (of tube) es v) old ≡ es
  set-back tube v old [] there = refl
  set-back tube v old (e ∷ es) there =
      elim (of tube e.0) as (λ b. of tube e.0 ≡ b → cond b (Some e.1) (lookup (of tube) es) ≡ Some old
      → set_value (of tube) (cond b ((e.0, v) ∷ es) (e ∷ set_value (of tube) es v)) old ≡ e ∷ es) [
        | true ↦ λ t is.
            cond-true (of tube e.0) ((e.0, old) ∷ es) ((e.0, v) ∷ set_value (of tube) es old) t ∙
            ap (λ x. (e.0, x) ∷ es) (sym (the_some e.1 old is))
        | false ↦ λ t is.
            cond-false (of tube e.0) ((e.0, old) ∷ set_value (of tube) es v) (e ∷ set_value (of tube) (set_value (of tube) es v) old) t ∙
            ap (λ zs. e ∷ zs) (set-back tube v old es is)
      ] refl there

  -- where there is none, nothing is written
  pub set-absent : (tube : List ℕ) (v : V) (es : List (List ℕ × V)) → lookup (of tube) es ≡ None → set_value (of tube) es v ≡ es
  set-absent tube v [] absent = refl
  set-absent tube v (e ∷ es) absent =
      elim (of tube e.0) as (λ b. cond b (Some e.1) (lookup (of tube) es) ≡ None → cond b ((e.0, v) ∷ es) (e ∷ set_value (of tube) es v) ≡ e ∷ es) [
        | true ↦ λ is. absurd (true≢false (ap is_some is))
        | false ↦ λ is. ap (λ zs. e ∷ zs) (set-absent tube v es is)
      ] absent

  -- An entry that comes or goes

  -- a new entry, taken out
  pub remove-insert : (tube : List ℕ) (v : V) (es : List (List ℕ × V)) → lookup (of tube) es ≡ None
      → remove_entry (of tube) (insert_entry name_cmp es tube v) ≡ es
  remove-insert tube v [] absent = cond-true (of tube tube) [] ((tube, v) ∷ []) (is_eq-slice_cmp tube tube ∙ itself tube)
  remove-insert tube v (e ∷ es) absent =
      elim (name_cmp tube e.0) as (λ o. name_cmp tube e.0 ≡ o
      → remove_entry (of tube) (match_ordering o ((tube, v) ∷ e ∷ es) ((e.0, v) ∷ es)
      (e ∷ insert_entry name_cmp es tube v)) ≡ e ∷ es) [
        | Less ↦ λ o. cond-true (of tube tube) (e ∷ es) ((tube, v) ∷ remove_entry (of tube) (e ∷ es)) (is_eq-slice_cmp tube tube ∙ itself tube)
        | Equal ↦ λ o. absurd (true≢false (ap is_some (sym (cond-true (of tube e.0) (Some e.1) (lookup (of tube) es) (ap is_eq o)) ∙ absent)))
        | Greater ↦ λ o.
            cond-false (of tube e.0) (insert_entry name_cmp es tube v) (e ∷ remove_entry (of tube) (insert_entry name_cmp es tube v)) (ap is_eq o) ∙
            ap (λ zs. e ∷ zs) (remove-insert tube v es (sym (cond-false (of tube e.0) (Some e.1) (lookup (of tube) es) (ap is_eq o)) ∙ absent))
      ] refl

  filter-none : (tube : List ℕ) (es : List (List ℕ × V)) → NonePasses (of tube) es → filter (λ e. not (bytes_eq tube e.0)) es ≡ es
  filter-none tube [] none = refl
  filter-none tube (e ∷ es) none =
      let rest = filter (λ (d : List ℕ × V). not (bytes_eq tube d.0)) es in
      cond-true (not (bytes_eq tube e.0)) (e ∷ rest) rest (ap not (sym (is_eq-slice_cmp tube e.0) ∙ none.0)) ∙ ap (λ zs. e ∷ zs) (filter-none tube es none.1)

  -- the entries of the other names are left
  pub remove-filter : (tube : List ℕ) (es : List (List ℕ × V)) → IsStrictlySortedBy name_cmp (keys_of es)
      → remove_entry (of tube) es ≡ filter (λ e. not (bytes_eq tube e.0)) es
  remove-filter tube [] s = refl
  remove-filter tube (e ∷ es) s =
      let rest = filter (λ (d : List ℕ × V). not (bytes_eq tube d.0)) es in
      elim (of tube e.0) as (λ b. of tube e.0 ≡ b → cond b es (e ∷ remove_entry (of tube) es) ≡ filter (λ d. not (bytes_eq tube d.0)) (e ∷ es)) [
        | true ↦ λ t.
            let none : NonePasses (of tube) es =
            none_past_head (eq_by_cmp_equiv nat_list_cmp_total) tube e es
            (IsDistinct-from_sorted name_cmp (keys_of (e ∷ es)) s) t in
            sym (cond-false (not (bytes_eq tube e.0)) (e ∷ rest) rest (ap not (sym (is_eq-slice_cmp tube e.0) ∙ t)) ∙ filter-none tube es none)
        | false ↦ λ t.
            ap (λ zs. e ∷ zs) (remove-filter tube es (sorted_tail name_cmp e.0 (keys_of es) s)) ∙
            sym (cond-true (not (bytes_eq tube e.0)) (e ∷ rest) rest (ap not (sym (is_eq-slice_cmp tube e.0) ∙ t)))
      ] refl

  -- What is found by a name

  pub inserted-there : (tube : List ℕ) (v : V) (es : List (List ℕ × V)) → lookup (bytes_eq tube) (insert_entry name_cmp es tube v) ≡ Some v
  inserted-there tube v [] = cond-true (bytes_eq tube tube) (Some v) None (itself tube)
  inserted-there tube v (e ∷ es) =
      elim (name_cmp tube e.0) as (λ o. name_cmp tube e.0 ≡ o
      → lookup (bytes_eq tube) (match_ordering o ((tube, v) ∷ e ∷ es) ((e.0, v) ∷ es) (e ∷ insert_entry name_cmp es tube v)) ≡ Some v) [
        | Less ↦ λ o. cond-true (bytes_eq tube tube) (Some v) (lookup (bytes_eq tube) (e ∷ es)) (itself tube)
        | Equal ↦ λ o. cond-true (bytes_eq tube e.0) (Some v) (lookup (bytes_eq tube) es) (sym (is_eq-slice_cmp tube e.0) ∙ ap is_eq o)
        | Greater ↦ λ o.
            cond-false (bytes_eq tube e.0) (Some e.1) (lookup (bytes_eq tube) (insert_entry name_cmp es tube v))
            (sym (is_eq-slice_cmp tube e.0) ∙ ap is_eq o) ∙ inserted-there tube v es
      ] refl

  pub inserted-elsewhere : (tube other : List ℕ) (v : V) (es : List (List ℕ × V)) → (other ≡ tube → ⊥)
      → lookup (bytes_eq other) (insert_entry name_cmp es tube v) ≡ lookup (bytes_eq other) es
  inserted-elsewhere tube other v [] apart = cond-false (bytes_eq other tube) (Some v) None (another other tube apart)
  inserted-elsewhere tube other v (e ∷ es) apart =
      elim (name_cmp tube e.0) as (λ o. name_cmp tube e.0 ≡ o
      → lookup (bytes_eq other) (match_ordering o ((tube, v) ∷ e ∷ es) ((e.0, v) ∷ es) (e ∷ insert_entry name_cmp es tube v))
      ≡ lookup (bytes_eq other) (e ∷ es)) [
        | Less ↦ λ o. cond-false (bytes_eq other tube) (Some v) (lookup (bytes_eq other) (e ∷ es)) (another other tube apart)
        | Equal ↦ λ o.
            let no : bytes_eq other e.0 ≡ false = another other e.0 (λ same. apart (same ∙ sym (exact_bytes tube e.0 o))) in
            cond-false (bytes_eq other e.0) (Some v) (lookup (bytes_eq other) es) no ∙
            sym (cond-false (bytes_eq other e.0) (Some e.1) (lookup (bytes_eq other) es) no)
        | Greater ↦ λ o. ap (cond (bytes_eq other e.0) (Some e.1)) (inserted-elsewhere tube other v es apart)
      ] refl

  pub filtered-there : (tube : List ℕ) (es : List (List ℕ × V)) → lookup (bytes_eq tube) (filter (λ e. not (bytes_eq tube e.0)) es) ≡ None
  filtered-there tube es = lookup-filter-keys (bytes_eq tube) (λ k. not (bytes_eq tube k)) false (λ k is. ap not is) es

  pub filtered-elsewhere : (tube other : List ℕ) (es : List (List ℕ × V)) → (other ≡ tube → ⊥)
      → lookup (bytes_eq other) (filter (λ e. not (bytes_eq tube e.0)) es) ≡ lookup (bytes_eq other) es
  filtered-elsewhere tube other es apart =
      lookup-filter-keys (bytes_eq other) (λ k. not (bytes_eq tube k)) true
      (λ k is. ap not (another tube k (λ same. apart ((bytes_eq-Decides other k).0 is ∙ sym same)))) es
