-- Which commands stand in the requests, proposals and decisions.
use Rattle.std.proofs.Common.{◌≡◌, ℕ, Bool, true, false, cond, ◌||◌, List, [], ◌∷◌, length, None, Some, refl, sym, ap, ap₂, ◌∙◌, arith, Less, Equal, Greater}
use Rattle.std.proofs.lemmas.Bool.{or_left, or_right}
use Rattle.std.proofs.lemmas.Option.{same_Some}
use Rattle.std.specs.List.{list_any}
use Rattle.std.specs.Ordering.{nat_cmp, is_eq, eq_by_cmp}
use Rattle.std.specs.Cmp.{nat_cmp_total}
use Rattle.std.specs.Map.{values_of}
use Rattle.std.specs.FinMap.{empty, get, insert, remove, len, entries, values, find, get-entries, entries-insert, len-entries, len-empty}
use Rattle.std.specs.FinMap.Entries.{put, by_order}
use Rattle.ballot.specs.Slots.{Slots}
use Rattle.slot_log.proofs.Maps.{insert-remove, none_removed}

swapped : (a b c : Bool) → (a || (b || c)) ≡ (b || (a || c))
swapped true true c = refl
swapped true false c = refl
swapped false true c = refl
swapped false false c = refl

module _ {X : Type 0} (p : X → Bool) where
  any_put : (k : ℕ) (v : X) (es : List (ℕ × X)) → find nat_cmp k es ≡ None → list_any p (values_of (put nat_cmp k v es)) ≡ (p v || list_any p (values_of es))
  any_put k v [] none = refl
  any_put k v (e ∷ es) none =
      elim (nat_cmp k e.0) as (λ o. cond (is_eq o) (Some e.1) (find nat_cmp k es) ≡ None
      → list_any p (values_of (by_order o ((k, v) ∷ e ∷ es) ((e.0, v) ∷ es) (e ∷ put nat_cmp k v es)))
      ≡ (p v || (p e.1 || list_any p (values_of es)))) [
        | Less ↦ λ h. refl
        | Equal ↦ λ h. cc
        | Greater ↦ λ h. ap (λ b. p e.1 || b) (any_put k v es h) ∙ swapped (p e.1) (p v) (list_any p (values_of es))
      ] none

  -- a value in a new slot
  pub any_insert : (m : Slots X) (k : ℕ) (v : X) → get m k ≡ None → list_any p (values (insert m k v)) ≡ (p v || list_any p (values m))
  any_insert m k v new =
      ap (λ (es : List (ℕ × X)). list_any p (values_of es)) (entries-insert nat_cmp_total m k v)
      ∙ any_put k v (entries m) (sym (get-entries m k) ∙ new)

  -- the value of a slot that is taken out
  pub any_taken : (m : Slots X) (k : ℕ) (x : X) → get m k ≡ Some x → list_any p (values m) ≡ (p x || list_any p (values (remove m k)))
  any_taken m k x there =
      ap (λ (n : Slots X). list_any p (values n)) (sym (insert-remove m k x there))
      ∙ any_insert (remove m k) k x (none_removed m k)

  find_any : (k : ℕ) (v : X) (es : List (ℕ × X)) → find nat_cmp k es ≡ Some v → p v ≡ true → list_any p (values_of es) ≡ true
  find_any k v [] there h = cc
  find_any k v (e ∷ es) there h =
      elim (eq_by_cmp nat_cmp k e.0) as (λ b. cond b (Some e.1) (find nat_cmp k es) ≡ Some v → (p e.1 || list_any p (values_of es)) ≡ true) [
        | true ↦ λ t. or_left (p e.1) (list_any p (values_of es)) (ap p (same_Some e.1 v t) ∙ h)
        | false ↦ λ t. or_right (p e.1) (list_any p (values_of es)) (find_any k v es t h)
      ] there

  -- a value that is found
  pub any_found : (m : Slots X) (k : ℕ) (v : X) → get m k ≡ Some v → p v ≡ true → list_any p (values m) ≡ true
  any_found m k v there h = find_any k v (entries m) (sym (get-entries m k) ∙ there) h

-- The tests below are: s of the command that moves, and r, p, d of the other requests, proposals and decisions.
pub goes_to_proposals : (s r p d : Bool) → ((s || r) || (p || d)) ≡ (r || ((s || p) || d))
goes_to_proposals true true p d = refl
goes_to_proposals true false p d = refl
goes_to_proposals false r p d = refl

-- from the proposals
pub goes_back : (s r p d : Bool) → (r || ((s || p) || d)) ≡ ((r || (s || false)) || (p || d))
goes_back s true p d = refl
goes_back true false p d = refl
goes_back false false p d = refl

pub is_decided : (s r p d : Bool) → (s ≡ true → d ≡ true) → (r || ((s || p) || d)) ≡ (r || (p || d))
is_decided s true p d h = refl
is_decided true false true d h = refl
is_decided false false true d h = refl
is_decided true false false d h = sym (h refl)
is_decided false false false d h = refl

none_of_length : {A : Type 0} (xs : List A) → length xs ≡ 0 → xs ≡ []
none_of_length [] h = refl
none_of_length (x ∷ xs) h = absurd (omega arith)

-- nothing stands in a new book
pub nothing_known : {C : Type 0} (same : C → C → Bool) (requests : List C) (proposals decisions : Slots C)
    → requests ≡ [] → proposals ≡ empty → decisions ≡ empty → (c : C)
    → (list_any (λ d. same d c) requests ||
    (list_any (λ d. same d c) (values proposals) || list_any (λ d. same d c) (values decisions))) ≡ false
nothing_known {C} same requests proposals decisions r p d c =
    let none : (m : Slots C) → m ≡ empty → list_any (λ d. same d c) (values m) ≡ false =
    λ m e. ap (λ (es : List (ℕ × C)). list_any (λ d. same d c) (values_of es))
    (none_of_length (entries m) (sym (len-entries m) ∙ ap len e ∙ len-empty nat_cmp C)) in
    ap (λ (rs : List C). list_any (λ d. same d c) rs || (list_any (λ d. same d c) (values proposals) || list_any (λ d. same d c) (values decisions))) r
    ∙ ap₂ (λ a b. a || b) (none proposals p) (none decisions d)
