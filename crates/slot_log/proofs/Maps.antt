-- What a change of a map by slot leaves.
use Rattle.std.proofs.Common.{◌≡◌, ◌⊎◌, inl, inr, ⊎_elim, ℕ, ◌+◌, true, false, cond, Option, None, Some, refl, sym, ap, subst, ◌∙◌}
use Rattle.std.specs.Option.{is_some}
use Rattle.std.specs.Ordering.{nat_cmp, eq_by_cmp}
use Rattle.std.specs.Cmp.{nat_cmp_total, eq_by_cmp_equiv}
use Rattle.std.specs.FinMap.{get, insert, remove, len, get-insert, get-remove, len-insert, same_map, nat_cmp-IsAntisymmetric}
use Rattle.ballot.specs.Slots.{Slots}
use Rattle.ballot.proofs.SlotMaps.{same_key, insert_cases}

pub key_itself : (k : ℕ) → eq_by_cmp nat_cmp k k ≡ true
key_itself k = (eq_by_cmp_equiv nat_cmp_total).refl k

module _ {X : Type 0} (m : Slots X) where
  -- at the key of what was taken out, and at the others
  pub remove_cases : (k q : ℕ) → ((q ≡ k) × (get (remove m k) q ≡ None)) ⊎ (get (remove m k) q ≡ get m q)
  remove_cases k q = elim (eq_by_cmp nat_cmp q k) as (λ b. eq_by_cmp nat_cmp q k ≡ b
      → ((q ≡ k) × (get (remove m k) q ≡ None)) ⊎ (get (remove m k) q ≡ get m q)) [
        | true ↦ λ t. inl (same_key k q t, get-remove nat_cmp_total m k q ∙ ap (λ b. cond b None (get m q)) t)
        | false ↦ λ f. inr (get-remove nat_cmp_total m k q ∙ ap (λ b. cond b None (get m q)) f)
      ] refl

  pub none_removed : (k : ℕ) → get (remove m k) k ≡ None
  none_removed k = get-remove nat_cmp_total m k k ∙ ap (λ b. cond b None (get m k)) (key_itself k)

  pub some_inserted : (k : ℕ) (v : X) → get (insert m k v) k ≡ Some v
  some_inserted k v = get-insert nat_cmp_total m k v k ∙ ap (λ b. cond b (Some v) (get m k)) (key_itself k)

  -- to take out what is there and to put it again changes nothing
  pub insert-remove : (k : ℕ) (x : X) → get m k ≡ Some x → insert (remove m k) k x ≡ m
  insert-remove k x there =
      same_map nat_cmp_total nat_cmp-IsAntisymmetric (insert (remove m k) k x) m
      (λ q. get-insert nat_cmp_total (remove m k) k x q ∙ ap (cond (eq_by_cmp nat_cmp q k) (Some x)) (get-remove nat_cmp_total m k q)
      ∙ elim (eq_by_cmp nat_cmp q k) as (λ b. eq_by_cmp nat_cmp q k ≡ b → cond b (Some x) (cond b None (get m q)) ≡ get m q) [
        | true ↦ λ t. sym there ∙ ap (get m) (sym (same_key k q t))
        | false ↦ λ f. refl
      ] refl)

  pub len_inserted : (k : ℕ) (v : X) → get m k ≡ None → len (insert m k v) ≡ len m + 1
  len_inserted k v new = len-insert nat_cmp_total m k v ∙ ap (λ o. cond (is_some o) (len m) (len m + 1)) new

  -- what is true of a new place and of each old one
  pub within_inserted : (P : ℕ → Type 0) (k : ℕ) (v : X) → P k → ((q : ℕ) → is_some (get m q) ≡ true → P q) → (q : ℕ)
      → is_some (get (insert m k v) q) ≡ true → P q
  within_inserted P k v here there q some =
      ⊎_elim (λ (h : (q ≡ k) × (get (insert m k v) q ≡ Some v)). subst P (sym h.0) here)
      (λ (h : get (insert m k v) q ≡ get m q). there q (ap is_some (sym h) ∙ some)) (insert_cases m k v q)

  -- an old value stays, or is replaced
  pub stays_inserted : (k : ℕ) (v : X) (q : ℕ) → is_some (get m q) ≡ true → is_some (get (insert m k v) q) ≡ true
  stays_inserted k v q some =
      ⊎_elim (λ (h : (q ≡ k) × (get (insert m k v) q ≡ Some v)). ap is_some h.1)
      (λ (h : get (insert m k v) q ≡ get m q). ap is_some h ∙ some) (insert_cases m k v q)

  -- elsewhere
  pub others_inserted : (k : ℕ) (v : X) (q : ℕ) → (q ≡ k → ⊥) → get (insert m k v) q ≡ get m q
  others_inserted k v q other =
      ⊎_elim (λ (h : (q ≡ k) × (get (insert m k v) q ≡ Some v)). absurd (other h.0))
      (λ (h : get (insert m k v) q ≡ get m q). h) (insert_cases m k v q)

-- to take out what isn't there changes nothing
pub remove_none : {X : Type 0} (m : Slots X) (k : ℕ) → get m k ≡ None → remove m k ≡ m
remove_none m k none =
    same_map nat_cmp_total nat_cmp-IsAntisymmetric (remove m k) m
    (λ q. ⊎_elim (λ (h : (q ≡ k) × (get (remove m k) q ≡ None)). h.1 ∙ sym (ap (get m) h.0 ∙ none))
    (λ (h : get (remove m k) q ≡ get m q). h) (remove_cases m k q))

pub len_removed : {X : Type 0} (m : Slots X) (k : ℕ) (x : X) → get m k ≡ Some x → len m ≡ len (remove m k) + 1
len_removed m k x there = ap len (sym (insert-remove m k x there)) ∙ len_inserted (remove m k) k x (none_removed m k)

pub none_from : {X : Type 0} (o : Option X) → (is_some o ≡ true → ⊥) → o ≡ None
none_from None h = refl
none_from (Some x) h = absurd (h refl)
