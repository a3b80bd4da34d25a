-- Shelves by name, after one of them has changed.
use Rattle.std.proofs.Common.{◌≡◌, Bool, true, false, cond, Option, Ordering, refl, sym, ap, subst, ◌∙◌}
use Rattle.std.specs.Ordering.{is_eq}
use Rattle.std.specs.Option.{unwrap_or}
use Rattle.std.specs.BTreeMap.{BTreeMap, get, is_at}
use Rattle.job_store.specs.ShelfStates.{ShelfState, bare}
use Rattle.job_store.specs.Racks.{shelf_at, AreOthersKept, ChangesOne}

pub exact_by : {K : Type 0} (cmp : K → K → Ordering) (eq : K → K → Bool) → ((x y : K) → eq x y ≡ is_eq (cmp x y))
    → ((x y : K) → eq x y ≡ true → x ≡ y) → (x y : K) → is_at (cmp x) y ≡ true → x ≡ y
exact_by cmp eq matches exact x y t = exact x y (matches x y ∙ t)

module _ {K : Type 0} (cmp : K → K → Ordering) where
  -- the shelf that has changed
  one-changed : (m n : BTreeMap K ShelfState) (k : K) (o v : Option ShelfState)
      (R : ShelfState → ShelfState → Type 0) → get cmp m k ≡ o → get cmp n k ≡ v
      → R (unwrap_or o bare) (unwrap_or v bare) → R (shelf_at cmp m k) (shelf_at cmp n k)
  one-changed m n k o v R was is r =
      subst (λ x. R x (shelf_at cmp n k)) (ap (λ u. unwrap_or u bare) (sym was)) (subst (R (unwrap_or o bare)) (ap (λ u. unwrap_or u bare) (sym is)) r)

  -- the others
  others-kept : ((x y : K) → is_at (cmp x) y ≡ true → x ≡ y)
      → (m n : BTreeMap K ShelfState) (k : K) (o : Option ShelfState)
      → ((q : K) → get cmp n q ≡ cond (is_at (cmp k) q) o (get cmp m q)) → AreOthersKept cmp k m n
  others-kept exact m n k o is q apart =
      elim (is_at (cmp k) q) as (λ b. is_at (cmp k) q ≡ b → get cmp n q ≡ cond b o (get cmp m q) → shelf_at cmp n q ≡ shelf_at cmp m q) [
        | true ↦ λ t e. absurd (apart (sym (exact k q t)))
        | false ↦ λ t e. ap (λ v. unwrap_or v bare) e
      ] refl (is q)

  module _ (exact : (x y : K) → is_at (cmp x) y ≡ true → x ≡ y) where
    -- one shelf has become another
    pub changes-one : (m n : BTreeMap K ShelfState) (k : K) (o v : Option ShelfState)
        (R : ShelfState → ShelfState → Type 0) → get cmp m k ≡ o → get cmp n k ≡ v
        → ((q : K) → get cmp n q ≡ cond (is_at (cmp k) q) v (get cmp m q))
        → R (unwrap_or o bare) (unwrap_or v bare) → ChangesOne cmp k m n R
    changes-one m n k o v R was is all r = record {
      change = one-changed m n k o v R was is r;
      others = others-kept exact m n k v all;
    }

    -- and one shelf has gone then
    pub takes-one : (l m n : BTreeMap K ShelfState) (k : K) (o v w : Option ShelfState)
        (R : ShelfState → ShelfState → Type 0) → get cmp l k ≡ o → get cmp n k ≡ w
        → ((q : K) → get cmp m q ≡ cond (is_at (cmp k) q) v (get cmp l q))
        → ((q : K) → get cmp n q ≡ cond (is_at (cmp k) q) w (get cmp m q))
        → R (unwrap_or o bare) (unwrap_or w bare) → ChangesOne cmp k l n R
    takes-one l m n k o v w R was is first then r = record {
      change = one-changed l n k o w R was is r;
      others = λ q apart. others-kept exact m n k w then q apart ∙ others-kept exact l m k v first q apart;
    }
