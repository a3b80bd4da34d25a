-- Maps from numbers, and the entries that they are made of.
use Rattle.std.proofs.lemmas.Map.Views.{tells_apart}
use Rattle.std.proofs.Common.{◌≡◌, ℕ, Bool, true, false, cond, List, [], ◌∷◌, Option, Some, None, refl, sym, ap, ◌∙◌, nat_cmp}
use Rattle.std.specs.Map.{lookup}
use Rattle.std.specs.BTreeMap.{is_at}
use Rattle.std.specs.Cmp.{eq_by_cmp_equiv}
use Rattle.std.specs.Ordering.{eq_by_cmp}
use Rattle.std.proofs.lemmas.Cmp.{nat_cmp_total}
use Rattle.std.proofs.lemmas.Map.Lookups.{exact_unsigned}
use Rattle.std.specs.FinMap.{FinMap, get, insert, remove, find, from_entries, get-from_entries, get-insert, get-remove, same_map}

module _ {X : Type 0} where
  find_at : (es : List (ℕ × X)) (q : ℕ) → find nat_cmp q es ≡ lookup (is_at (nat_cmp q)) es
  find_at [] q = refl
  find_at (e ∷ es) q = ap (cond (is_at (nat_cmp q) e.0) (Some e.1)) (find_at es q)

  -- what the map of the entries has at a number
  pub get_at : (es : List (ℕ × X)) (q : ℕ) → get (from_entries {R = nat_cmp} es) q ≡ lookup (is_at (nat_cmp q)) es
  get_at es q = get-from_entries nat_cmp_total es q ∙ find_at es q

  -- entries that have another value at one number make maps that do
  pub put_at : (es fs : List (ℕ × X)) (k : ℕ) (v : X)
      → ((q : ℕ) → lookup (is_at (nat_cmp q)) fs ≡ cond (is_at (nat_cmp k) q) (Some v) (lookup (is_at (nat_cmp q)) es))
      → from_entries {R = nat_cmp} fs ≡ insert (from_entries es) k v
  put_at es fs k v h = same_map nat_cmp_total exact_unsigned _ _ (λ q.
      get_at fs q ∙ h q ∙ ap (λ b. cond b (Some v) (lookup (is_at (nat_cmp q)) es)) ((eq_by_cmp_equiv nat_cmp_total).symm k q) ∙
      sym (get-insert nat_cmp_total (from_entries es) k v q ∙ ap (cond (is_at (nat_cmp q) k) (Some v)) (get_at es q)))

  -- and entries without one make maps without it
  pub taken_at : (es fs : List (ℕ × X)) (k : ℕ)
      → ((q : ℕ) → lookup (is_at (nat_cmp q)) fs ≡ cond (is_at (nat_cmp k) q) None (lookup (is_at (nat_cmp q)) es))
      → from_entries {R = nat_cmp} fs ≡ remove (from_entries es) k
  taken_at es fs k h = same_map nat_cmp_total exact_unsigned _ _ (λ q.
      get_at fs q ∙ h q ∙ ap (λ b. cond b None (lookup (is_at (nat_cmp q)) es)) ((eq_by_cmp_equiv nat_cmp_total).symm k q) ∙
      sym (get-remove nat_cmp_total (from_entries es) k q ∙ ap (cond (is_at (nat_cmp q) k) None) (get_at es q)))

  absent_again : (b : Bool) (absent now : Option X) (v : X) → (b ≡ true → now ≡ absent) → cond b absent (cond b (Some v) now) ≡ now
  absent_again true absent now v h = sym (h refl)
  absent_again false absent now v h = refl

  -- what was put where nothing was is taken away again
  pub remove-insert : (m : FinMap nat_cmp X) (k : ℕ) (v : X) → get m k ≡ None → remove (insert m k v) k ≡ m
  remove-insert m k v absent = same_map nat_cmp_total exact_unsigned _ _ (λ q.
      get-remove nat_cmp_total (insert m k v) k q ∙ ap (cond (eq_by_cmp nat_cmp q k) None) (get-insert nat_cmp_total m k v q) ∙
      absent_again (eq_by_cmp nat_cmp q k) None (get m q) v (λ same. ap (get m) (exact q k same) ∙ absent))
    where
      exact : (q k : ℕ) → eq_by_cmp nat_cmp q k ≡ true → q ≡ k
      exact q k same = tells_apart exact_unsigned q k same
