-- What is found in a map by key when one session's map by number changes.
use Rattle.std.proofs.Common.{◌≡◌, ℕ, ◌==◌, true, false, cond, ◌&&◌, if◌then◌else◌, List, Option, Some, IsSome, Result}
use Rattle.std.proofs.Common.{Ok, Err, OnErr, BTreeMap, sym, ap, subst, refl, ◌∙◌}
use Rattle.std.specs.BTreeMap.{is_at, get_by, WritesThrough}
use Rattle.std.specs.Map.{lookup}
use Rattle.std.specs.Option.{option_and_then}
use Rattle.std.specs.Ordering.{nat_cmp}
use Rattle.std.specs.Cmp.{unsigned_tied}
use Rattle.std.proofs.lemmas.Map.Lookups.{exact_unsigned}
use Rattle.object.specs.declared.command.Key.{Key}
use Rattle.object.specs.Keys.{same_key}
use Rattle.object.specs.KeyLaws.{when_equal}
use Rattle.object.specs.KeyMaps.{at_key}
use Rattle.object.specs.NumberMaps.{value_of}

module _ {V : Type 0} (old new : List (ℕ × List (ℕ × V))) (key : Key) (before after : List (ℕ × V)) (value : Option V)
    (had : (n : ℕ) → value_of before n ≡ option_and_then (λ numbers. value_of numbers n) (lookup (is_at (nat_cmp key.session)) old))
    (updates : (s : ℕ) → lookup (is_at (nat_cmp s)) new ≡ cond (is_at (nat_cmp key.session) s) (Some after) (lookup (is_at (nat_cmp s)) old))
    (changes : (n : ℕ) → value_of after n ≡ (if key.number == n then value else value_of before n)) where
  abbrev look : ℕ → Option (List (ℕ × V)) → Option V
  look n o = option_and_then (λ numbers. value_of numbers n) o

  -- the key has this value then, and every other one what it had
  pub changed_at : (q : Key) → at_key new q ≡ (if same_key key q then value else at_key old q)
  changed_at q =
      ap (look q.number) (updates q.session)
      ∙ elim (is_at (nat_cmp key.session) q.session) as (λ b. is_at (nat_cmp key.session) q.session ≡ b →
      look q.number (cond b (Some after) (lookup (is_at (nat_cmp q.session)) old)) ≡ (if same_key key q then value else at_key old q)) [
        | true ↦ λ same.
            let one = exact_unsigned key.session q.session (when_equal (nat_cmp key.session q.session) same) in
            changes q.number
            ∙ ap (λ o. if key.number == q.number then value else o) (had q.number ∙ ap (λ s. look q.number (lookup (is_at (nat_cmp s)) old)) one)
            ∙ ap (λ b. if b && key.number == q.number then value else at_key old q) (sym same ∙ unsigned_tied key.session q.session)
        | false ↦ λ other. ap (λ b. if b && key.number == q.number then value else at_key old q) (sym other ∙ unsigned_tied key.session q.session)
      ] refl

-- the same, where the session's map was written through what the map lent
pub written_at : {V : Type 0} (m n : BTreeMap ℕ (List (ℕ × V))) (key : Key) (before after : List (ℕ × V)) (value : Option V)
    → Some before ≡ get_by (nat_cmp key.session) m
    → WritesThrough nat_cmp (nat_cmp key.session) m after n
    → ((k : ℕ) → value_of after k ≡ (if key.number == k then value else value_of before k))
    → (q : Key) → at_key n.entries q ≡ (if same_key key q then value else at_key m.entries q)
written_at m n key before after value there wrote changes =
    changed_at m.entries n.entries key before after value
    (λ k. ap (option_and_then (λ numbers. value_of numbers k)) there)
    (wrote.3 (subst IsSome there refl)).0
    changes

-- what holds at any rate holds where there is an error
pub on_err : {T E P : Type 0} (r : Result T E) → P → OnErr r P
on_err (Ok t) p = tt
on_err (Err e) p = p
