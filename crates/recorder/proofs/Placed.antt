-- The commands of keys that were submitted.
use Rattle.std.proofs.Common.{◌≡◌, ℕ, zero, suc, true, false, cond, ◌||◌, List, [], ◌∷◌, map, drop, Some, option_map, inl, inr, refl, ap, ap₂, ◌∙◌}
use Rattle.std.proofs.lemmas.Bool.{false≢true}
use Rattle.std.specs.List.{filter_map, cons_option}
use Rattle.object.specs.Lists.{In}
use Rattle.object.specs.Keys.{same_key, found}
use Rattle.object.specs.KeyLaws.{same_is}
use Rattle.object.specs.Happenings.{is_submitted, submitted_key}
use Rattle.object.specs.declared.command.Command.{Command}
use Rattle.object.specs.declared.command.Key.{Key}
use Rattle.object.specs.declared.command.Submission.{Submission}
use Rattle.recorder.specs.Records.{command_under}

-- what stands behind the first ones stands among all
in_drop : {X : Type 0} (n : ℕ) (x : X) (xs : List X) → In x (drop n xs) → In x xs
in_drop zero x xs i = i
in_drop (suc n) x [] i = i
in_drop (suc n) x (y ∷ ys) i = inr (in_drop n x ys i)

module _ {Op : Type 0} where
  -- a key that was submitted has its command
  its_command : (k : Key) (submitted : List (Submission Op)) → is_submitted k submitted ≡ true
      → (c : Command Op) × (command_under submitted k ≡ Some c) × (c.key ≡ k)
  its_command k [] known = absurd (false≢true known)
  its_command k (s ∷ more) known =
      elim (same_key s.command.key k) as (λ b. same_key s.command.key k ≡ b → (b || is_submitted k more) ≡ true
      → (c : Command Op) × (option_map (λ s. s.command) (cond b (Some s) (found submitted_key k more)) ≡ Some c) × (c.key ≡ k)) [
        | true ↦ λ same known. (s.command, refl, same_is s.command.key k same)
        | false ↦ λ other known. its_command k more known
      ] refl known

  all_commands : (submitted : List (Submission Op)) (keys : List Key) → ((k : Key) → In k keys → is_submitted k submitted ≡ true)
      → map (λ c. c.key) (filter_map (command_under submitted) keys) ≡ keys
  all_commands submitted [] known = refl
  all_commands submitted (k ∷ ks) known =
      let it = its_command k submitted (known k (inl refl)) in
      ap (λ o. map (λ c. c.key) (cons_option o (filter_map (command_under submitted) ks))) it.1
      ∙ ap₂ (λ q qs. q ∷ qs) it.2 (all_commands submitted ks (λ q i. known q (inr i)))

  -- the commands of an order, from a place on, have its keys
  pub keys_placed : (submitted : List (Submission Op)) (order : List Key) (n : ℕ) → ((k : Key) → In k order → is_submitted k submitted ≡ true)
      → map (λ c. c.key) (filter_map (command_under submitted) (drop n order)) ≡ drop n order
  keys_placed submitted order n known = all_commands submitted (drop n order) (λ k i. known k (in_drop n k order i))
