-- What is known to be decided, slot by slot.
use Rattle.std.proofs.Common.{◌≡◌, ℕ, suc, zero, ◌+◌, List, ◌++◌, sym, ap, ◌∙◌, arith, append_assoc}
use Rattle.std.proofs.lemmas.List.{append-nil}
use Rattle.std.specs.List.{range_with_len, flat_map}
use Rattle.std.specs.Option.{option_to_list}
use Rattle.std.specs.FinMap.{get}
use Rattle.ballot.specs.Slots.{Slots}
use Rattle.slot_log.specs.Histories.{commands_upto}

-- one number more
flat_more : {A : Type 0} (f : ℕ → List A) (base n : ℕ) → flat_map f (range_with_len base (n + 1)) ≡ flat_map f (range_with_len base n) ++ f (base + n)
flat_more f base zero = append-nil (f base) ∙ ap f (omega arith)
flat_more f base (suc n) =
    let last : base + 1 + n ≡ base + suc n = omega arith in
    let more : suc n + 1 ≡ suc (n + 1) = omega arith in
    ap (λ m. flat_map f (range_with_len base m)) more ∙
    ap (λ l. f base ++ l) (flat_more f (base + 1) n) ∙
    sym (append_assoc (f base) (flat_map f (range_with_len (base + 1) n)) (f (base + 1 + n))) ∙
    ap (λ j. (f base ++ flat_map f (range_with_len (base + 1) n)) ++ f j) last

-- the command of one slot more, if it is known, comes last
pub commands_more : {C : Type 0} (n : ℕ) (decisions : Slots C)
    → commands_upto (n + 1) decisions ≡ commands_upto n decisions ++ option_to_list (get decisions (n + 1))
commands_more n decisions =
    let same : 1 + n ≡ n + 1 = omega arith in
    flat_more (λ s. option_to_list (get decisions s)) 1 n ∙
    ap (λ j. commands_upto n decisions ++ option_to_list (get decisions j)) same
