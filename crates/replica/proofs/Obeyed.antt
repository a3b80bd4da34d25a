-- An object obeys what is known to be decided, slot by slot.
use Rattle.std.proofs.Common.{◌≡◌, ◌≤◌, ◌+◌, ◌-◌, ℕ, Option, sym, ap, ap₂, ◌∙◌, arith}
use Rattle.std.proofs.lemmas.List.Sums.{fold-append}
use Rattle.std.specs.List.{fold}
use Rattle.std.specs.Option.{option_to_list}
use Rattle.std.specs.FinMap.{empty, get}
use Rattle.object.specs.declared.command.Command.{Command}
use Rattle.object.specs.Objects.{Rules}
use Rattle.object.specs.Obeying.{obeyed}
use Rattle.object.specs.OnceOnly.{Filtered, filtered}
use Rattle.ballot.specs.Slots.{Slots}
use Rattle.slot_log.specs.Histories.{commands_upto}
use Rattle.slot_log.proofs.Histories.{commands_more}

-- the command of slot n, if it is known, comes after those of the slots before it
pub obeyed_more : {O Op Reply : Type 0} (rules : Rules O Op Reply) (decisions : Slots (Command Op)) (n : ℕ) (old new : Filtered O) (o : Option (Command Op)) →
    1 ≤ n → old ≡ obeyed rules (commands_upto (n - 1) decisions) → o ≡ get decisions n
    → new ≡ fold (filtered rules.after) old (option_to_list o)
    → new ≡ obeyed rules (commands_upto (n + 1 - 1) decisions)
obeyed_more rules decisions n old new o low before found obeys =
    let back : n ≡ n - 1 + 1 = omega arith in
    let on : n - 1 + 1 ≡ n + 1 - 1 = omega arith in
    obeys ∙ ap₂ (λ s p. fold (filtered rules.after) s (option_to_list p)) before (found ∙ ap (get decisions) back) ∙
    sym (fold-append (filtered rules.after) (record { object = rules.fresh; latest = empty })
    (commands_upto (n - 1) decisions) (option_to_list (get decisions (n - 1 + 1)))) ∙
    ap (obeyed rules) (sym (commands_more (n - 1) decisions)) ∙
    ap (λ m. obeyed rules (commands_upto m decisions)) on
