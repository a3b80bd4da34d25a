-- The last second of commands with more behind them.
use Rattle.std.proofs.Common.{◌≡◌, ◌==◌, ℕ, max, List, [], ◌∷◌, ◌++◌, map, ap, ◌∙◌, arith}
use Rattle.std.specs.List.{fold, filter}
use Rattle.std.proofs.lemmas.List.{map-append}
use Rattle.std.proofs.lemmas.List.Elements.{filter-append}
use Rattle.std.proofs.lemmas.List.Sums.{fold-append}
use Rattle.object.specs.declared.command.Command.{Command}
use Rattle.recovery.specs.Clocks.{seconds_in, last_second_in}

-- the greatest number is where it began, or that of the others
greatest : (xs : List ℕ) (a : ℕ) → fold max a xs ≡ max a (fold max 0 xs)
greatest [] a = omega arith
greatest (x ∷ xs) a = omega (arith, greatest xs (max a x), greatest xs (max 0 x))

-- of two lists the greater one
pub last_second-append : {Op : Type 0} (before cs : List (Command Op)) → last_second_in (before ++ cs) ≡ max (last_second_in before) (last_second_in cs)
last_second-append {Op} before cs =
    let clock = λ (c : Command Op). c.key.session == 0 in
    let number = λ (c : Command Op). c.key.number in
    ap (λ ds. fold max 0 (map number ds)) (filter-append clock before cs)
    ∙ ap (fold max 0) (map-append number (filter clock before) (filter clock cs))
    ∙ fold-append max 0 (seconds_in before) (seconds_in cs)
    ∙ greatest (seconds_in cs) (last_second_in before)
