-- What is kept in a log at a start.
use Rattle.std.proofs.Common.{◌≡◌, ◌<◌, ◌≤◌, ◌+◌, ◌-◌, ◌^◌, ◌++◌, min, ℕ, suc, List, [], ◌∷◌, length, Option, None, Some, refl, sym, ap, subst, ◌∙◌, le_refl, append-nil, length-append, arith}
use Rattle.std.proofs.Math.Nat.{min-eq_left}
use Rattle.std.specs.List.{cons_option, filter_map}
use Rattle.object.specs.declared.command.Command.{Command}
use Rattle.bean_words.specs.declared.op.Op.{Op}
use Rattle.log_file.specs.Logs.{HoldsLog}
use Rattle.log_file.specs.States.{LogState}
use Rattle.journal.specs.Waiting.{HoldsAll, JournalState}

-- as many are kept as there are, which are fewer than 2^64
pub all_kept : {X : Type 0} (xs ys : List X) (n count : ℕ) → n ≡ length xs → count ≡ length (xs ++ ys) → count < 2 ^ 64
    → min (n + length ys) (2 ^ 64 - 1) ≡ length (xs ++ ys)
all_kept xs ys n count first all few =
    let both : length (xs ++ ys) ≡ length xs + length ys = length-append xs ys in
    min-eq_left (omega (arith, first, all, few, both)) ∙ ap (λ k. k + length ys) first ∙ sym both

-- a journal that begins holds what its log does
pub begun_holds : {W : Type 0} (contents : W → Option (List ℕ)) (j : JournalState W) (log : LogState W) (n : ℕ) (members : List ℕ)
    (commands : List (Command Op)) → j ≡ record { log = log; waiting = []; due = n; written = n; synced = n } → n ≡ length commands
    → HoldsLog (contents log.writer) log.batch log.chain members commands → HoldsAll contents j members commands
begun_holds contents j log n members commands is all holds = subst (λ q. HoldsAll contents q members commands) (sym is) (record {
  noted = commands;
  log = holds;
  rest = append-nil commands;
  counted = omega (arith, all);
})

-- what is given of some items is no more than they are
pub no_more_given : {X Y : Type 0} (f : X → Option Y) (xs : List X) → length (filter_map f xs) ≤ length xs
no_more_given f [] = le_refl 0
no_more_given f (x ∷ xs) =
    let rest = no_more_given f xs in
    elim (f x) as (λ o. length (cons_option o (filter_map f xs)) ≤ suc (length xs)) [ None ↦ omega (arith, rest) | Some y ↦ omega (arith, rest) ]
