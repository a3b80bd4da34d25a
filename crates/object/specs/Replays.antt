-- Lists of commands: which of them are kept, and what an object answers to them.
use Rattle.std.specs.Prelude.{ℕ, suc, Bool, not, ◌||◌, List, [], ◌∷◌, ◌++◌, map, ◌==◌, nat_lt, if◌then◌else◌}
use Rattle.std.specs.List.{list_all}
use Rattle.object.specs.declared.command.Answer.{Answer}
use Rattle.object.specs.declared.command.Command.{Command}

-- an answer, and the place of the command that brought it; places count from 0
pub record Placed (Reply : Type 0) : Type 0 where
  pub place : ℕ
  pub answer : Answer Reply

-- An object's answers to commands that are obeyed in this order. The arguments are the object's `after` and
-- `answers`, the state before the first command, and its place.
abbrev pub replay_from : {S Op Reply : Type 0} → (S → Command Op → S) → (S → Command Op → List (Answer Reply)) → S → ℕ → List (Command Op) → List (Placed Reply)
replay_from after answers s place [] = []
replay_from after answers s place (c ∷ cs) =
    map (λ a. record { place = place; answer = a }) (answers s c) ++ replay_from after answers (after s c) (suc place) cs

-- the answers of an object that is `fresh` at first
abbrev pub replay : {S Op Reply : Type 0} → S → (S → Command Op → S) → (S → Command Op → List (Answer Reply)) → List (Command Op) → List (Placed Reply)
replay fresh after answers cs = replay_from after answers fresh 0 cs

-- the number is greater than each earlier one of the same session
abbrev pub is_new : {Op : Type 0} → Command Op → List (Command Op) → Bool
is_new c earlier = list_all (λ d. not (d.key.session == c.key.session) || nat_lt d.key.number c.key.number) earlier

abbrev pub kept_after : {Op : Type 0} → List (Command Op) → List (Command Op) → List (Command Op)
kept_after earlier [] = []
kept_after earlier (c ∷ cs) =
    if is_new c earlier then c ∷ kept_after (c ∷ earlier) cs else kept_after (c ∷ earlier) cs

-- the commands whose number is greater than every earlier one of their session
abbrev pub kept : {Op : Type 0} → List (Command Op) → List (Command Op)
kept cs = kept_after [] cs
