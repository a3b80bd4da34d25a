-- A replica, by what it knows and by the object that obeys (Paxos Made Moderately Complex, 2.1 and Figure 3).
use Rattle.std.specs.Prelude.{ℕ, ◌-◌, ◌^◌, Bool, not, ◌==◌, nat_le, List, [], ◌∷◌, ◌++◌, length, map, filter, Option, None, Some, if◌then◌else◌}
use Rattle.std.specs.List.{range_with_len}
use Rattle.std.specs.FinMap.{entries}
use Rattle.ballot.specs.declared.letter.LetterBody.{LetterBody}
use Rattle.ballot.specs.declared.letter.LetterBody.TheVariants.{Propose, Decision, Ask}
use Rattle.ballot.specs.declared.letter.Letter.{Letter}
use Rattle.ballot.specs.Letters.{letter, all_to_all}
use Rattle.ballot.specs.Members.{numbers}
use Rattle.object.specs.declared.command.Answer.{Answer}
use Rattle.object.specs.declared.command.Command.{Command}
use Rattle.object.specs.OnceOnly.{Filtered, filtered, filtered_answers}
use Rattle.slot_log.specs.Books.{SlotBook}
use Rattle.slot_log.specs.Decisions.{decided_from, next_decided}
use Rattle.slot_log.specs.Advances.{advanced}

-- the slots, and the object behind the filter
pub record Replicating (Op O : Type 0) : Type 0 where
  pub slots : SlotBook (Command Op)
  pub object : Filtered O

-- Perform: the decision at slot_out, where it is known, goes to the object. The first arguments are the test that
-- tells commands apart and the object's `after`.
abbrev pub performed_as : {Op O : Type 0} → (Command Op → Command Op → Bool) → (O → Command Op → O) → Replicating Op O → Option (Command Op) → Replicating Op O
performed_as same after r None = r
performed_as same after r (Some c) = record { slots = advanced same r.slots; object = filtered after r.object c }

abbrev pub performed : {Op O : Type 0} → (Command Op → Command Op → Bool) → (O → Command Op → O) → Replicating Op O → Replicating Op O
performed same after r = performed_as same after r (next_decided r.slots)

-- and its answers come; the first argument is the object's `answers`
abbrev pub answers_as : {Op O Reply : Type 0} → (O → Command Op → List (Answer Reply)) → Replicating Op O → Option (Command Op) → List (Answer Reply)
answers_as answers r None = []
answers_as answers r (Some c) = filtered_answers answers r.object c

abbrev pub performed_answers : {Op O Reply : Type 0} → (O → Command Op → List (Answer Reply)) → Replicating Op O → List (Answer Reply)
performed_answers answers r = answers_as answers r (next_decided r.slots)

-- the members but the last, in rising number
abbrev pub but_last : List ℕ → List ℕ
but_last weights = range_with_len 1 (length weights - 1)

-- Propose: the first request is proposed in the least open slot
abbrev pub proposes_first : {C : Type 0} → Option (ℕ × C) → List (LetterBody C)
proposes_first None = []
proposes_first (Some p) = Propose p.0 p.1 ∷ []

-- Ask: the decisions that answer it
abbrev pub tells : {C : Type 0} → SlotBook C → ℕ → List (LetterBody C)
tells book s = map (λ e. Decision e.0 e.1) (decided_from book s)

-- Nudge: each proposal once more to all, and to the others the question what is decided from slot_out on
abbrev pub proposes_again : {C : Type 0} → SlotBook C → List (LetterBody C)
proposes_again book = map (λ e. Propose e.0 e.1) (entries book.proposals)

abbrev pub asks_others : {C : Type 0} → List ℕ → ℕ → ℕ → List (Letter C)
asks_others weights n s =
    if nat_le s (2 ^ 62) then map (letter n (Ask s)) (filter (λ m. not (m == n)) (numbers weights)) else []

abbrev pub nudges : {C : Type 0} → List ℕ → ℕ → SlotBook C → List (Letter C)
nudges weights n book = all_to_all weights n (proposes_again book) ++ asks_others weights n book.slot_out
