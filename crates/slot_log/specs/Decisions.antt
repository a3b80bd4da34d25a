-- What is known to be decided.
use Rattle.std.specs.Prelude.{ℕ, ◌+◌, ◌≢◌, not, ◌&&◌, nat_le, nat_lt, List, [], ◌∷◌, Option, None, Some, IsSomeAnd, find, filter}
use Rattle.std.specs.FinMap.{get, contains_key, insert, keys, entries}
use Rattle.slot_log.specs.Books.{SlotBook, window}

-- the command is decided in the slot
abbrev pub learnt : {C : Type 0} → SlotBook C → ℕ → C → SlotBook C
learnt book s c = record book { decisions = insert book.decisions s c }

-- another command is known to be decided in the slot
abbrev pub IsClash : {C : Type 0} → SlotBook C → ℕ → C → Type 0
IsClash book s c = IsSomeAnd (get book.decisions s) (λ d. d ≢ c)

-- the known decisions of a window from the slot on, in rising slot
abbrev pub decided_from : {C : Type 0} → SlotBook C → ℕ → List (ℕ × C)
decided_from book s = filter (λ e. nat_le s e.0 && nat_lt e.0 (s + window)) (entries book.decisions)

-- a slot with its value, if it has one
abbrev pub entry_of : {C : Type 0} → ℕ → Option C → List (ℕ × C)
entry_of s None = []
entry_of s (Some c) = (s, c) ∷ []

-- the least slot with a proposal and without a known decision
abbrev pub undecided : {C : Type 0} → SlotBook C → Option ℕ
undecided book = find (λ s. not (contains_key book.decisions s)) (keys book.proposals)

-- what is performed next
abbrev pub next_decided : {C : Type 0} → SlotBook C → Option C
next_decided book = get book.decisions book.slot_out
