-- The rest of a book from a base on. The base is the first slot that is kept: slots below it are forgotten, and with base
-- 0 nothing is.
use Rattle.std.specs.Prelude.{ℕ, ◌<◌, ◌≤◌, max, not, nat_le, map, filter, Bool, IsSome}
use Rattle.std.specs.List.{list_any}
use Rattle.std.specs.FinMap.{get, entries}
use Rattle.ballot.specs.Rests.{kept_from}
use Rattle.slot_log.specs.Books.{SlotBook}

-- The decisions from the base on. Nothing is proposed below it from then on; proposals stand from slot_out on, so all are
-- kept, and so are the requests.
abbrev pub rest_of_book : {C : Type 0} → ℕ → SlotBook C → SlotBook C
rest_of_book base book = record book { slot_in = max book.slot_in base; decisions = kept_from base book.decisions }

-- the command is decided in a slot below the base
abbrev pub is_forgotten : {C : Type 0} → (C → C → Bool) → ℕ → SlotBook C → C → Bool
is_forgotten same base book c = list_any (λ d. same d c) (map (λ e. e.1) (filter (λ e. not (nat_le base e.0)) (entries book.decisions)))

-- what is true of a book in every world; and all below the base was performed
pub record IsPast {C : Type 0} (base : ℕ) (book : SlotBook C) : Type 0 where
  pub start : 0 < book.slot_in
  pub out : base ≤ book.slot_out
  pub known : (s : ℕ) → 0 < s → s < book.slot_out → IsSome (get book.decisions s)
  pub near : (s : ℕ) → IsSome (get book.proposals s) → book.slot_out ≤ s
