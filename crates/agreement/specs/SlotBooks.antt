-- What the book of each replica is in every world.
use Rattle.std.specs.Prelude.{◌≡◌, ◌⊎◌, ℕ, ◌+◌, ◌<◌, ◌≤◌, length, None, Some, IsSome}
use Rattle.std.specs.FinMap.{get, len}
use Rattle.slot_log.specs.Books.{SlotBook}
use Rattle.slot_log.specs.Proposals.{IsInWindow}
use Rattle.node.specs.Kept.{IsPerformed}

-- how many commands a replica has that were not performed: its requests, and those that it proposed
abbrev pub pending : {C : Type 0} → SlotBook C → ℕ
pending book = length book.requests + len book.proposals

-- A book after so many events. Proposals stand in the window of slot_out and before slot_in, and each slot between the
-- two has a known decision or a proposal. Each event brings one pending command at most.
pub record IsBookAfter {C : Type 0} (count : ℕ) (book : SlotBook C) : Type 0 where
  pub performed : IsPerformed book
  pub first : 0 < book.slot_in
  pub near : (s : ℕ) (c : C) → get book.proposals s ≡ Some c → IsInWindow book.slot_out s
  pub ahead : (s : ℕ) → book.slot_in ≤ s → get book.proposals s ≡ None
  pub filled : (s : ℕ) → book.slot_out ≤ s → s < book.slot_in → IsSome (get book.decisions s) ⊎ IsSome (get book.proposals s)
  pub few : pending book ≤ count
