-- A request is proposed in a slot (Paxos Made Moderately Complex, Figure 3, "propose").
use Rattle.std.specs.Prelude.{◌≡◌, ℕ, ◌+◌, ◌-◌, ◌^◌, ◌<◌, ◌≤◌, min, not, List, [], ◌∷◌, Option, None, Some, IsSome, find, drop}
use Rattle.std.specs.List.{range_with_len}
use Rattle.std.specs.FinMap.{get, contains_key, insert}
use Rattle.slot_log.specs.Books.{SlotBook, window}

-- the slots from slot_in on that the window has, of those up to 2^62
abbrev pub in_window : {C : Type 0} → SlotBook C → List ℕ
in_window book = range_with_len book.slot_in (min (book.slot_out + window) (2 ^ 62 + 1) - book.slot_in)

-- the least of them without a known decision
unfoldable pub open_slot : {C : Type 0} → SlotBook C → Option ℕ
open_slot book = find (λ s. not (contains_key book.decisions s)) (in_window book)

-- the first request, for the slot
abbrev pub first_for : {C : Type 0} → List C → Option ℕ → Option (ℕ × C)
first_for [] slot = None
first_for (c ∷ more) None = None
first_for (c ∷ more) (Some s) = Some (s, c)

-- what is proposed next
abbrev pub next_proposal : {C : Type 0} → SlotBook C → Option (ℕ × C)
next_proposal book = first_for book.requests (open_slot book)

-- the first request was proposed so
abbrev pub proposed : {C : Type 0} → SlotBook C → Option (ℕ × C) → SlotBook C
proposed book None = book
proposed book (Some p) = record book { slot_in = p.0 + 1; requests = drop 1 book.requests; proposals = insert book.proposals p.0 p.1 }

abbrev pub proposed_next : {C : Type 0} → SlotBook C → SlotBook C
proposed_next book = proposed book (next_proposal book)

-- what an open slot is
pub record IsLeastOpen {C : Type 0} (book : SlotBook C) (s : ℕ) : Type 0 where
  pub next : book.slot_in ≤ s
  pub unknown : get book.decisions s ≡ None
  pub least : (t : ℕ) → book.slot_in ≤ t → t < s → IsSome (get book.decisions t)
  pub within : s < book.slot_out + window
  pub numbered : s ≤ 2 ^ 62

-- a slot of the window that begins at slot_out
pub record IsInWindow (slot_out s : ℕ) : Type 0 where
  pub low : slot_out ≤ s
  pub high : s < slot_out + window
