-- How a log keeps its book.
use Rattle.std.specs.Prelude.{◌≡◌, ℕ, ◌+◌, ◌^◌, ◌<◌, ◌≤◌, Bool, true, Option, None, IsSome}
use Rattle.std.specs.List.{list_any}
use Rattle.object.specs.KeyMaps.{at_key}
use Rattle.std.specs.FinMap.{get, len}
use Rattle.std.specs.VecDeque.{deque_len, deque_capacity}
use Rattle.object.specs.declared.command.Key.{Key}
use Rattle.slot_log.specs.Books.{SlotBook}
use Rattle.slot_log.specs.Requests.{is_known}
use Rattle.slot_log.specs.Proposals.{IsInWindow}
use Rattle.slot_log.specs.Places.{stands_at, is_found}
use Rattle.slot_log.specs.declared.places.Place.{Place}
use Rattle.slot_log.specs.declared.slot_log.SlotLog.TheInside.{Inside}

-- the book that is kept
abbrev pub book_of : {C : Type 0} → Inside C → SlotBook C
book_of a = record {
  slot_in = a.slot_in;
  slot_out = a.slot_out;
  requests = a.requests.items;
  proposals = a.proposals;
  decisions = a.decisions;
}

-- what stands at a place
abbrev pub standing : {C : Type 0} → Inside C → Place → Option C
standing a = stands_at a.requests.items a.front_rank a.proposals a.decisions

-- a slot, or the number behind the last one
abbrev pub IsNext : ℕ → Type 0
IsNext s = (0 < s) × (s ≤ 2 ^ 62 + 1)

-- What is true of the fields. Each request that was proposed had a slot of its own. A known decision is of a slot, and
-- each slot from slot_in on and before slot_out has one; those before both may be forgotten. Proposals are of slots, and
-- stand in the window, before slot_in. The requests have room for the proposals, which may come back to them. The known
-- commands are found by the places.
pub record KeepsBook {C : Type 0} (same : C → C → Bool) (key_of : C → Key) (a : Inside C) : Type 0 where
  pub slot_in : IsNext a.slot_in
  pub slot_out : IsNext a.slot_out
  pub front_rank : a.front_rank < a.slot_in
  pub within : (s : ℕ) → IsSome (get a.decisions s) → s ≤ 2 ^ 62
  pub performed : (s : ℕ) → a.slot_in ≤ s → s < a.slot_out → IsSome (get a.decisions s)
  pub numbered : (s : ℕ) → IsSome (get a.proposals s) → s ≤ 2 ^ 62
  pub near : (s : ℕ) → IsSome (get a.proposals s) → IsInWindow a.slot_out s
  pub ahead : (s : ℕ) → a.slot_in ≤ s → get a.proposals s ≡ None
  pub room : deque_len a.requests + len a.proposals ≤ deque_capacity a.requests
  pub others : (c : C) → list_any (λ d. same d c) a.places.others.items ≡ true → is_known same (book_of a) c ≡ true
  pub found : (c : C) → is_known same (book_of a) c ≡ true
      → is_found same key_of (at_key a.places.by_key) (standing a) a.places.others.items c ≡ true
