-- A book goes on at a higher slot, without the decisions before it.
use Rattle.std.specs.Prelude.{ℕ, ◌+◌, ◌-◌, ◌++◌, List, flat_map}
use Rattle.std.specs.FinMap.{get, remove}
use Rattle.std.specs.List.{range_with_len}
use Rattle.std.specs.Option.{option_to_list}
use Rattle.ballot.specs.Rests.{kept_from}
use Rattle.slot_log.specs.Books.{SlotBook}
use Rattle.slot_log.specs.Rests.{rest_of_book}

-- slot_out grows by one with nothing performed; its proposal is taken out, and goes last in the requests
abbrev pub skipped : {C : Type 0} → SlotBook C → SlotBook C
skipped book = record book {
  slot_out = book.slot_out + 1;
  requests = book.requests ++ option_to_list (get book.proposals book.slot_out);
  proposals = remove book.proposals book.slot_out;
}

-- what was proposed for the slots from slot_out up to this one, in rising slot
abbrev pub proposed_upto : {C : Type 0} → ℕ → SlotBook C → List C
proposed_upto slot book =
    flat_map (λ s. option_to_list (get book.proposals s)) (range_with_len book.slot_out (slot - book.slot_out))

-- the replica's book, from a higher slot on: what it has proposed for the slots before, it goes on being asked for
abbrev pub book_from : {C : Type 0} → ℕ → SlotBook C → SlotBook C
book_from slot book = record (rest_of_book slot book) {
  slot_out = slot;
  requests = book.requests ++ proposed_upto slot book;
  proposals = kept_from slot book.proposals;
}
