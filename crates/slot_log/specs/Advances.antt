-- The decision at slot_out is performed (Paxos Made Moderately Complex, Figure 3, "perform").
use Rattle.std.specs.Prelude.{◌+◌, Bool, if◌then◌else◌, List, [], ◌∷◌, ◌++◌, Option, None, Some}
use Rattle.std.specs.FinMap.{get, remove}
use Rattle.slot_log.specs.Books.{SlotBook}
use Rattle.slot_log.specs.Decisions.{next_decided}

-- the proposal, where another command was decided in its slot
abbrev pub lost : {C : Type 0} → (C → C → Bool) → Option C → Option C → List C
lost same None decided = []
lost same (Some p) None = []
lost same (Some p) (Some c) = if same p c then [] else p ∷ []

-- slot_out grows by one; its proposal is taken out, and goes last in the requests where it was lost
abbrev pub advanced : {C : Type 0} → (C → C → Bool) → SlotBook C → SlotBook C
advanced same book = record book {
  slot_out = book.slot_out + 1;
  requests = book.requests ++ lost same (get book.proposals book.slot_out) (next_decided book);
  proposals = remove book.proposals book.slot_out;
}
