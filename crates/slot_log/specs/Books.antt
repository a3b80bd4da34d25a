-- What a replica was asked, what it proposed, and what it knows to be decided (Paxos Made Moderately Complex, 2.1
-- and Figure 3).
use Rattle.std.specs.Prelude.{ℕ, List, []}
use Rattle.std.specs.FinMap.{empty}
pub use Rattle.ballot.specs.Slots.{Slots, slots_code}

-- slot_in is where proposals go on, and slot_out where decisions are performed next
pub record SlotBook (C : Type 0) : Type 0 where
  pub slot_in : ℕ
  pub slot_out : ℕ
  pub requests : List C
  pub proposals : Slots C
  pub decisions : Slots C

abbrev pub new_book : {C : Type 0} → SlotBook C
new_book = record { slot_in = 1; slot_out = 1; requests = []; proposals = empty; decisions = empty }

-- how many slots from slot_out on may have a proposal, and how many decisions are told at once
abbrev pub window : ℕ
window = 64
