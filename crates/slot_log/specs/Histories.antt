-- What is known to be decided before slot_out.
use Rattle.std.specs.Prelude.{ℕ, ◌-◌, List, flat_map}
use Rattle.std.specs.List.{range_with_len}
use Rattle.std.specs.Option.{option_to_list}
use Rattle.std.specs.FinMap.{get}
use Rattle.ballot.specs.Slots.{Slots}
use Rattle.slot_log.specs.Books.{SlotBook}

-- the commands that are known to be decided in the slots from 1 on, so many
abbrev pub commands_upto : {C : Type 0} → ℕ → Slots C → List C
commands_upto n decisions = flat_map (λ s. option_to_list (get decisions s)) (range_with_len 1 n)

-- those of the slots before slot_out
abbrev pub history : {C : Type 0} → SlotBook C → List C
history book = commands_upto (book.slot_out - 1) book.decisions
