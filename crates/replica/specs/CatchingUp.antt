-- A replica takes over an object that has obeyed what was decided before a slot.
use Rattle.std.specs.Prelude.{◌||◌, ℕ, Bool, nat_le}
use Rattle.std.specs.FinMap.{entries}
use Rattle.std.specs.List.{list_all}
use Rattle.object.specs.OnceOnly.{Filtered, is_later}
use Rattle.object.specs.declared.command.Command.{Command}
use Rattle.slot_log.specs.Books.{SlotBook}

-- the proposal is for this slot or a later one, or the object has not obeyed it
abbrev pub is_in_vain : {Op O : Type 0} → ℕ → Filtered O → ℕ × Command Op → Bool
is_in_vain slot object proposal = nat_le slot proposal.0 || is_later proposal.1.key object.latest

-- the object has obeyed nothing of what the replica has proposed for slots before this one
abbrev pub has_proposed_in_vain : {Op O : Type 0} → ℕ → Filtered O → SlotBook (Command Op) → Bool
has_proposed_in_vain slot object book = list_all (is_in_vain slot object) (entries book.proposals)
