-- What a node may count on of its replica.
use Rattle.std.specs.Prelude.{◌≡◌, ℕ, ◌<◌, IsSome}
use Rattle.std.specs.FinMap.{get}
use Rattle.object.specs.declared.command.Command.{Command}
use Rattle.object.specs.Objects.{Rules}
use Rattle.object.specs.Obeying.{obeyed}
use Rattle.object.specs.OnceOnly.{Filtered}
use Rattle.slot_log.specs.Books.{SlotBook}
use Rattle.slot_log.specs.Histories.{history}

-- each slot before slot_out has a known decision
pub record IsPerformed {C : Type 0} (book : SlotBook C) : Type 0 where
  pub first : 0 < book.slot_out
  pub known : (s : ℕ) → 0 < s → s < book.slot_out → IsSome (get book.decisions s)

-- the object has obeyed the commands before slot_out
pub record ObeysBook {O Op Reply : Type 0} (rules : Rules O Op Reply) (object : Filtered O) (book : SlotBook (Command Op)) : Type 0 where
  pub obeys : object ≡ obeyed rules (history book)
  pub performed : IsPerformed book
