-- The book of a log's fields.
use Rattle.std.proofs.Common.{◌≡◌, Bool, ◌≤◌, ◌<◌, ℕ, ⊎_elim, sym, ◌∙◌, ap}
use Rattle.std.proofs.lemmas.Bool.{cases_lt, false≢true}
use Rattle.std.specs.Option.{is_some}
use Rattle.object.specs.declared.command.Key.{Key}
use Rattle.slot_log.specs.declared.slot_log.SlotLog.TheInside.{Inside}
use Rattle.std.specs.FinMap.{get}
use Rattle.slot_log.specs.Books.{SlotBook}
use Rattle.slot_log.specs.Proposals.{IsLeastOpen, IsInWindow}
use Rattle.slot_log.specs.Kept.{book_of, KeepsBook}

-- a decision of the book
pub decision_at : {C : Type 0} (a : Inside C) (b : SlotBook C) → book_of a ≡ b → (s : ℕ) → get b.decisions s ≡ get a.decisions s
decision_at a b seen s = ap (λ (b : SlotBook _). get b.decisions s) (sym seen)

-- an open slot is in the window, since those from slot_in on and before slot_out have a decision
pub new_near : {C : Type 0} (same : C → C → Bool) (key_of : C → Key) (a : Inside C) → KeepsBook same key_of a → (s : ℕ)
    → IsLeastOpen (book_of a) s → IsInWindow a.slot_out s
new_near same key_of a kept s least = record {
  low =
      ⊎_elim (λ (l : s < a.slot_out).
      absurd (false≢true (ap is_some (sym least.unknown) ∙ kept.performed s least.next l)))
      (λ (l : a.slot_out ≤ s). l) (cases_lt s a.slot_out);
  high = least.within;
}
