-- Where nothing is known of slot_out and nothing is proposed there, the next request is proposed in it.
use Rattle.std.proofs.Common.{◌≡◌, ⊎_elim, ℕ, ◌<◌, ◌≤◌, ◌^◌, List, ◌∷◌, Some, None, ap₂, subst, arith}
use Rattle.std.specs.Prelude.{IsSome}
use Rattle.std.specs.FinMap.{get}
use Rattle.std.proofs.lemmas.Bool.{cases_lt, false≢true}
use Rattle.slot_log.proofs.OpenSlots.{open_at}
use Rattle.slot_log.specs.Books.{SlotBook}
use Rattle.slot_log.specs.Proposals.{first_for, next_proposal, IsLeastOpen}
use Rattle.agreement.specs.SlotBooks.{IsBookAfter}

module _ {C : Type 0} (book : SlotBook C) (count : ℕ) (h : IsBookAfter count book)
    (unknown : get book.decisions book.slot_out ≡ None) (free : get book.proposals book.slot_out ≡ None) where
  -- proposals have not gone past it
  not_past : book.slot_in ≤ book.slot_out
  not_past = ⊎_elim
      (λ (past : book.slot_out < book.slot_in). ⊎_elim
      (λ (known : IsSome (get book.decisions book.slot_out)). absurd (false≢true (subst IsSome unknown known)))
      (λ (there : IsSome (get book.proposals book.slot_out)). absurd (false≢true (subst IsSome free there)))
      (h.filled book.slot_out (omega arith) past))
      (λ (upto : book.slot_in ≤ book.slot_out). upto)
      (cases_lt book.slot_out book.slot_in)

  least_open : book.slot_out ≤ 2 ^ 62 → IsLeastOpen book book.slot_out
  least_open low = record {
    next = not_past;
    unknown = unknown;
    least = λ t from before. let first = h.first in h.performed.known t (omega arith) before;
    within = omega arith;
    numbered = low;
  }

  pub next_at_out : book.slot_out ≤ 2 ^ 62 → (c : C) (more : List C) → book.requests ≡ c ∷ more → next_proposal book ≡ Some (book.slot_out, c)
  next_at_out low c more requests = ap₂ first_for requests (open_at book book.slot_out (least_open low))
