-- The open slot of a book is the least one.
use Rattle.std.proofs.Common.{◌≡◌, ℕ, ◌+◌, ◌-◌, ◌^◌, ◌<◌, ◌≤◌, min, not, None, Some, sym, ap, ◌∙◌, arith}
use Rattle.std.specs.Option.{IsSome, is_some}
use Rattle.std.specs.FinMap.{get, contains_key}
use Rattle.slot_log.specs.Books.{SlotBook, window}
use Rattle.slot_log.specs.Proposals.{open_slot, IsLeastOpen}
use Rattle.slot_log.proofs.Maps.{none_from}
use Rattle.slot_log.proofs.Searches.{find_at, find_none, first_is}
use Rattle.std.proofs.lemmas.Bool.{false≢true, true_from_ne_false}

module _ {C : Type 0} (book : SlotBook C) where
  -- a slot that is open, behind others that aren't
  pub open_at : (s : ℕ) → IsLeastOpen book s → open_slot book ≡ Some s
  unfolding open_slot
  open_at s is =
      find_at (λ t. not (contains_key book.decisions t)) book.slot_in
      (min (book.slot_out + window) (2 ^ 62 + 1) - book.slot_in) s is.next
      (let a = is.within in let b = is.numbered in omega arith)
      (λ t low high. ap not (is.least t low high)) (ap (λ o. not (is_some o)) is.unknown)

  -- none of them is open
  pub open_none : ((t : ℕ) → book.slot_in ≤ t → t < book.slot_out + window → t ≤ 2 ^ 62 → IsSome (get book.decisions t)) → open_slot book ≡ None
  unfolding open_slot
  open_none all =
      find_none (λ t. not (contains_key book.decisions t)) book.slot_in (min (book.slot_out + window) (2 ^ 62 + 1) - book.slot_in)
      (λ t low high. ap not (all t low (omega arith) (omega arith)))

  -- an open slot is the least one
  pub open_is : (s : ℕ) → open_slot book ≡ Some s → IsLeastOpen book s
  unfolding open_slot
  open_is s found =
      let is = first_is (λ t. not (contains_key book.decisions t)) book.slot_in (min (book.slot_out + window) (2 ^ 62 + 1) - book.slot_in) s found in
      let low = is.low in
      let high = is.high in
      record {
        next = low;
        unknown = none_from (get book.decisions s) (λ there. false≢true (ap not (sym there) ∙ is.here));
        least = λ t l h. true_from_ne_false (contains_key book.decisions t) (λ none. false≢true (sym (is.before t l h) ∙ ap not none));
        within = omega arith;
        numbered = omega arith;
      }
