use Rattle.std.proofs.Common.{◌<◌, ◌≤◌, ⊎_elim, Some, ap, ◌∙◌, sym, arith}
use Rattle.std.proofs.lemmas.Bool.{cases_lt, false≢true}
use Rattle.std.specs.Option.{is_some}
use Rattle.std.specs.FinMap.{get}
use Rattle.slot_log.specs.Proposals.{open_slot}
use Rattle.slot_log.specs.Kept.{book_of}
use Rattle.slot_log.proofs.Maps.{none_from}
use Rattle.slot_log.proofs.OpenSlots.{open_at, open_none}
use Rattle.slot_log.proofs.slot_log.SlotLog.open_slot.Goals as goal

pub returns-in_err-slot : goal.returns-in_err-slot
returns-in_err-slot g c =
    c.from_residual.ensures
    ∙ sym (open_none (book_of c.self.inside) (λ t low high within.
    c.loop-number.invariant t low
    (let first = c.self.invariant.slot_in.0 in
    ⊎_elim (λ (l : t < c.loop-number.number). l)
    (λ (l : c.loop-number.number ≤ t). absurd (c.in_err-slot.ensures (omega arith, omega arith)))
    (cases_lt t c.loop-number.number))))
    ∙ ap open_slot c.self.view_is

pub returns-then-not-contains : goal.returns-then-not-contains
returns-then-not-contains g c =
    let n = c.loop-number.number in
    let first = c.max-number.ensures in
    ap (λ s. Some s) c.in_ok-slot.ensures.1
    ∙ sym (open_at (book_of c.self.inside) n (record {
      next = omega arith;
      unknown = none_from (get c.self.inside.decisions n) (λ there.
          false≢true (sym c.if-not-contains.true ∙ c.contains.ensures ∙ ap (λ s. is_some (get c.self.inside.decisions s)) c.in_ok-slot.ensures.1 ∙ there));
      least = c.loop-number.invariant;
      within = c.loop-number-test.true;
      numbered = c.in_ok-slot.ensures.0.1;
    }))
    ∙ ap open_slot c.self.view_is

pub returns : goal.returns
returns g c =
    sym (open_none (book_of c.self.inside) (λ t low high within. c.loop-number.invariant t low (omega arith)))
    ∙ ap open_slot c.self.view_is
