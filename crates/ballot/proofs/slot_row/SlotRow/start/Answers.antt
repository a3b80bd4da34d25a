use Rattle.std.proofs.Common.{◌≡◌, ◌≤◌, ℕ, true, length, subst, arith}
use Rattle.std.specs.Option.{is_some}
use Rattle.std.specs.FinMap.{get}
use Rattle.ballot.specs.Slots.{Slots}
use Rattle.ballot.proofs.Bounds.{none_below, nothing_at, none_then_empty, none_before_row}
use Rattle.ballot.proofs.slot_row.SlotRow.start.Goals as goal

pub returns-in-Some-clause-least : goal.returns-in-Some-clause-least
returns-in-Some-clause-least g c =
    let a = c.self.inside in
    let k = c.number.result in
    let m = c.min.ensures in
    let low : k ≡ c.in-Some.slot.now = c.number.ensures.number in
    subst (λ (n : Slots g.row.X.Denot). (s : ℕ) → is_some (get n s) ≡ true → c.min.result ≤ s) c.self.view_is
    (none_before_row a.first a.row.items a.beside c.min.result (omega arith)
    (λ q there. let l = none_below a.beside c.entries.result.now.entries c.entries.ensures c.in-Some.slot.now c.in-Some.ensures.least q there in omega arith))

pub returns-in-None-clause-least : goal.returns-in-None-clause-least
returns-in-None-clause-least g c =
    let a = c.self.inside in
    let none = c.in-None.ensures.variant in
    subst (λ (n : Slots g.row.X.Denot). (s : ℕ) → is_some (get n s) ≡ true → a.first ≤ s) c.self.view_is
    (none_before_row a.first a.row.items a.beside a.first (omega arith)
    (λ q there. absurd (nothing_at a.beside c.entries.result.now.entries c.entries.ensures
    (none_then_empty (length c.entries.result.now.entries) none.1) q there)))
