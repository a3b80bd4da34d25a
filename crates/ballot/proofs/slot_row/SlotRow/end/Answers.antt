use Rattle.std.proofs.Common.{◌≡◌, ◌<◌, ◌≤◌, ◌+◌, ℕ, true, length, subst, arith}
use Rattle.std.specs.Option.{is_some}
use Rattle.std.specs.FinMap.{get}
use Rattle.ballot.specs.Slots.{Slots}
use Rattle.ballot.proofs.Bounds.{none_above, nothing_at, none_then_empty, none_behind_row}
use Rattle.ballot.proofs.slot_row.SlotRow.end.Goals as goal

pub returns-in-Some-clause-past : goal.returns-in-Some-clause-past
returns-in-Some-clause-past g c =
    let a = c.self.inside in
    let k = c.number.result in
    let m = c.max.ensures in
    let high : k ≡ c.in-Some.slot.now = c.number.ensures.number in
    let all = c.len.ensures in
    subst (λ (n : Slots g.row.X.Denot). (s : ℕ) → is_some (get n s) ≡ true → s < c.max.result) c.self.view_is
    (none_behind_row a.first a.row.items a.beside c.max.result (omega arith)
    (λ q there. let l = none_above a.beside c.entries.result.now.entries c.entries.ensures c.in-Some.slot.now c.in-Some.ensures.greatest q there in
    omega arith))

pub returns-in-None-clause-past : goal.returns-in-None-clause-past
returns-in-None-clause-past g c =
    let a = c.self.inside in
    let none = c.in-None.ensures.variant in
    let all = c.len.ensures in
    subst (λ (n : Slots g.row.X.Denot). (s : ℕ) → is_some (get n s) ≡ true → s < a.first + c.len.result) c.self.view_is
    (none_behind_row a.first a.row.items a.beside (a.first + c.len.result) (omega arith)
    (λ q there. absurd (nothing_at a.beside c.entries.result.now.entries c.entries.ensures
    (none_then_empty (length c.entries.result.now.entries) none.1) q there)))
