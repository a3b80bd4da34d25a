use Rattle.std.proofs.Common.{◌≡◌, ◌+◌, max, min, ap, sym, ◌∙◌, arith}
use Rattle.std.specs.FinMap.{get}
use Rattle.std.specs.Option.{is_some}
use Rattle.slot_log.specs.Books.{SlotBook, window}
use Rattle.slot_log.specs.CatchingUp.{skipped, book_from}
use Rattle.slot_log.specs.Rests.{rest_of_book}
use Rattle.slot_log.proofs.CatchingUp.{gone_over, over_none, over_more, over_high, over_all}
use Rattle.slot_log.proofs.slot_log.SlotLog.catch_up.Goals as goal

pub loop-init : goal.loop-init
loop-init g c =
    let book = c.propose_from.new.self in
    over_none book c.window_end.ensures.near ∙ ap (gone_over book) (sym c.slot_out-counter.ensures.slot)

pub skip-requires : goal.skip-requires
skip-requires g c =
    let out = ap (λ (b : SlotBook g.row.C.Denot). b.slot_out) c.loop.invariant in
    let next = ap (λ (b : SlotBook g.row.C.Denot). b.slot_in) c.loop.invariant in
    let next_before = ap (λ (b : SlotBook g.row.C.Denot). b.slot_in) c.propose_from.ensures in
    let number = c.number.ensures.number in
    let end = c.min-end.ensures in
    let more = c.loop-test.true in
    omega arith

pub loop-preserved : goal.loop-preserved
loop-preserved g c =
    let book = c.propose_from.new.self in
    let start = c.slot_out-counter.ensures.slot in
    let from = c.loop.auto.counter in
    c.skip.ensures ∙ ap skipped c.loop.invariant ∙ over_more book c.loop.counter (omega arith)

pub go_on_at-requires-clause-low : goal.go_on_at-requires-clause-low
go_on_at-requires-clause-low g c =
    let out = ap (λ (b : SlotBook g.row.C.Denot). b.slot_out) c.loop.invariant in
    let out_before = ap (λ (b : SlotBook g.row.C.Denot). b.slot_out) c.propose_from.ensures in
    let start = c.slot_out-counter.ensures.slot in
    let number = c.number.ensures.number in
    let window_end = c.window_end.ensures.end in
    let end = c.min-end.ensures in
    let low = c.requires in
    let upto = c.loop.auto.counter-end (omega arith) in
    omega arith

pub go_on_at-requires-clause-high : goal.go_on_at-requires-clause-high
go_on_at-requires-clause-high g c =
    let next = ap (λ (b : SlotBook g.row.C.Denot). b.slot_in) c.loop.invariant in
    let next_before = ap (λ (b : SlotBook g.row.C.Denot). b.slot_in) c.propose_from.ensures in
    omega arith

pub go_on_at-requires-clause-proposals : goal.go_on_at-requires-clause-proposals
go_on_at-requires-clause-proposals g c = λ s there.
    let book = c.propose_from.new.self in
    let slot = c.args.slot in
    let out_before = ap (λ (b : SlotBook g.row.C.Denot). b.slot_out) c.propose_from.ensures in
    let start = c.slot_out-counter.ensures.slot in
    let number = c.number.ensures.number in
    let window_end = c.window_end.ensures.end in
    let low = c.requires in
    let end = c.min-end.ensures in
    let upto = c.loop.auto.counter-end (omega arith) in
    let done = c.loop-test.false in
    let last : c.loop.counter ≡ min slot (book.slot_out + window) = omega arith in
    over_high book c.window_end.ensures.near slot c.loop.counter (omega arith) last s
    (ap (λ (b : SlotBook g.row.C.Denot). is_some (get b.proposals s)) (sym c.loop.invariant) ∙ there)

pub returns : goal.returns
returns g c =
    let now = c.args.self.now in
    let book = c.propose_from.new.self in
    let slot = c.args.slot in
    let out_before = ap (λ (b : SlotBook g.row.C.Denot). b.slot_out) c.propose_from.ensures in
    let start = c.slot_out-counter.ensures.slot in
    let number = c.number.ensures.number in
    let window_end = c.window_end.ensures.end in
    let low = c.requires in
    let end = c.min-end.ensures in
    let upto = c.loop.auto.counter-end (omega arith) in
    let done = c.loop-test.false in
    let last : c.loop.counter ≡ min slot (book.slot_out + window) = omega arith in
    let twice : max (max now.slot_in slot) slot ≡ max now.slot_in slot = omega arith in
    c.forget.ensures
    ∙ ap (λ k. rest_of_book k c.go_on_at.new.self) c.number-2.ensures.number
    ∙ ap (rest_of_book slot) (c.go_on_at.ensures ∙ ap (λ (b : SlotBook g.row.C.Denot). record b { slot_out = slot }) c.loop.invariant)
    ∙ over_all book c.window_end.ensures.near slot c.loop.counter (omega arith) last
    ∙ ap (book_from slot) c.propose_from.ensures
    ∙ (λ i. record (book_from slot now) { slot_in = twice i })
