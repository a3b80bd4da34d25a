use Rattle.std.proofs.Common.{Ok, length, refl, sym}
use Rattle.std.specs.Prelude.{IsOk}
use Rattle.std.proofs.lemmas.List.Elements.{All-from_all_within, AllWithin-more, AllWithin-upto, at_read}
use Rattle.event_loops.proofs.serving.first_fault.Goals as goal

pub loop-end-preserved : goal.loop-end-preserved
loop-end-preserved c =
    AllWithin-more IsOk c.args.ended.now 0 c.loop-end.end-index c.loop-end.invariant
    (at_read c.args.ended.now IsOk c.loop-end.end-index (Ok tt) c.loop-end-test.true (sym c.in_default.is) refl)

pub returns-clause-none : goal.returns-clause-none
returns-clause-none c =
    All-from_all_within IsOk c.args.ended.now
    (AllWithin-upto IsOk c.args.ended.now 0 c.loop-end.end-index (length c.args.ended.now) c.loop-end-test.false c.loop-end.invariant)
