use Rattle.hall.proofs.Agreeing.{held_more, all_held}
use Rattle.hall.proofs.hall.Hall.bears_out_all.Goals as goal

pub loop-place-preserved : goal.loop-place-preserved
loop-place-preserved g c = held_more c.args.self.now c.args.session c.args.acts.now c.loop-place.place
    c.index-acts-place.result c.loop-place-test.true c.index-acts-place.is c.loop-place.invariant
    (c.bears_out.ensures.0 c.if-not-bears_out.false)

pub returns : goal.returns
returns g c = all_held c.args.self.now c.args.session c.args.acts.now c.loop-place.place c.loop-place-test.false c.loop-place.invariant
