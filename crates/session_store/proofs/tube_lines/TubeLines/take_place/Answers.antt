use Rattle.session_store.specs.Lines.{line_cmp}
use Rattle.session_store.proofs.Places.{same_place}
use Rattle.session_store.proofs.TubeSets.{set-put, stays_but}
use Rattle.session_store.proofs.tube_lines.TubeLines.take_place.Goals as goal

pub returns-in-Some-clause-stays : goal.returns-in-Some-clause-stays
returns-in-Some-clause-stays c =
    λ t p apart.
    set-put line_cmp c.args.tube.now t p c.args.self.now.lines
    (c.get_mut.follows.lender c.remove.new.self) c.in-Some.line.now c.remove.new.self c.in-Some.ensures.value
    (c.get_mut.follows.holds c.remove.new.self)
    (λ same. stays_but line_cmp same_place c.args.place p c.in-Some.line.now c.remove.new.self (c.remove.ensures.updates.0 p) (apart same))
