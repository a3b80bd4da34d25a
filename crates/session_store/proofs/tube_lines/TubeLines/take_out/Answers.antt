use Rattle.std.proofs.Common.{None}
use Rattle.session_store.specs.Lines.{line_cmp, tube_line}
use Rattle.session_store.proofs.TubeSets.{set-kept, empty-set}
use Rattle.session_store.proofs.tube_lines.TubeLines.take_out.Goals as goal

pub returns-then-take_place : goal.returns-then-take_place
returns-then-take_place c =
    λ t p apart h.
    set-kept line_cmp c.args.tube.now t p c.take_place.new.self.lines c.remove.new.self None (c.remove.ensures.updates.0 t)
    (λ same. empty-set line_cmp p (tube_line c.args.tube.now c.take_place.new.self) (c.take_place.ensures.none c.if-take_place.true))
    (c.take_place.ensures.stays t p apart h)
