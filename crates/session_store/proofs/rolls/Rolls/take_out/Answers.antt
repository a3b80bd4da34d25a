use Rattle.std.proofs.Common.{None, nat_cmp}
use Rattle.session_store.specs.TubeSets.{tube_set}
use Rattle.session_store.proofs.TubeSets.{set-kept, empty-set}
use Rattle.session_store.proofs.rolls.Rolls.take_out.Goals as goal

pub returns-then-take_from : goal.returns-then-take_from
returns-then-take_from c =
    λ t x apart h.
    set-kept nat_cmp c.args.tube.now t x c.take_from.new.self.rolls c.remove.new.self None (c.remove.ensures.updates.0 t)
    (λ same. empty-set nat_cmp x (tube_set c.args.tube.now c.take_from.new.self.rolls) (c.take_from.ensures.none c.if-take_from.true))
    (c.take_from.ensures.stays t x apart h)
