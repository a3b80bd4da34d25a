use Rattle.std.proofs.Common.{◌∙◌, sym, ap}
use Rattle.bean_queue.specs.Tubes.{all_tubes}
use Rattle.bean_queue.proofs.calm.Sound.{do-sound, kept-sound}
use Rattle.bean_queue.proofs.queue.QueueOver.obey_listing.Goals as goal

pub invariant_of-self-in-Ok : goal.invariant_of-self-in-Ok
invariant_of-self-in-Ok g c =
    let kept = kept-sound _ _ _ _ (do-sound c.args.op.now c.args.key c.self.inside.logic.now c.self.invariant.1)
    c.in-Ok.ensures.does.state c.keep.ensures.now c.keep.ensures.before in
    (kept.0, kept.1, c.in-Ok.ensures.names ∙ ap all_tubes (sym c.keep.ensures.now))
