use Rattle.std.proofs.Common.{◌∙◌, ap}
use Rattle.bean_queue.specs.Tubes.{all_tubes}
use Rattle.bean_queue.proofs.calm.Sound.{do-sound, kept-sound}
use Rattle.bean_queue.proofs.tubes.Turning.{still-listed}
use Rattle.bean_queue.proofs.queue.QueueOver.obey_report.Goals as goal

pub invariant_of-self-2 : goal.invariant_of-self-2
invariant_of-self-2 g c =
    let s = c.self.inside.logic.now in
    let kept = kept-sound _ _ _ _ (do-sound c.args.op.now c.args.key s c.self.invariant.1) c.in_default.ensures.state c.keep.ensures.now
    c.keep.ensures.before in (
      kept.0,
      kept.1,
      still-listed c.self.inside.listed s c.keep.new.self.now (ap all_tubes c.keep.ensures.now ∙ c.in_default.ensures.tubes) c.self.invariant.2,
    )
