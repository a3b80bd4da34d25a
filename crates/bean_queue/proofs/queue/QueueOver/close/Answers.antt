use Rattle.std.proofs.Common.{cond, None, ap, ◌∙◌}
use Rattle.bean_queue.specs.Effects.{forgotten}
use Rattle.bean_queue.specs.Tubes.{all_tubes}
use Rattle.bean_queue.proofs.calm.Sound.{close-sound, kept-sound}
use Rattle.bean_queue.proofs.tubes.Staying.{after-close}
use Rattle.bean_queue.proofs.queue.QueueOver.close.Goals as goal

pub invariant_of-self-2 : goal.invariant_of-self-2
invariant_of-self-2 g c =
    let s = c.self.inside.logic.now in
    let kept = kept-sound _ _ _ _ (close-sound c.args.session s c.self.invariant.1)
    (c.forget-stay.ensures.state ∙ ap (forgotten c.args.session) c.in_default.ensures.state) c.keep.ensures.now c.keep.ensures.before in (
      kept.0,
      kept.1,
      after-close c.args.session s c.release_all.new.self.now c.keep.new.self.now c.forget-stay.result c.self.inside.listed c.listed_if.result
          c.in_default.ensures.state (λ stay. ap all_tubes c.keep.ensures.now ∙ c.forget-stay.ensures.stay stay)
          (c.listed_if.ensures ∙ ap (λ o. cond c.forget-stay.result o None) c.take.ensures.value) c.self.invariant.2,
    )
