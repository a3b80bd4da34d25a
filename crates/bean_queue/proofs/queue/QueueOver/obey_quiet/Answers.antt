use Rattle.std.proofs.Common.{IfSome, sym, subst, ◌∙◌}
use Rattle.bean_queue.specs.Staying.{IsListedBefore}
use Rattle.bean_queue.proofs.calm.Sound.{do-sound, kept-sound}
use Rattle.bean_queue.proofs.tubes.Staying.{after-quiet}
use Rattle.bean_queue.proofs.queue.QueueOver.obey_quiet.Goals as goal

pub invariant_of-self-in-Ok : goal.invariant_of-self-in-Ok
invariant_of-self-in-Ok g c =
    let s = c.self.inside.logic.now in
    let kept = kept-sound _ _ _ _ (do-sound c.args.op.now c.args.key s c.self.invariant.1) c.in-Ok.ensures.state c.keep.ensures.now c.keep.ensures.before in (
      kept.0,
      kept.1,
      after-quiet c.args.op.now c.args.key s c.keep.new.self.now c.in_ok-before.before c.still_listed.result c.self.invariant.1.ids
          (subst (λ t. IfSome c.in_ok-before.before (IsListedBefore c.args.op.now c.args.key t)) (sym (c.self.view_is ∙ c.take_listed.ensures.same))
          c.in_ok-before.ensures.before)
          (c.keep.ensures.now ∙ c.in-Ok.ensures.state) c.still_listed.ensures,
    )
