use Rattle.std.proofs.Common.{◌≡◌, ◌++◌, ap, ◌∙◌}
use Rattle.bean_queue.specs.Queue.{QueueState}
use Rattle.bean_queue.specs.Effects.{tick_effect}
use Rattle.bean_queue.specs.Tubes.{all_tubes}
use Rattle.bean_queue.proofs.calm.Sound.{tick-sound, kept-sound}
use Rattle.bean_queue.proofs.calm.Ticked.{ticked, ticked-answers}
use Rattle.bean_queue.proofs.tubes.Turning.{tick-tubes, still-listed}
use Rattle.bean_queue.proofs.queue.QueueOver.tick.Goals as goal

pub returns : goal.returns
returns g c =
    let q = c.self.inside.logic.now in
    let state : c.settle_all.new.self.now ≡ (tick_effect c.args.second c.self.inside.logic.now).state =
    ticked c.self.inside.logic.now c.pass.new.self.now c.settle_all.new.self.now c.args.second c.has_come.result c.in-Ok.over.keys c.as_slice.result.now
    c.has_come.ensures c.if-has_come.false c.in-Ok.ensures.passed.state c.in-Ok.ensures.over c.as_slice.ensures.keys c.settle_all.ensures.counts in
    record {
      state = c.keep.ensures.now ∙ state ∙ ap (λ (t : QueueState). (tick_effect c.args.second t).state) c.self.view_is;
      out =
          ticked-answers c.self.inside.logic.now c.args.second c.has_come.result c.clear.new.self.items c.pass.new.answers.items c.args.out.now.items
          c.append.new.self.items c.has_come.ensures c.if-has_come.false c.clear.ensures.items c.in-Ok.ensures.passed.answers c.in_default.ensures.items ∙
          ap (λ (t : QueueState). c.args.out.now.items ++ (tick_effect c.args.second t).answers) c.self.view_is;
      err = tt;
    }

pub invariant_of-self-2 : goal.invariant_of-self-2
invariant_of-self-2 g c =
    let state = ticked c.self.inside.logic.now c.pass.new.self.now c.settle_all.new.self.now c.args.second c.has_come.result c.in-Ok.over.keys
    c.as_slice.result.now c.has_come.ensures c.if-has_come.false c.in-Ok.ensures.passed.state c.in-Ok.ensures.over c.as_slice.ensures.keys
    c.settle_all.ensures.counts in
    let kept = kept-sound _ _ _ _ (tick-sound c.args.second c.self.inside.logic.now c.self.invariant.1) state c.keep.ensures.now c.keep.ensures.before in (
      kept.0,
      kept.1,
      still-listed c.self.inside.listed c.self.inside.logic.now c.keep.new.self.now
          (ap all_tubes (c.keep.ensures.now ∙ state) ∙ tick-tubes c.args.second c.self.inside.logic.now) c.self.invariant.2,
    )
