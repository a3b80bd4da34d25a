use Rattle.std.proofs.Common.{◌≡◌, ◌<◌, ◌≤◌, ◌^◌, ap, subst, ◌∙◌, arith}
use Rattle.std.specs.Option.{SomeIff}
use Rattle.std.specs.FinMap.{get}
use Rattle.replica.proofs.Obeyed.{obeyed_more}
use Rattle.replica.proofs.obeying.obeying.Goals as goal

pub loop-number-preserved : goal.loop-number-preserved
loop-number-preserved g c =
    let decisions = c.args.slots.now.decisions in
    let n = c.loop-number.number in
    let own : c.unwrap-slot.result ≡ n = (subst (λ r. SomeIff r ((0 < n) × (n ≤ 2 ^ 62)) n) c.unwrap-slot.ensures c.new-in-loop-number.ensures).1 in
    let more = c.loop-number.invariant.1 in (
      obeyed_more g.O.Object.rules decisions n c.loop-number.object c.obey.new.object _ more c.loop-number.invariant.0
          (◌∙◌ {b = get decisions c.unwrap-slot.result} c.decision.ensures (ap (get decisions) own)) c.in_ok-obey.ensures,
      omega arith,
    )
