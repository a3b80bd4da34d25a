use Rattle.std.proofs.Common.{sym, ap, ◌∙◌}
use Rattle.world.proofs.standing.Voters.{kept_next, kept_same}
use Rattle.world.proofs.order.kept.Goals.{then-is_new+in_ok-copy+in_ok-push, else-is_new}
use Rattle.world.proofs.order.kept.Goals as goal

pub loop-index-preserved : goal.loop-index-preserved
loop-index-preserved g c = elim c.if-is_new.branch [
  | then-is_new+in_ok-copy+in_ok-push w ↦
      kept_next c.args.commands.now c.loop-index.index c.index-commands-index.result c.loop-index-test.true c.index-commands-index.is
      c.loop-index.order.items c.if-is_new.order.items w.in_ok-copy.field-0 c.loop-index.invariant
      (sym c.is_new.ensures ∙ w.if-is_new.true) w.in_ok-copy.ensures
      (ap (λ v. v.items) w.order-is ∙ w.in_ok-push.ensures.items)
  | else-is_new w ↦
      ap (λ v. v.items) w.order-is
      ∙ kept_same c.args.commands.now c.loop-index.index c.index-commands-index.result c.loop-index-test.true c.index-commands-index.is
      c.loop-index.order.items c.loop-index.invariant (sym c.is_new.ensures ∙ w.if-is_new.false)
]
