use Rattle.std.proofs.Common.{◌++◌, [], sym, subst}
use Rattle.forgetting_hall.specs.Telling.{HasTold}
use Rattle.recovery.proofs.recovery.placed.Goals as goal

pub returns-clause-told : goal.returns-clause-told
returns-clause-told g c = λ members before has.
    subst (λ h. HasTold g.O.Object.rules members h (before ++ c.take_placed.result.items)) (sym c.take_placed.ensures.left)
    (subst (λ placed. HasTold g.O.Object.rules members (record c.settle_all.new.hall {
      gathering = record c.settle_all.new.hall.gathering
          { commands = [] };
    }) (before ++ placed)) (sym c.take_placed.ensures.placed)
    (c.tells_in_order.ensures.takes c.settle_all.new.hall members before (c.settle_all.ensures.goes_on.tells members before has)))
