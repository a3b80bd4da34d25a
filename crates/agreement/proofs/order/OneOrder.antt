-- Every reachable world has one order, and it and the happenings only grow.
use Rattle.std.proofs.Common.{List, sym, subst}
use Rattle.object.specs.declared.command.Command.{Command}
use Rattle.object.specs.declared.command.Key.{Key}
use Rattle.object.specs.Legal.{IsLegal}
use Rattle.agreement.specs.declared.event.Event.{Event}
use Rattle.object.specs.Objects.{Rules}
use Rattle.agreement.specs.Worlds.{World}
use Rattle.agreement.specs.Chosen.{IsOrder}
use Rattle.agreement.specs.Runs.{Leads, IsReachable}
use Rattle.agreement.specs.OneOrder.{HasOneOrder, GoesOnFrom}
use Rattle.ballot.specs.OrderLaws.{BallotLaws}
use Rattle.agreement.proofs.chosen.Growing.{happenings_go_on, order_grows, one_order}
use Rattle.agreement.proofs.order.Deciding.{has_order}
use Rattle.agreement.proofs.order.Once.{ObjectLaws}
use Rattle.agreement.proofs.order.Legal.{reachable_legal}

module _ (laws : BallotLaws) {O Op Reply : Type 0} (rules : Rules O Op Reply) where
  pub leads_later : (w u : World Op Reply) (es : List (Event Op)) → IsReachable rules w → Leads rules w es u → GoesOnFrom w u
  leads_later w u es r l = record {
    happenings = happenings_go_on rules w u es l;
    order = λ cs ds h g. order_grows laws rules w u es r l cs ds h g;
  }

  pub reachable_one_order : (waits : O → Key → Type 0) → ObjectLaws rules waits → (w : World Op Reply) → IsReachable rules w → HasOneOrder rules w
  reachable_one_order waits object w r =
      let h = has_order laws rules w r in
      record {
        order = h.0;
        is = h.1;
        only = λ other g. one_order laws rules w r other h.0 g h.1;
        legal = reachable_legal laws rules waits object w r h.0 h.1;
      }

-- whatever is the order of a world, its happenings are legal for it
pub legal_for : {O Op Reply : Type 0} (rules : Rules O Op Reply) (w : World Op Reply) (order : List (Command Op))
    → HasOneOrder rules w → IsOrder w.cluster order → IsLegal rules w.happenings order
legal_for rules w order one is = subst (λ cs. IsLegal rules w.happenings cs) (sym (one.only order is)) one.legal
