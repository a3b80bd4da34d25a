-- Worlds that are alike have chosen the same, and refuse the same events.
use Rattle.std.proofs.Common.{◌≡◌, ℕ, ◌+◌, Bool, true, List, [], ◌∷◌, None, Some, sym, subst}
use Rattle.std.specs.Prelude.{◌↔◌, not, nat_le, if◌then◌else◌}
use Rattle.object.specs.declared.command.Command.{Command}
use Rattle.object.specs.Lists.{In}
use Rattle.ballot.specs.Members.{is_majority}
use Rattle.ballot.specs.OrderLaws.{BallotLaws}
use Rattle.acceptor.specs.Acceptors.{Acceptances}
use Rattle.leader.specs.Leaders.{pvalue}
use Rattle.agreement.specs.declared.event.Event.{Event}
use Rattle.world.specs.declared.error.WorldError.TheVariants.{NoSuchNode, NoSuchLetter, BadNumber, Full}
use Rattle.agreement.specs.Nodes.{Cluster, node}
use Rattle.agreement.specs.Worlds.{World}
use Rattle.agreement.specs.Chosen.{IsChosen, IsChosenFrom, IsOrder}
use Rattle.world.specs.Refusals.{keeps_acts, refusal}
use Rattle.agreement.specs.Events.{is_at_member, is_sent}
use Rattle.agreement.specs.Runs.{most_events}
use Rattle.world.specs.Alike.{IsAlike, IsAlikeLetter}
use Rattle.node.specs.Nodes.{node_in}
use Rattle.world.proofs.alike.AlikePairs.{InPairs-length}
use Rattle.world.proofs.alike.AlikeNodes.{node_alike, acceptor_same}

-- the same members and acceptors
record HasSameAcceptors {C : Type 0} (k z : Cluster C) : Type 0 where
  members : k.members ≡ z.members
  acceptors : (n : ℕ) → (node k n).acceptor ≡ (node z n).acceptor

turned_back : {C : Type 0} (k z : Cluster C) → HasSameAcceptors k z → HasSameAcceptors z k
turned_back k z h = record { members = sym h.members; acceptors = λ n. sym (h.acceptors n) }

chosen_there : {C : Type 0} (k z : Cluster C) → HasSameAcceptors k z → (s : ℕ) (c : C) → IsChosen k s c → IsChosen z s c
chosen_there k z h s c chosen = (
  chosen.0,
  record {
    voters = chosen.1.voters;
    majority = subst (λ ws. is_majority ws chosen.1.voters ≡ true) h.members chosen.1.majority;
    accepted = λ m x. subst (λ (a : Acceptances _). In (pvalue chosen.0 s c) a.accepted) (h.acceptors m) (chosen.1.accepted m x);
  },
)

chosen_from_there : {C : Type 0} (k z : Cluster C) → HasSameAcceptors k z → (s : ℕ) (cs : List C) → IsChosenFrom k s cs → IsChosenFrom z s cs
chosen_from_there k z h s [] none = λ c chosen. none c (chosen_there z k (turned_back k z h) s c chosen)
chosen_from_there k z h s (c ∷ cs) some = (chosen_there k z h s c some.0, chosen_from_there k z h (s + 1) cs some.1)

order_there : {Op : Type 0} (k z : Cluster (Command Op)) → HasSameAcceptors k z → (order : List (Command Op)) → IsOrder k order → IsOrder z order
order_there k z h order is = (is.0, chosen_from_there k z h 1 is.0 is.1, is.2)

module _ (laws : BallotLaws) {Op Reply : Type 0} (w v : World Op Reply) (a : IsAlike w v) where
  same_acceptors : HasSameAcceptors w.cluster v.cluster
  same_acceptors = record {
    members = a.members;
    acceptors = λ n. subst (λ ms. (node w.cluster n).acceptor ≡ (node_in ms v.cluster.nodes n).acceptor) a.members
        (acceptor_same (node w.cluster n) (node_in w.cluster.members v.cluster.nodes n)
        (node_alike laws w.cluster.members w.cluster.nodes v.cluster.nodes n a.nodes));
  }

  -- the same list is the order
  pub alike_order : (order : List (Command Op)) → IsOrder w.cluster order ↔ IsOrder v.cluster order
  alike_order order = (
    order_there w.cluster v.cluster same_acceptors order,
    order_there v.cluster w.cluster
        (turned_back w.cluster v.cluster same_acceptors) order,
  )

-- the same events are refused, for the same reason
pub alike_refusals : {Op Reply : Type 0} (w v : World Op Reply) → IsAlike w v → (same : Op → Op → Bool) (e : Event Op) → refusal same w e ≡ refusal same v e
unfolding refusal
alike_refusals w v a same e = λ j.
    if not (is_at_member (a.members j) e) then Some NoSuchNode
    else (if not (is_sent (InPairs-length IsAlikeLetter w.cluster.letters v.cluster.letters a.letters j) e) then Some NoSuchLetter
    else (if not (keeps_acts same (a.happenings j).submitted e) then Some BadNumber
    else (if nat_le most_events (a.taken j) then Some Full else None)))
