-- A network after one of its nodes did something.
use Rattle.std.proofs.Common.{◌≡◌, ℕ, List, ◌++◌, Option, Some, None, length, refl, sym, ap, ◌∙◌, subst}
use Rattle.std.specs.Prelude.{true, slice_index_or, slice_set}
use Rattle.object.specs.declared.command.Command.{Command}
use Rattle.object.specs.Objects.{Rules}
use Rattle.ballot.specs.declared.letter.Letter.{Letter}
use Rattle.ballot.specs.Members.{is_member}
use Rattle.leader.specs.Leaders.{woken}
use Rattle.slot_log.specs.Proposals.{next_proposal}
use Rattle.slot_log.specs.Decisions.{next_decided}
use Rattle.replica.specs.Replicas.{proposes_first}
use Rattle.node.specs.Nodes.{NodeState, IsSeated}
use Rattle.node.specs.Deeds.{Turn, acted, own_turn, performing, IsAble, ComesToNothing}
use Rattle.node.specs.declared.deed.Deed.{Deed}
use Rattle.node.specs.declared.deed.Deed.TheVariants as deeds
use Rattle.network.specs.Networks.{NetworkState, node_of, turned_net, turn_of, acted_net}
use Rattle.network.specs.Posting.{AreBetween, IsNetwork}
use Rattle.network.proofs.Seats.{acted_seated}
use Rattle.network.proofs.Turned.{seen, IsPlace, own_member, node_read, node_seated, turned_by, stays_whole, all_between, again_between, none_between}

performing_between : {O Op Reply : Type 0} (rules : Rules O Op Reply) (x : NodeState (Command Op)) (count : ℕ)
    (o : Option (Command Op)) → AreBetween count (performing rules x o).sent
performing_between rules x count None = none_between count
performing_between rules x count (Some c) = none_between count

-- what a node sends by itself is between members
acted_between : {O Op Reply : Type 0} (rules : Rules O Op Reply) (members : List ℕ) (n : ℕ) (x : NodeState (Command Op))
    → is_member members n ≡ true → (d : Deed Op) → AreBetween (length members) (acted rules members n x d).sent
acted_between rules members n x member (deeds.Request c) = none_between (length members)
acted_between rules members n x member deeds.Wake = all_between members n (woken x.leader).says (length members) refl member
acted_between rules members n x member deeds.Nudge = again_between members n x (length members) refl member
acted_between rules members n x member deeds.Propose = all_between members n (proposes_first (next_proposal x.replica)) (length members) refl member
acted_between rules members n x member deeds.Perform = performing_between rules x (length members) (next_decided x.replica)
acted_between rules members n x member deeds.Restart = none_between (length members)

module _ {O Op Reply : Type 0} (rules : Rules O Op Reply) {members : List ℕ} {nodes : List (NodeState (Command Op))}
    {mails : List (List (Letter (Command Op)))} {fresh : List (Letter (Command Op))} {k : NetworkState (Command Op)}
    {n p : ℕ} (h : IsPlace members nodes mails fresh k n p) (y : NodeState (Command Op))
    (at : y ≡ slice_index_or nodes p y) (d : Deed Op) where
  seat : IsSeated members n y
  seat = node_seated h y at

  -- it does so as the member that it is
  own_is : own_turn rules y d ≡ acted rules members n y d
  own_is = λ i. acted rules (seat.speaks i) (seat.node i) y d

  -- and that is what the network has it do
  pub turn_is : own_turn rules y d ≡ turn_of rules k n d
  turn_is = own_is ∙ (λ i. acted rules (h.is i).members n (node_read h y at i) d)

  pub able : IsAble (node_of k n) d → IsAble y d
  able a = subst (λ (z : NodeState (Command Op)). IsAble z d) (sym (node_read h y at)) a

  pub idle : ComesToNothing rules (node_of k n) d → ComesToNothing rules y d
  idle i = subst (λ (z : NodeState (Command Op)). ComesToNothing rules z d) (sym (node_read h y at)) i

  module _ (x : NodeState (Command Op)) (now : List (Letter (Command Op))) (new : x ≡ (own_turn rules y d).state)
      (sent : now ≡ fresh ++ (own_turn rules y d).sent) where
    pub acted_whole : IsNetwork members (slice_set nodes p x) mails now
    acted_whole = stays_whole h x now (own_turn rules y d).sent
        (subst (IsSeated members n) (sym (new ∙ ap (λ t. t.state) own_is)) (acted_seated rules members n y seat d))
        sent
        (subst (λ (t : Turn Op Reply). AreBetween (length members) t.sent) (sym own_is) (acted_between rules members n y (own_member h) d))

    pub acted_ok : seen members (slice_set nodes p x) mails now ≡ acted_net rules k n d
    acted_ok =
        turned_by h x now (own_turn rules y d).sent sent
        ∙ ap (λ z. turned_net k n z (own_turn rules y d).sent) new
        ∙ ap (λ (t : Turn Op Reply). turned_net k n t.state t.sent) turn_is
