-- A new network shows the rest of a new cluster, with nothing forgotten.
use Rattle.std.proofs.Common.{◌≤◌, ℕ, List, [], length, refl, sym, ap, subst, arith}
use Rattle.std.proofs.lemmas.List.FromFn.{length-map-range_with_len}
use Rattle.std.specs.FinMap.{empty}
use Rattle.object.specs.Lists.{In}
use Rattle.object.specs.Objects.{Rules}
use Rattle.object.specs.Obeying.{obeyed}
use Rattle.object.specs.declared.command.Command.{Command}
use Rattle.ballot.specs.Members.{numbers}
use Rattle.scout_commander.specs.Commanders.{Commanding}
use Rattle.slot_log.specs.Histories.{history}
use Rattle.node.specs.Nodes.{NodeState, new_node}
use Rattle.node.specs.PlaceLaws.{new_in}
use Rattle.node.specs.Receiving.{ShowsNode}
use Rattle.network.specs.Networks.{new_network}
use Rattle.network.specs.MailLaws.{new_mail}
use Rattle.agreement.specs.Nodes.{new_cluster}
use Rattle.node.specs.Rests.{rest_of_node}
use Rattle.ballot.proofs.Rests.{above_empty}
use Rattle.forgetting_hall.specs.Shown.{ShowsRest, ObeyWorld}

module _ {C : Type 0} (members : List ℕ) where
  -- nothing is left out of a new node
  rest_new : (n : ℕ) → ShowsNode {C = C} (new_node members n) (rest_of_node 0 (new_node members n))
  rest_new n =
      let commands = above_empty {X = C} 0 in
      let commanders = above_empty {X = Commanding C} 0 in
      record {
        acceptor = record { promised = refl; accepted = record { part = λ p i. i; greatest = λ p i. absurd i } };
        boot = refl;
        leader = λ i. record (new_node {C = C} members n).leader { proposals = sym commands i; commanders = sym commanders i };
        replica = λ i. record (new_node {C = C} members n).replica { decisions = sym commands i };
      }

  pub opening_shows : ShowsRest {C = C} 0 (new_network members) (new_cluster members)
  opening_shows = record {
    members = refl;
    has_nodes = length-map-range_with_len (new_node members) 1 (length members);
    has_mails = length-map-range_with_len (λ (_ : ℕ). []) 1 (length members);
    nodes = λ n member. subst (λ x. ShowsNode x (rest_of_node 0 x)) (sym (new_in members (length members) n)) (rest_new n);
    past = λ n member. subst (λ (x : NodeState C). 0 ≤ x.replica.slot_out) (sym (new_in members (length members) n)) (omega arith);
    letters = λ n l i. absurd (subst (In l) (new_mail (numbers members) n) i);
  }

pub opening_obeys : {O Op Reply : Type 0} (rules : Rules O Op Reply) (members : List ℕ)
    → ObeyWorld rules (new_network members) (λ n. record { object = rules.fresh; latest = empty }) (new_cluster members)
opening_obeys rules members n member = ap (λ (x : NodeState (Command _)). obeyed rules (history x.replica)) (sym (new_in members (length members) n))
