-- A new host shows the opening.
use Rattle.std.proofs.Common.{◌≡◌, ℕ, true, List, length, refl, sym, subst, arith}
use Rattle.object.specs.Objects.{Rules}
use Rattle.ballot.specs.Members.{is_member}
use Rattle.ballot.proofs.Rests.{above_empty}
use Rattle.scout_commander.specs.Commanders.{Commanding}
use Rattle.node.specs.Nodes.{new_node}
use Rattle.node.specs.PlaceLaws.{new_in}
use Rattle.node.specs.Receiving.{ShowsNode}
use Rattle.node.specs.Rests.{rest_of_node}
use Rattle.agreement.specs.Nodes.{new_cluster}
use Rattle.forgetting.specs.Holding.{ShowsHeld}
use Rattle.cluster.specs.Hosts.{ShowsHost, new_host}

rest_new : {C : Type 0} (members : List ℕ) (n : ℕ)
    → ShowsNode {C = C} (new_node members n) (rest_of_node 0 (new_node members n))
rest_new {C} members n =
    let commands = above_empty {X = C} 0 in
    let commanders = above_empty {X = Commanding C} 0 in
    record {
      acceptor = record { promised = refl; accepted = record { part = λ p i. i; greatest = λ p i. absurd i } };
      boot = refl;
      leader = λ i. record (new_node {C = C} members n).leader {
        proposals = sym commands i;
        commanders = sym commanders i;
      };
      replica = λ i. record (new_node {C = C} members n).replica { decisions = sym commands i };
    }

pub opens : {O Op Reply : Type 0} (rules : Rules O Op Reply) (members : List ℕ) (n : ℕ) → is_member members n ≡ true
    → ShowsHost rules (new_host rules members n) n (new_cluster members)
opens rules members n member = record {
  member = member;
  held = subst (λ x. ShowsHeld rules 0 (new_host rules members n).holding x) (sym (new_in members (length members) n))
      (record { state = rest_new members n; object = refl });
  past = omega arith;
}
