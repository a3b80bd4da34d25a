-- A host that forgets more shows on what it showed.
use Rattle.std.proofs.Common.{◌≤◌, ◌∙◌, ℕ, ap, sym, subst}
use Rattle.object.specs.Objects.{Rules}
use Rattle.object.specs.declared.command.Command.{Command}
use Rattle.ballot.specs.OrderLaws.{BallotLaws}
use Rattle.acceptor.specs.Acceptors.{Acceptances, Keeps}
use Rattle.acceptor.specs.Rests.{rest_of_acceptor}
use Rattle.leader.specs.Rests.{rest_of_leader}
use Rattle.slot_log.specs.Books.{SlotBook}
use Rattle.slot_log.specs.Rests.{rest_of_book}
use Rattle.node.specs.Nodes.{NodeState}
use Rattle.node.specs.Receiving.{ShowsNode}
use Rattle.node.specs.Rests.{rest_of_node}
use Rattle.node.proofs.Keeping.{reports}
use Rattle.agreement.specs.Nodes.{Cluster, node}
use Rattle.forgetting.proofs.Bases.{node_twice, pvalues_twice, rest_keeps}
use Rattle.cluster.specs.Hosts.{HostState, ShowsHost, forgotten_host}
use Rattle.cluster.specs.Storing.{Stored, IsStored, IsWrittenAnew}

pub node_forgets : {C : Type 0} (low high : ℕ) → low ≤ high → (kept x : NodeState C)
    → ShowsNode kept (rest_of_node low x)
    → ShowsNode (rest_of_node high kept) (rest_of_node high x)
node_forgets low high h kept x s = subst (ShowsNode (rest_of_node high kept)) (node_twice low high h x) (record {
  acceptor = rest_keeps high (rest_of_acceptor low x.acceptor) kept.acceptor s.acceptor;
  boot = s.boot;
  leader = ap (rest_of_leader high) s.leader;
  replica = ap (rest_of_book high) s.replica;
})

pub host_forgets : {O Op Reply : Type 0} (rules : Rules O Op Reply) (s : HostState Op O) (n base : ℕ)
    (k : Cluster (Command Op))
    → ShowsHost rules s n k → s.base ≤ base → base ≤ s.holding.state.replica.slot_out
    → ShowsHost rules (forgotten_host base s) n k
host_forgets rules s n base k shows more out = record {
  member = shows.member;
  held = record {
    state = node_forgets s.base base more s.holding.state _ shows.held.state;
    object = shows.held.object;
  };
  past = subst (λ (b : SlotBook (Command _)). base ≤ b.slot_out) shows.held.state.replica out;
}

-- what is stored is written anew, from a higher base on
pub stored_compacts : (laws : BallotLaws) {Op : Type 0} (d e : Stored Op) (n base : ℕ) (k : Cluster (Command Op))
    → IsStored d n k → d.base ≤ base → IsWrittenAnew base d e → IsStored e n k
stored_compacts laws {Op} d e n base k is more anew = record {
  acceptor = subst (λ b. Keeps (rest_of_acceptor b (node k n).acceptor) e.acceptor) (sym anew.base) (record {
    promised = anew.acceptor.promised ∙ left.promised;
    accepted = reports laws (rest_of_acceptor base (node k n).acceptor) (rest_of_acceptor base d.acceptor)
        e.acceptor.accepted left anew.acceptor.accepted;
  });
  boot = anew.boot ∙ is.boot;
}
  where
    left : Keeps (rest_of_acceptor base (node k n).acceptor) (rest_of_acceptor base d.acceptor)
    left = subst (λ (a : Acceptances (Command Op)). Keeps a (rest_of_acceptor base d.acceptor))
        (ap (λ ps. record (node k n).acceptor { accepted = ps })
        (pvalues_twice d.base base more (node k n).acceptor.accepted))
        (rest_keeps base (rest_of_acceptor d.base (node k n).acceptor) d.acceptor is.acceptor)
