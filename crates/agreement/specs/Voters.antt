-- Who accepted something under a ballot.
use Rattle.std.specs.Prelude.{ℕ, Bool, ◌==◌, ◌&&◌, List, map}
use Rattle.std.specs.List.{list_any}
use Rattle.ballot.specs.Ballots.{Numbers, is_same}
use Rattle.ballot.specs.declared.pvalue.Pvalue.{Pvalue}
use Rattle.node.specs.Nodes.{NodeState}
use Rattle.agreement.specs.Nodes.{Cluster}

-- the pvalue stands under this ballot and slot
abbrev pub is_at : {C : Type 0} → Numbers → ℕ → Pvalue C → Bool
is_at b s q = is_same q.ballot b && (q.slot == s)

-- the acceptor accepted something there
abbrev pub accepts : {C : Type 0} → Numbers → ℕ → NodeState C → Bool
accepts b s x = list_any (is_at b s) x.acceptor.accepted

-- the acceptors that did
abbrev pub voters_of : {C : Type 0} → Cluster C → Numbers → ℕ → List Bool
voters_of k b s = map (accepts b s) k.nodes
