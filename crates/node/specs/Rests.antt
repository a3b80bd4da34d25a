-- What is left of a node that forgets the slots below a base.
use Rattle.std.specs.Prelude.{ℕ}
use Rattle.acceptor.specs.Rests.{rest_of_acceptor}
use Rattle.leader.specs.Rests.{rest_of_leader}
use Rattle.slot_log.specs.Rests.{rest_of_book}
use Rattle.node.specs.Nodes.{NodeState}

-- what is left of its acceptor, its leader and its replica; its boot stays
abbrev pub rest_of_node : {C : Type 0} → ℕ → NodeState C → NodeState C
rest_of_node base x = record x {
  acceptor = rest_of_acceptor base x.acceptor;
  leader = rest_of_leader base x.leader;
  replica = rest_of_book base x.replica;
}
