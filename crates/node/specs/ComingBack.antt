-- A node comes back, or catches up: it goes on with an object that has obeyed what was decided before a slot.
use Rattle.std.specs.Prelude.{ℕ, List, max}
use Rattle.object.specs.OnceOnly.{Filtered}
use Rattle.object.specs.declared.command.Command.{Command}
use Rattle.acceptor.specs.Acceptors.{Acceptances}
use Rattle.acceptor.specs.Rests.{rest_of_acceptor}
use Rattle.leader.specs.Leaders.{new_leader}
use Rattle.slot_log.specs.Books.{new_book}
use Rattle.slot_log.specs.CatchingUp.{book_from}
use Rattle.node.specs.Holding.{Holding}
use Rattle.node.specs.Rests.{rest_of_node}

-- node n of these members with what is left of the acceptor from the slot on, this boot, a new leader, and a replica that
-- goes on at the slot
abbrev pub node_back : {Op O : Type 0} → List ℕ → ℕ → Acceptances (Command Op) → ℕ → ℕ → Filtered O → Holding Op O
node_back members n acceptor boot slot object = record {
  state = record {
    acceptor = rest_of_acceptor slot acceptor;
    boot = boot;
    leader = new_leader members n boot;
    replica = record new_book { slot_in = max 1 slot; slot_out = slot };
  };
  object = object;
}

-- the node with this object, which goes on at this slot, and keeps the slots from there on
abbrev pub node_from : {Op O : Type 0} → ℕ → Filtered O → Holding Op O → Holding Op O
node_from slot object h = record {
  state = record (rest_of_node slot h.state) { replica = book_from slot h.state.replica };
  object = object;
}
