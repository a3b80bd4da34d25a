-- The world: the nodes with their letters, and what clients and clocks saw.
use Rattle.std.specs.Prelude.{ℕ, List}
use Rattle.object.specs.declared.command.Command.{Command}
use Rattle.object.specs.Happenings.{Happenings, nothing}
use Rattle.agreement.specs.Nodes.{Cluster, new_cluster}

-- the greatest slot that any replica performed so far is the reach, 0 at first; and the events are counted
pub record World (Op Reply : Type 0) : Type 0 where
  pub cluster : Cluster (Command Op)
  pub happenings : Happenings Op Reply
  pub reach : ℕ
  pub taken : ℕ

-- the opening world of these members
abbrev pub opening : {Op Reply : Type 0} → List ℕ → World Op Reply
opening members = record { cluster = new_cluster members; happenings = nothing; reach = 0; taken = 0 }
