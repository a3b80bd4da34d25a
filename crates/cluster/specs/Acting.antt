-- What a host does is what the world does.
use Rattle.std.specs.Prelude.{◌≡◌, ◌≤◌, ℕ, List, Some, slice_get}
use Rattle.object.specs.Happenings.{with_answers}
use Rattle.object.specs.Objects.{Rules}
use Rattle.object.specs.declared.command.Command.{Command}
use Rattle.ballot.specs.declared.letter.Letter.{Letter}
use Rattle.ballot.specs.declared.letter.LetterBody.{LetterBody}
use Rattle.node.specs.Deeds.{outcome_of}
use Rattle.node.specs.Holding.{outcome_held}
use Rattle.node.specs.Nodes.{NodeState}
use Rattle.node.specs.declared.deed.Deed.{Deed}
use Rattle.agreement.specs.Events.{event_of}
use Rattle.agreement.specs.Nodes.{node}
use Rattle.agreement.specs.Steps.{Step}
use Rattle.agreement.specs.Worlds.{World}
use Rattle.agreement.specs.declared.event.Event.TheVariants.{Deliver}
use Rattle.cluster.specs.Asking.{with_asked}
use Rattle.cluster.specs.Envelopes.{AreEnvelopesOf}
use Rattle.cluster.specs.Hosts.{HostState, ShowsHost, host_turn, with_holding, with_node_state}
use Rattle.cluster.specs.Storing.{Stored, IsStored, stored_after}

-- The world's event is the host's deed: it makes a world that the host shows then, to which what it sends belongs, and
-- which has the answers that it gave.
pub record HostActs {O Op Reply : Type 0} (rules : Rules O Op Reply) (s : HostState Op O) (n : ℕ)
    (d : Deed Op) (w : World Op Reply) : Type 0 where
  pub world : World Op Reply
  pub step : Step rules w (event_of n d) world
  pub shows : ShowsHost rules (with_holding s (host_turn rules s d).state) n world.cluster
  pub sent : AreEnvelopesOf s.base (host_turn rules s d).sent world.cluster
  pub happenings : world.happenings ≡ with_answers (host_turn rules s d).answers (with_asked d w.happenings)
  pub stored : (d : Stored Op) → IsStored d n w.cluster → IsStored d n world.cluster
  pub outcome : outcome_held s.holding d ≡ outcome_of (node w.cluster n) d

-- The world's event is the delivery of the letter of which the host received what was left: it makes a world that the
-- host shows then, to which what it sends belongs, and in which nothing else happened.
pub record HostReceives {O Op Reply : Type 0} (rules : Rules O Op Reply) (s : HostState Op O) (n : ℕ)
    (left : LetterBody (Command Op)) (new : NodeState (Command Op)) (sent : List (Letter (Command Op)))
    (w : World Op Reply) : Type 0 where
  pub place : ℕ
  pub world : World Op Reply
  pub to : (l : Letter (Command Op)) → slice_get w.cluster.letters place ≡ Some l → l.to ≡ n
  pub step : Step rules w (Deliver place) world
  pub shows : ShowsHost rules (with_node_state s new) n world.cluster
  pub envelopes : AreEnvelopesOf s.base sent world.cluster
  pub stored :
      (d : Stored Op) → d.base ≤ s.base
      → IsStored d n w.cluster → IsStored (stored_after d left) n world.cluster
  pub happenings : world.happenings ≡ w.happenings
