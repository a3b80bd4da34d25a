-- Events at other nodes leave a host's node as it is, and no letter is taken away.
use Rattle.std.proofs.Common.{◌≡◌, ◌≢◌, ◌≤◌, ℕ, true, List, [], Some, None, Option, refl, sym, ap, ◌∙◌, subst}
use Rattle.object.specs.Lists.{In}
use Rattle.object.specs.ListLaws.{In-left}
use Rattle.object.specs.Objects.{Rules}
use Rattle.object.specs.declared.command.Command.{Command}
use Rattle.ballot.specs.Members.{is_member}
use Rattle.forgetting.specs.Holding.{ShowsHeld}
use Rattle.ballot.specs.declared.letter.Letter.{Letter}
use Rattle.node.specs.Nodes.{NodeState}
use Rattle.node.specs.PlaceLaws.{node_put_other}
use Rattle.slot_log.specs.Decisions.{next_decided}
use Rattle.agreement.specs.Nodes.{Cluster, node, turned}
use Rattle.agreement.specs.Steps.{Step, submit, deliver, wake, nudge, propose, perform, restart, after_performing}
use Rattle.agreement.specs.Worlds.{World}
use Rattle.agreement.specs.declared.event.Event.{Event}
use Rattle.cluster.specs.Elsewhere.{IsElsewhere}
use Rattle.cluster.specs.Hosts.{HostState, ShowsHost}
use Rattle.cluster.specs.Envelopes.{Envelope, IsEnvelopeOf}
use Rattle.cluster.specs.Storing.{Stored, IsStored}
use Rattle.acceptor.specs.Acceptors.{Keeps}
use Rattle.acceptor.specs.Rests.{rest_of_acceptor}

module _ {O Op Reply : Type 0} (rules : Rules O Op Reply) where
  -- members and node m stay, and letters do
  pub record Leaves (m : ℕ) (k z : Cluster (Command Op)) : Type 0 where
    pub members : z.members ≡ k.members
    pub node : node z m ≡ node k m

  pub record Adds (k z : Cluster (Command Op)) : Type 0 where
    pub sent : (l : Letter (Command Op)) → In l k.letters → In l z.letters
    pub same : z.members ≡ k.members

  turned_leaves : (m n : ℕ) (k : Cluster (Command Op)) (x : NodeState (Command Op)) (out : List (Letter (Command Op)))
      → m ≢ n → Leaves m k (turned k n x out)
  turned_leaves m n k x out apart = record { members = refl; node = node_put_other k.members k.nodes n x m apart }

  performed_leaves : (m n : ℕ) (w : World Op Reply) (o : Option (Command Op)) → m ≢ n
      → Leaves m w.cluster (after_performing rules w n (node w.cluster n).replica o).cluster
  performed_leaves m n w None apart = record { members = refl; node = refl }
  performed_leaves m n w (Some c) apart = turned_leaves m n w.cluster _ [] apart

  pub step_leaves : (m : ℕ) (w v : World Op Reply) (e : Event Op) → Step rules w e v → IsElsewhere m w e
      → Leaves m w.cluster v.cluster
  step_leaves m w v e (submit n c member own) apart = turned_leaves m n w.cluster _ [] apart
  step_leaves m w v e (deliver j l x out at receives) apart = turned_leaves m l.to w.cluster x out (apart l at)
  step_leaves m w v e (wake n member) apart = turned_leaves m n w.cluster _ _ apart
  step_leaves m w v e (nudge n member) apart = turned_leaves m n w.cluster _ _ apart
  step_leaves m w v e (propose n member) apart = turned_leaves m n w.cluster _ _ apart
  step_leaves m w v e (perform n member) apart = performed_leaves m n w (next_decided (node w.cluster n).replica) apart
  step_leaves m w v e (restart n member) apart = turned_leaves m n w.cluster _ [] apart

  turned_adds : (n : ℕ) (k : Cluster (Command Op)) (x : NodeState (Command Op)) (out : List (Letter (Command Op)))
      → Adds k (turned k n x out)
  turned_adds n k x out = record { sent = λ l i. In-left l k.letters out i; same = refl }

  performed_adds : (n : ℕ) (w : World Op Reply) (o : Option (Command Op))
      → Adds w.cluster (after_performing rules w n (node w.cluster n).replica o).cluster
  performed_adds n w None = record { sent = λ l i. i; same = refl }
  performed_adds n w (Some c) = turned_adds n w.cluster _ []

  pub step_adds : (w v : World Op Reply) (e : Event Op) → Step rules w e v → Adds w.cluster v.cluster
  step_adds w v e (submit n c member own) = turned_adds n w.cluster _ []
  step_adds w v e (deliver j l x out at receives) = turned_adds l.to w.cluster x out
  step_adds w v e (wake n member) = turned_adds n w.cluster _ _
  step_adds w v e (nudge n member) = turned_adds n w.cluster _ _
  step_adds w v e (propose n member) = turned_adds n w.cluster _ _
  step_adds w v e (perform n member) = performed_adds n w (next_decided (node w.cluster n).replica)
  step_adds w v e (restart n member) = turned_adds n w.cluster _ []

  pub leaves_host : (s : HostState Op O) (m : ℕ) (k z : Cluster (Command Op)) → Leaves m k z → ShowsHost rules s m k
      → ShowsHost rules s m z
  leaves_host s m k z leaves shows = record {
    member = subst (λ ms. is_member ms m ≡ true) (sym leaves.members) shows.member;
    held = subst (λ x. ShowsHeld rules s.base s.holding x) (sym leaves.node) shows.held;
    past = subst (λ (x : NodeState (Command Op)). s.base ≤ x.replica.slot_out) (sym leaves.node) shows.past;
  }

  pub leaves_stored : (d : Stored Op) (m : ℕ) (k z : Cluster (Command Op)) → Leaves m k z → IsStored d m k
      → IsStored d m z
  leaves_stored d m k z leaves is = record {
    acceptor = subst (λ (x : NodeState (Command Op)). Keeps (rest_of_acceptor d.base x.acceptor) d.acceptor)
        (sym leaves.node) is.acceptor;
    boot = is.boot ∙ ap (λ (x : NodeState (Command Op)). x.boot) (sym leaves.node);
  }

  pub adds_envelope : (p : Envelope (Command Op)) (k z : Cluster (Command Op)) → Adds k z → IsEnvelopeOf p k
      → IsEnvelopeOf p z
  adds_envelope p k z adds is = record {
    whole = is.whole;
    sent = adds.sent is.whole is.sent;
    sender = is.sender;
    receiver = is.receiver;
    left = is.left;
  }
