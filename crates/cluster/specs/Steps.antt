-- What may happen to hosts together: each step is at one host.
use Rattle.std.specs.Prelude.{◌≡◌, ◌≤◌, ℕ, ◌+◌, ◌*◌, ◌-◌, max, true, List, [], ◌∷◌, ◌++◌}
use Rattle.object.specs.Happenings.{with_answers}
use Rattle.object.specs.Lists.{In}
use Rattle.object.specs.Objects.{Rules}
use Rattle.object.specs.OnceOnly.{Filtered, is_later}
use Rattle.object.specs.declared.command.Answer.{Answer}
use Rattle.object.specs.declared.command.Command.{Command}
use Rattle.ballot.specs.Members.{is_member}
use Rattle.ballot.specs.declared.letter.Letter.{Letter}
use Rattle.ballot.specs.declared.letter.LetterBody.{LetterBody}
use Rattle.node.specs.Nodes.{NodeState}
use Rattle.node.specs.Receiving.{ShowsReceived}
use Rattle.node.specs.declared.deed.Deed.{Deed}
use Rattle.node.specs.declared.deed.Deed.TheVariants as deeds
use Rattle.cluster.specs.CatchingUp.{HasProposedInVain, caught_up}
use Rattle.cluster.specs.Clusters.{Hosts, new_hosts, with_at, with_handed, host_turned, host_acted}
use Rattle.cluster.specs.ComingBack.{restarted_host}
use Rattle.cluster.specs.Envelopes.{Envelope, IsReadAs}
use Rattle.cluster.specs.Hosts.{with_node_state, forgotten_host}
use Rattle.cluster.specs.Storing.{Stored, IsWrittenAnew, stored_after, booted}

-- the deed is one that a node does by itself: it asks for no command, and is no restart
abbrev pub IsInternal : {Op : Type 0} → Deed Op → Type 0
IsInternal (deeds.Request c) = ⊥
IsInternal deeds.Wake = Unit {0}
IsInternal deeds.Nudge = Unit {0}
IsInternal deeds.Propose = Unit {0}
IsInternal deeds.Perform = Unit {0}
IsInternal deeds.Restart = ⊥

-- One step. A session's commands are handed in at the host that owns it, where a key has one command; they are taken
-- down there, which is no event. Any host may be asked for one of them, again and late, where its filter lets it
-- through: the first time it is submitted. A host may tell an answer that was given elsewhere.
pub data ClusterStep {O Op Reply : Type 0} (rules : Rules O Op Reply) (owner : ℕ → ℕ)
    (k : Hosts Op O Reply) : Hosts Op O Reply → Type 0 where
  hands_in :
      (n : ℕ) (c : Command Op)
      → owner c.key.session ≡ n
      → ((d : Command Op) → In d (k.handed n) → d.key ≡ c.key → d ≡ c)
      → ClusterStep rules owner k (record k { handed = with_handed k.handed n c })
  asks :
      (n m : ℕ) (c : Command Op)
      → is_member k.members n ≡ true
      → In c (k.handed m)
      → is_later c.key (k.host n).holding.object.latest ≡ true
      → ClusterStep rules owner k (host_acted rules k n (deeds.Request c))
  acts :
      (n : ℕ) (d : Deed Op)
      → is_member k.members n ≡ true
      → IsInternal d
      → ClusterStep rules owner k (host_acted rules k n d)
  relays :
      (a : Answer Reply)
      → In a k.happenings.answers
      → ClusterStep rules owner k (record k { happenings = with_answers (a ∷ []) k.happenings })
  receives :
      (n : ℕ) (p : Envelope (Command Op)) (left : LetterBody (Command Op)) (new : NodeState (Command Op))
      (sent : List (Letter (Command Op)))
      → is_member k.members n ≡ true
      → In p k.envelopes
      → IsReadAs p n (k.host n).base left
      → ShowsReceived p.letter.«from» (k.host n).holding.state left new [] sent
      → ClusterStep rules owner k (record (host_turned k n (with_node_state (k.host n) new) sent k.happenings) {
        stored = with_at k.stored n (stored_after (k.stored n) left);
      })
  forgets :
      (n base : ℕ)
      → is_member k.members n ≡ true
      → (k.host n).base ≤ base
      → base ≤ (k.host n).holding.state.replica.slot_out
      → ClusterStep rules owner k (record k { host = with_at k.host n (forgotten_host base (k.host n)) })
  compacts :
      (n base : ℕ) (anew : Stored Op)
      → is_member k.members n ≡ true
      → (k.stored n).base ≤ base
      → base ≤ max (k.stored n).base (k.host n).base
      → IsWrittenAnew base (k.stored n) anew
      → ClusterStep rules owner k (record k { stored = with_at k.stored n anew })
  hands_on :
      (n : ℕ)
      → is_member k.members n ≡ true
      → ClusterStep rules owner k (record k {
        snapshots = k.snapshots ++ (((k.host n).holding.state.replica.slot_out, (k.host n).holding.object) ∷ []);
      })
  catches_up :
      (n slot : ℕ) (object : Filtered O)
      → is_member k.members n ≡ true
      → In (slot, object) k.snapshots
      → (k.host n).holding.state.replica.slot_out ≤ slot
      → HasProposedInVain slot object (k.host n).holding.state.replica
      → ClusterStep rules owner k (record k {
        host = with_at k.host n (caught_up slot object (k.host n));
        taken = with_at k.taken n (k.taken n + 2 * (slot - (k.host n).holding.state.replica.slot_out));
      })
  comes_back :
      (n slot : ℕ) (object : Filtered O)
      → is_member k.members n ≡ true
      → In (slot, object) k.snapshots
      → (k.stored n).base ≤ slot
      → ClusterStep rules owner k (record k {
        host = with_at k.host n (restarted_host k.members n (k.stored n) slot object);
        stored = with_at k.stored n (booted (k.stored n));
        taken = with_at k.taken n (k.taken n + (1 + 2 * slot));
      })

-- what can come of new hosts of these members
pub data AreHosts {O Op Reply : Type 0} (rules : Rules O Op Reply) (owner : ℕ → ℕ)
    (members : List ℕ) : Hosts Op O Reply → Type 0 where
  at_first : AreHosts rules owner members (new_hosts rules members)
  later :
      {j : Hosts Op O Reply} (k : Hosts Op O Reply)
      → AreHosts rules owner members j
      → ClusterStep rules owner j k
      → AreHosts rules owner members k
