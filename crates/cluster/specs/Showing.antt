-- Hosts together show one world.
use Rattle.std.specs.Prelude.{◌≡◌, ◌≤◌, ℕ, true, List, take, length}
use Rattle.object.specs.Happenings.{Happenings, is_submitted}
use Rattle.object.specs.Lists.{In}
use Rattle.object.specs.Objects.{Rules}
use Rattle.object.specs.OnceOnly.{Filtered}
use Rattle.object.specs.declared.command.Answer.{Answer}
use Rattle.object.specs.declared.command.Command.{Command}
use Rattle.object.specs.declared.command.Key.{Key}
use Rattle.object.specs.declared.command.Submission.{Submission}
use Rattle.ballot.specs.Members.{is_member}
use Rattle.agreement.specs.Runs.{IsWorld}
use Rattle.agreement.specs.Worlds.{World}
use Rattle.cluster.specs.Clusters.{Hosts, total_events}
use Rattle.cluster.specs.Envelopes.{Envelope, IsEnvelopeOf}
use Rattle.cluster.specs.Hosts.{ShowsHost}
use Rattle.cluster.specs.Snapshots.{IsSnapshot}
use Rattle.cluster.specs.Storing.{IsStored}

-- The same was submitted in both; each answer of the first is one of the second, and was given before a submission
-- there if it was so here.
pub record IsPartOf {Op Reply : Type 0} (h g : Happenings Op Reply) : Type 0 where
  pub keys : (key : Key) → is_submitted key h.submitted ≡ is_submitted key g.submitted
  pub submitted :
      (s : Submission Op) → In s h.submitted
      → (t : Submission Op) × In t g.submitted × (t.command ≡ s.command)
      × ((a : Answer Reply) → In a (take s.after h.answers) → In a (take t.after g.answers))
  pub back : (t : Submission Op) → In t g.submitted → (s : Submission Op) × In s h.submitted × (s.command ≡ t.command)
  pub answers : (a : Answer Reply) → In a h.answers → In a g.answers
  pub within : (s : Submission Op) → In s h.submitted → s.after ≤ length h.answers
  pub beyond : (t : Submission Op) → In t g.submitted → t.after ≤ length g.answers

-- what was handed in at a host is of the sessions that it owns, and a key has one command
pub record IsHandedIn {Op : Type 0} (owner : ℕ → ℕ) (handed : ℕ → List (Command Op)) : Type 0 where
  pub owned : (n : ℕ) (c : Command Op) → In c (handed n) → owner c.key.session ≡ n
  pub one : (n : ℕ) (c d : Command Op) → In c (handed n) → In d (handed n) → c.key ≡ d.key → c ≡ d

-- All show the one world, where only what was handed in at its session's owner is submitted, and where all that clients
-- saw happened.
pub record ShowHosts {O Op Reply : Type 0} (rules : Rules O Op Reply) (owner : ℕ → ℕ)
    (k : Hosts Op O Reply) (w : World Op Reply) : Type 0 where
  pub is : IsWorld rules w
  pub members : w.cluster.members ≡ k.members
  pub hosts : (n : ℕ) → is_member k.members n ≡ true → ShowsHost rules (k.host n) n w.cluster
  pub envelopes : (p : Envelope (Command Op)) → In p k.envelopes → IsEnvelopeOf p w.cluster
  pub snapshots : (slot : ℕ) (object : Filtered O) → In (slot, object) k.snapshots → IsSnapshot rules slot object w
  pub stored : (n : ℕ) → is_member k.members n ≡ true → IsStored (k.stored n) n w.cluster
  pub low : (n : ℕ) → (k.stored n).base ≤ (k.host n).base
  pub handed : IsHandedIn owner k.handed
  pub submitted :
      (s : Submission Op) → In s w.happenings.submitted → In s.command (k.handed (owner s.command.key.session))
  pub happenings : IsPartOf k.happenings w.happenings
  pub taken : w.taken ≤ total_events k
