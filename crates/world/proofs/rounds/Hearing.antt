-- What becomes of a letter, by its body.
use Rattle.std.proofs.Common.{◌≡◌, ℕ, List, [], ◌∷◌, Option, Some, refl, subst}
use Rattle.std.specs.Prelude.{slice_get}
use Rattle.object.specs.declared.command.Command.{Command}
use Rattle.object.specs.Objects.{Rules}
use Rattle.ballot.specs.Ballots.{Numbers, higher}
use Rattle.ballot.specs.Letters.{letter, all_to_all}
use Rattle.ballot.specs.Slots.{Slots}
use Rattle.ballot.specs.declared.pvalue.Pvalue.{Pvalue}
use Rattle.ballot.specs.declared.letter.LetterBody.TheVariants.{P1a, P1b, P2a, P2b}
use Rattle.ballot.specs.declared.letter.Letter.{Letter}
use Rattle.acceptor.specs.Acceptors.{after_p1a, after_p2a}
use Rattle.acceptor.specs.Reports.{IsReport}
use Rattle.leader.specs.Promises.{Hears}
use Rattle.leader.specs.Promises as promises
use Rattle.leader.specs.Votes as votes
use Rattle.node.specs.Nodes.{NodeState}
use Rattle.node.specs.Deeds.{led}
use Rattle.node.specs.Receiving.{Receives, promises_ballot, accepts_pvalue, hears_promise, hears_vote}
use Rattle.agreement.specs.Nodes.{node, turned}
use Rattle.agreement.specs.Worlds.{World}
use Rattle.agreement.specs.Steps.{Step, deliver, counted, with_cluster}
use Rattle.agreement.specs.declared.event.Event.TheVariants as events

-- the letter was received, and counted
pub record HasReceived {Op Reply : Type 0} (w v : World Op Reply) (l : Letter (Command Op)) : Type 0 where
  pub state : NodeState (Command Op)
  pub sent : List (Letter (Command Op))
  pub receives : Receives w.cluster.members l.«from» l.to (node w.cluster l.to) l.body state sent
  pub is : v ≡ counted (with_cluster w (turned w.cluster l.to state sent))

pub received : {O Op Reply : Type 0} (rules : Rules O Op Reply) (w v : World Op Reply) (i : ℕ) (l : Letter (Command Op))
    → slice_get w.cluster.letters i ≡ Some l → Step rules w (events.Deliver i) v → HasReceived w v l
received rules w v i l at (deliver j m x out there receives) =
    let same : m ≡ l = (cc) in
    subst (λ y. HasReceived w (counted (with_cluster w (turned w.cluster m.to x out))) y) same
    (record { state = x; sent = out; receives = receives; is = refl })

module _ {C : Type 0} (members : List ℕ) (m n : ℕ) (x : NodeState C) where
  pub p1a_received : (b : Numbers) (y : NodeState C) (out : List (Letter C)) → Receives members m n x (P1a b) y out
      → (report : List (Pvalue C)) × IsReport x.acceptor.accepted report
      × (y ≡ record x { acceptor = after_p1a x.acceptor b })
      × (out ≡ letter n (P1b (higher x.acceptor.promised b) report) m ∷ [])
  p1a_received b _ _ (promises_ballot c report is) = (report, is, refl, refl)

  pub p2a_received : (p : Pvalue C) (y : NodeState C) (out : List (Letter C)) → Receives members m n x (P2a p) y out
      → (y ≡ record x { acceptor = after_p2a x.acceptor p }) × (out ≡ letter n (P2b x.acceptor.promised p.slot p.ballot) m ∷ [])
  p2a_received p _ _ (accepts_pvalue q) = (refl, refl)

  pub p1b_received : (b : Numbers) (report : List (Pvalue C)) (y : NodeState C) (out : List (Letter C)) → Receives members m n x (P1b b report) y out
      → (fresh : List (Pvalue C)) × (taken : Slots C) × Hears x.leader m b report fresh taken
      × (y ≡ led x (promises.on_p1b x.leader m b fresh taken))
      × (out ≡ all_to_all members n (promises.on_p1b x.leader m b fresh taken).says)
  p1b_received b report _ _ (hears_promise c r fresh taken hears) = (fresh, taken, hears, refl, refl)

  pub p2b_received : (o : Option Numbers) (s : ℕ) (by : Numbers) (y : NodeState C) (out : List (Letter C)) → Receives members m n x (P2b o s by) y out
      → (y ≡ led x (votes.on_p2b x.leader m o s by)) × (out ≡ all_to_all members n (votes.on_p2b x.leader m o s by).says)
  p2b_received o s by _ _ (hears_vote c t d) = (refl, refl)
