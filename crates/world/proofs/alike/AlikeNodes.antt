-- What nodes that are alike make of an event: they stay alike, and so are the letters that they send.
use Rattle.std.proofs.Common.{◌≡◌, ℕ, zero, suc, List, [], ◌++◌, map, refl, ap, subst}
use Rattle.ballot.specs.Ballots.{Numbers, higher}
use Rattle.ballot.specs.Letters.{letter, all_to_all}
use Rattle.ballot.specs.OrderLaws.{BallotLaws}
use Rattle.ballot.specs.declared.pvalue.Pvalue.{Pvalue}
use Rattle.ballot.specs.declared.letter.Letter.{Letter}
use Rattle.ballot.specs.declared.letter.LetterBody.{LetterBody}
use Rattle.ballot.specs.declared.letter.LetterBody.TheVariants.{P1b, P2b}
use Rattle.acceptor.specs.Acceptors.{after_p1a, after_p2a}
use Rattle.leader.specs.Leaders.{Leading, Done, woken, on_propose}
use Rattle.leader.specs.Promises as promises
use Rattle.leader.specs.Votes as votes
use Rattle.slot_log.specs.Books.{SlotBook}
use Rattle.slot_log.specs.Decisions.{learnt}
use Rattle.replica.specs.Replicas.{tells, nudges}
use Rattle.node.specs.Nodes.{NodeState, new_node, node_in, put, restarted}
use Rattle.node.specs.Deeds.{led, said_again}
use Rattle.node.specs.Receiving.{Receives, promises_ballot, accepts_pvalue, hears_promise, hears_vote, hears_proposal, learns, tells_decisions}
use Rattle.world.specs.Alike.{InPairs, IsAlikeReport, IsAlikeLeader, IsAlikeNode, IsAlikeLetter, but_leader, same_letter, but_report}
use Rattle.world.proofs.alike.AlikePairs.{InPairs-itself, InPairs-index, InPairs-set}
use Rattle.world.proofs.alike.AlikeReports.{report_itself, reports_alike}
use Rattle.world.proofs.alike.AlikeLeaders.{IsAlikeDone, leader_itself, woken_alike, proposed_alike, vote_alike, again_alike}
use Rattle.world.proofs.alike.AlikePromises.{WasAsked, ScoutAsked, promise_alike}

pub letters_itself : {C : Type 0} (ls : List (Letter C)) → InPairs IsAlikeLetter ls ls
letters_itself ls = InPairs-itself IsAlikeLetter same_letter ls

pub same_letters : {C : Type 0} (ls ms : List (Letter C)) → ls ≡ ms → InPairs IsAlikeLetter ls ms
same_letters ls ms e = subst (InPairs IsAlikeLetter ls) e (letters_itself ls)

pub node_itself : (laws : BallotLaws) {C : Type 0} (x : NodeState C) → IsAlikeNode x x
node_itself laws x = but_leader x x.leader (leader_itself laws x.leader)

-- the nodes in one place
pub node_alike : (laws : BallotLaws) {C : Type 0} (members : List ℕ) (nodes others : List (NodeState C)) (n : ℕ)
    → InPairs IsAlikeNode nodes others → IsAlikeNode (node_in members nodes n) (node_in members others n)
node_alike laws members nodes others zero h = node_itself laws (new_node members 0)
node_alike laws members nodes others (suc i) h =
    InPairs-index IsAlikeNode nodes others i (new_node members (suc i)) (new_node members (suc i)) h
    (node_itself laws (new_node members (suc i)))

pub put_alike : {C : Type 0} (nodes others : List (NodeState C)) (n : ℕ) (x y : NodeState C)
    → InPairs IsAlikeNode nodes others → IsAlikeNode x y → InPairs IsAlikeNode (put nodes n x) (put others n y)
put_alike nodes others zero x y h a = h
put_alike nodes others (suc i) x y h a = InPairs-set IsAlikeNode nodes others i x y h a

-- what two nodes became is alike, and so are the letters that they sent
pub record IsAlikeTurn {C : Type 0} (x y : NodeState C) (out sent : List (Letter C)) : Type 0 where
  pub state : IsAlikeNode x y
  pub letters : InPairs IsAlikeLetter out sent

pub acceptor_same : {C : Type 0} (x y : NodeState C) → IsAlikeNode x y → x.acceptor ≡ y.acceptor
acceptor_same x y (but_leader z l h) = refl

pub replica_same : {C : Type 0} (x y : NodeState C) → IsAlikeNode x y → x.replica ≡ y.replica
replica_same x y (but_leader z l h) = refl

pub replica_alike : {C : Type 0} (f : SlotBook C → SlotBook C) (g : SlotBook C → List (Letter C)) (x y : NodeState C)
    → IsAlikeNode x y → IsAlikeTurn (record x { replica = f x.replica }) (record y { replica = f y.replica })
    (g x.replica) (g y.replica)
replica_alike f g x y (but_leader z l h) = record { state = but_leader (record z { replica = f z.replica }) l h; letters = letters_itself (g z.replica) }

module _ (laws : BallotLaws) {C : Type 0} (members : List ℕ) (n : ℕ) where
  led_alike : (x : NodeState C) (l : Leading C) (d e : Done (Leading C) C) → IsAlikeDone d e
      → IsAlikeTurn (led x d) (led (record x { leader = l }) e) (all_to_all members n d.says)
      (all_to_all members n e.says)
  led_alike x l d e h = record {
    state = but_leader (led x d) e.state h.state;
    letters = same_letters (all_to_all members n d.says) (all_to_all members n e.says)
        (ap (λ (bodies : List (LetterBody C)). all_to_all members n bodies) h.says);
  }

  pub wakes_alike : (x y : NodeState C) → IsAlikeNode x y
      → IsAlikeTurn (led x (woken x.leader)) (led y (woken y.leader)) (all_to_all members n (woken x.leader).says)
      (all_to_all members n (woken y.leader).says)
  wakes_alike x y (but_leader z l h) = led_alike z l (woken z.leader) (woken l) (woken_alike laws z.leader l h)

  pub nudged_alike : (x y : NodeState C) → IsAlikeNode x y → IsAlikeTurn x y (said_again members n x) (said_again members n y)
  nudged_alike x y (but_leader z l h) = record {
    state = but_leader z l h;
    letters = same_letters (said_again members n z) (said_again members n (record z { leader = l }))
        (ap (λ (bodies : List (LetterBody C)). all_to_all members n bodies ++ nudges members n z.replica)
        (again_alike laws z.leader l h));
  }

  pub restarted_alike : (x y : NodeState C) → IsAlikeNode x y → IsAlikeTurn (restarted members n x) (restarted members n y) [] []
  restarted_alike x y (but_leader z l h) = record { state = node_itself laws (restarted members n z); letters = tt }

-- what a letter reports was asked for
abbrev pub BodyAsked : {C : Type 0} → (Pvalue C → Type 0) → LetterBody C → Type 0
BodyAsked {C} asked body = (b : Numbers) (report : List (Pvalue C)) → body ≡ P1b b report → WasAsked asked report

module _ (laws : BallotLaws) {C : Type 0} (asked : Pvalue C → Type 0)
    (unique : (p q : Pvalue C) → asked p → asked q → p.ballot ≡ q.ballot → p.slot ≡ q.slot → p.value ≡ q.value)
    (members : List ℕ) where
  receives_same : (m n : ℕ) (x : NodeState C) (l : Leading C) → IsAlikeLeader x.leader l → ScoutAsked asked x.leader
      → ScoutAsked asked l → (body : LetterBody C) → BodyAsked asked body
      → (a c : NodeState C) (out sent : List (Letter C)) → Receives members m n x body a out
      → Receives members m n (record x { leader = l }) body c sent → IsAlikeTurn a c out sent
  receives_same m n x l h one other body known a c out sent (promises_ballot b ps r) (promises_ballot d qs t) = record {
    state = but_leader (record x { acceptor = after_p1a x.acceptor b }) l h;
    letters = (but_report n m (higher x.acceptor.promised b) ps qs (reports_alike x.acceptor.accepted ps qs r t), tt);
  }
  receives_same m n x l h one other body known a c out sent (accepts_pvalue p) (accepts_pvalue q) = record {
    state = but_leader (record x { acceptor = after_p2a x.acceptor p }) l h;
    letters = (same_letter (letter n (P2b x.acceptor.promised p.slot p.ballot) m), tt);
  }
  receives_same m n x l h one other body known a c out sent (hears_promise b report fs u r) (hears_promise d same gs v t) =
      led_alike laws members n x l (promises.on_p1b x.leader m b fs u) (promises.on_p1b l m b gs v)
      (promise_alike laws asked unique m b report report fs gs u v (report_itself laws report) (known b report refl)
      (known b report refl) x.leader l h one other r t)
  receives_same m n x l h one other body known a c out sent (hears_vote b s by) (hears_vote d t of) =
      led_alike laws members n x l (votes.on_p2b x.leader m b s by) (votes.on_p2b l m b s by) (vote_alike laws x.leader l h m b s by)
  receives_same m n x l h one other body known a c out sent (hears_proposal s d) (hears_proposal t e) =
      led_alike laws members n x l (on_propose x.leader s d) (on_propose l s d) (proposed_alike laws x.leader l h s d)
  receives_same m n x l h one other body known a c out sent (learns s d) (learns t e) = record {
    state = but_leader (record x { replica = learnt x.replica s d }) l h;
    letters = tt;
  }
  receives_same m n x l h one other body known a c out sent (tells_decisions s) (tells_decisions t) = record {
    state = but_leader x l h;
    letters = letters_itself (map (λ b. letter n b m) (tells x.replica s));
  }

  receives_report : (m n : ℕ) (x : NodeState C) (l : Leading C) → IsAlikeLeader x.leader l → ScoutAsked asked x.leader
      → ScoutAsked asked l → (b : Numbers) (ps qs : List (Pvalue C)) → IsAlikeReport ps qs → WasAsked asked ps
      → WasAsked asked qs → (a c : NodeState C) (out sent : List (Letter C)) → Receives members m n x (P1b b ps) a out
      → Receives members m n (record x { leader = l }) (P1b b qs) c sent → IsAlikeTurn a c out sent
  receives_report m n x l h one other b ps qs alike known_ps known_qs a c out sent (hears_promise d rs fs u r) (hears_promise e ts gs v t) =
      led_alike laws members n x l (promises.on_p1b x.leader m b fs u) (promises.on_p1b l m b gs v)
      (promise_alike laws asked unique m b ps qs fs gs u v alike known_ps known_qs x.leader l h one other r t)

  -- the receivers of letters that are alike
  pub received_alike : (x y : NodeState C) → IsAlikeNode x y → ScoutAsked asked x.leader → ScoutAsked asked y.leader
      → (l k : Letter C) → IsAlikeLetter l k → BodyAsked asked l.body → BodyAsked asked k.body
      → (a c : NodeState C) (out sent : List (Letter C)) → Receives members l.«from» l.to x l.body a out
      → Receives members k.«from» k.to y k.body c sent → IsAlikeTurn a c out sent
  received_alike x y (but_leader z t h) one other l k (same_letter j) known_l known_k a c out sent r q =
      receives_same j.«from» j.to z t h one other j.body known_l a c out sent r q
  received_alike x y (but_leader z t h) one other l k (but_report n m b ps qs alike) known_l known_k a c out sent r q =
      receives_report n m z t h one other b ps qs alike (known_l b ps refl) (known_k b qs refl) a c out sent r q
