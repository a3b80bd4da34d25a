-- One event of worlds that are alike.
use Rattle.std.proofs.Common.{◌≡◌, ℕ, List, [], Some, None, Option, refl, subst}
use Rattle.object.specs.declared.command.Command.{Command}
use Rattle.object.specs.Objects.{Rules, is_one}
use Rattle.object.specs.Lists.{In}
use Rattle.object.specs.ListLaws.{Each-at, In-get}
use Rattle.ballot.specs.Ballots.{Numbers}
use Rattle.ballot.specs.Letters.{letter, all_to_all}
use Rattle.ballot.specs.OrderLaws.{BallotLaws}
use Rattle.ballot.specs.declared.pvalue.Pvalue.{Pvalue}
use Rattle.ballot.specs.declared.letter.Letter.{Letter}
use Rattle.ballot.specs.declared.letter.LetterBody.TheVariants.{P1b, P2a}
use Rattle.scout_commander.specs.Scouts.{Scouting}
use Rattle.slot_log.specs.Books.{SlotBook}
use Rattle.slot_log.specs.Requests.{requested}
use Rattle.slot_log.specs.Proposals.{next_proposal, proposed_next}
use Rattle.slot_log.specs.Decisions.{next_decided}
use Rattle.slot_log.specs.Advances.{advanced}
use Rattle.replica.specs.Replicas.{proposes_first}
use Rattle.node.specs.Nodes.{NodeState}
use Rattle.node.specs.Receiving.{Receives}
use Rattle.agreement.specs.declared.event.Event.{Event}
use Rattle.agreement.specs.Nodes.{Cluster, node, turned}
use Rattle.agreement.specs.Worlds.{World}
use Rattle.agreement.specs.Steps.{Step, submit, deliver, wake, nudge, propose, perform, restart, after_performing, counted, with_cluster}
use Rattle.world.specs.Alike.{InPairs, IsAlikeNode, IsAlikeLetter, IsAlike, same_letter, but_report}
use Rattle.agreement.proofs.chosen.Invariants.{Asked, IsTrueOf, IsFair, IsSound}
use Rattle.world.proofs.alike.AlikePairs.{InPairs-get, InPairs-append, InPairs-first}
use Rattle.world.proofs.alike.AlikePromises.{ScoutAsked}
use Rattle.world.proofs.alike.AlikeNodes.{IsAlikeTurn, node_alike, put_alike, replica_same, replica_alike, wakes_alike}
use Rattle.world.proofs.alike.AlikeNodes.{nudged_alike, restarted_alike, received_alike}

-- a P2a of the one cluster is a P2a of the other
asked_letter : {C : Type 0} (l k : Letter C) → IsAlikeLetter l k → (p : Pvalue C) → k.body ≡ P2a p → l.body ≡ P2a p
asked_letter l k (same_letter j) p e = e
asked_letter l k (but_report n m b ps qs alike) p e = absurd (cc)

asked_alike : {C : Type 0} (letters others : List (Letter C)) → InPairs IsAlikeLetter letters others → (p : Pvalue C) → Asked others p → Asked letters p
asked_alike letters others h p a =
    let f = InPairs-first IsAlikeLetter letters others a.0 h a.1 in (f.0, f.1, asked_letter f.0 a.0 f.2 p a.2)

module _ {C : Type 0} (k : Cluster C) (i : IsSound k) where
  -- what a scout gathered, and what a letter reports, was asked for
  scout_asked : (n : ℕ) (s : Scouting C) → (node k n).leader.scout ≡ Some s → (p : Pvalue C) → In p s.gathered → Asked k.letters p
  scout_asked n s e p at = ((i.nodes n).leader.scouting s e).gathering.sent p at

  body_asked : (l : Letter C) → In l k.letters → (b : Numbers) (report : List (Pvalue C)) → l.body ≡ P1b b report
      → (p : Pvalue C) → In p report → Asked k.letters p
  body_asked l at b report same p within = (subst (λ body. IsTrueOf k l.«from» body) same (Each-at (IsFair k) k.letters l i.letters at).says).sent p within

module _ (laws : BallotLaws) {O Op Reply : Type 0} (rules : Rules O Op Reply) (w : World Op Reply)
    (nodes : List (NodeState (Command Op))) (letters : List (Letter (Command Op))) where
  -- the world with other nodes and letters
  abbrev other : World Op Reply
  other = record w { cluster = record w.cluster { nodes = nodes; letters = letters } }

  module _ (same_nodes : InPairs IsAlikeNode w.cluster.nodes nodes) (same_letters : InPairs IsAlikeLetter w.cluster.letters letters) where
    there : (n : ℕ) → IsAlikeNode (node w.cluster n) (node other.cluster n)
    there n = node_alike laws w.cluster.members w.cluster.nodes nodes n same_nodes

    turned_alike : (n : ℕ) (x y : NodeState (Command Op)) (out sent : List (Letter (Command Op)))
        → IsAlikeTurn x y out sent → IsAlike (counted (with_cluster w (turned w.cluster n x out)))
        (counted (with_cluster other (turned other.cluster n y sent)))
    turned_alike n x y out sent h = record {
      members = refl;
      nodes = put_alike w.cluster.nodes nodes n x y same_nodes h.state;
      letters = InPairs-append IsAlikeLetter w.cluster.letters letters out sent same_letters h.letters;
      happenings = refl;
      reach = refl;
      taken = refl;
    }

    performed_with : (n : ℕ) (book : SlotBook (Command Op)) (o : Option (Command Op))
        → (node w.cluster n).replica ≡ book
        → IsAlike (counted (after_performing rules w n book o)) (counted (after_performing rules other n book o))
    performed_with n book None e = record { members = refl; nodes = same_nodes; letters = same_letters; happenings = refl; reach = refl; taken = refl }
    performed_with n book (Some c) e =
        let t = replica_alike (λ b. advanced (is_one rules) book) (λ b. []) (node w.cluster n) (node other.cluster n) (there n) in
        let h = turned_alike n (record (node w.cluster n) { replica = advanced (is_one rules) book })
        (record (node other.cluster n) { replica = advanced (is_one rules) book }) [] [] t in
        record { members = refl; nodes = h.nodes; letters = h.letters; happenings = refl; reach = refl; taken = refl }

    performs_alike : (n : ℕ) → IsAlike
        (counted (after_performing rules w n (node w.cluster n).replica (next_decided (node w.cluster n).replica)))
        (counted (after_performing rules other n (node other.cluster n).replica
        (next_decided (node other.cluster n).replica)))
    performs_alike n =
        subst
        (λ (b : SlotBook (Command Op)). IsAlike
        (counted (after_performing rules w n (node w.cluster n).replica (next_decided (node w.cluster n).replica)))
        (counted (after_performing rules other n b (next_decided b))))
        (replica_same (node w.cluster n) (node other.cluster n) (there n))
        (performed_with n (node w.cluster n).replica (next_decided (node w.cluster n).replica) refl)

    module _ (i : IsSound w.cluster) (j : IsSound other.cluster) where
      abbrev Known : Pvalue (Command Op) → Type 0
      Known p = Asked w.cluster.letters p

      scout_known : (n : ℕ) → ScoutAsked Known (node w.cluster n).leader
      scout_known n s e p at = scout_asked w.cluster i n s e p at

      scout_known_other : (n : ℕ) → ScoutAsked Known (node other.cluster n).leader
      scout_known_other n s e p at = asked_alike w.cluster.letters letters same_letters p (scout_asked other.cluster j n s e p at)

      received_there : (n : ℕ) (l k : Letter (Command Op)) → IsAlikeLetter l k → In l w.cluster.letters → In k letters
          → (x y : NodeState (Command Op)) (out sent : List (Letter (Command Op)))
          → Receives w.cluster.members l.«from» l.to (node w.cluster n) l.body x out
          → Receives w.cluster.members k.«from» k.to (node other.cluster n) k.body y sent → IsAlikeTurn x y out sent
      received_there n l k alike at_l at_k x y out sent r t =
          received_alike laws Known i.unique w.cluster.members (node w.cluster n) (node other.cluster n) (there n)
          (scout_known n) (scout_known_other n) l k alike
          (body_asked w.cluster i l at_l)
          (λ b report e p within. asked_alike w.cluster.letters letters same_letters p (body_asked other.cluster j k at_k b report e p within))
          x y out sent r t

      delivered_alike : (l k : Letter (Command Op)) → IsAlikeLetter l k → In l w.cluster.letters → In k letters
          → (x y : NodeState (Command Op)) (out sent : List (Letter (Command Op)))
          → Receives w.cluster.members l.«from» l.to (node w.cluster l.to) l.body x out
          → Receives w.cluster.members k.«from» k.to (node other.cluster k.to) k.body y sent
          → IsAlike (counted (with_cluster w (turned w.cluster l.to x out)))
          (counted (with_cluster other (turned other.cluster k.to y sent)))
      delivered_alike l k (same_letter z) at_l at_k x y out sent r t =
          turned_alike z.to x y out sent (received_there z.to z z (same_letter z) at_l at_k x y out sent r t)
      delivered_alike l k (but_report n m b ps qs alike) at_l at_k x y out sent r t =
          turned_alike m x y out sent (received_there m (letter n (P1b b ps) m) (letter n (P1b b qs) m)
          (but_report n m b ps qs alike) at_l at_k x y out sent r t)

      pub event_alike : (e : Event Op) (v u : World Op Reply) → Step rules w e v → Step rules other e u → IsAlike v u
      event_alike e v u (submit n c member own) (submit m d member' own') =
          let t = replica_alike (λ b. requested (is_one rules) b c) (λ b. []) (node w.cluster n) (node other.cluster n) (there n) in
          let h = turned_alike n _ _ [] [] t in
          record { members = refl; nodes = h.nodes; letters = h.letters; happenings = refl; reach = refl; taken = refl }
      event_alike e v u (deliver p l x out at r) (deliver q k y sent at' t) =
          delivered_alike l k (InPairs-get IsAlikeLetter w.cluster.letters letters p l k same_letters at at')
          (In-get w.cluster.letters p l at) (In-get letters p k at') x y out sent r t
      event_alike e v u (wake n member) (wake m member') =
          turned_alike n _ _ _ _ (wakes_alike laws w.cluster.members n (node w.cluster n) (node other.cluster n)
          (there n))
      event_alike e v u (nudge n member) (nudge m member') =
          turned_alike n _ _ _ _ (nudged_alike laws w.cluster.members n (node w.cluster n) (node other.cluster n)
          (there n))
      event_alike e v u (propose n member) (propose m member') =
          turned_alike n _ _ _ _ (replica_alike proposed_next
          (λ b. all_to_all w.cluster.members n (proposes_first (next_proposal b))) (node w.cluster n)
          (node other.cluster n) (there n))
      event_alike e v u (perform n member) (perform m member') = performs_alike n
      event_alike e v u (restart n member) (restart m member') =
          turned_alike n _ _ _ _ (restarted_alike laws w.cluster.members n (node w.cluster n) (node other.cluster n)
          (there n))
