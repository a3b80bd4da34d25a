-- Rounds and boots grow by at most one with each event: so there is always a next ballot.
use Rattle.std.proofs.Common.{◌≡◌, ◌≢◌, ⊎_elim, ℕ, ◌+◌, ◌≤◌, Bool, true, false, cond, List, [], ◌∷◌, map, filter, Some}
use Rattle.std.proofs.Common.{None, Option, refl, sym, ap, subst, arith}
use Rattle.std.specs.Prelude.{◌==◌, not, nat_le, ⊤, ◌^◌}
use Rattle.std.specs.FinMap.{entries, empty, insert}
use Rattle.std.proofs.lemmas.Bool.{cases_eq}
use Rattle.object.specs.declared.command.Command.{Command}
use Rattle.ballot.specs.Ballots.{Numbers, is_below, higher, is_same, next_after}
use Rattle.ballot.specs.Members.{is_member, numbers, add, is_majority}
use Rattle.ballot.specs.Letters.{letter, all_to_all}
use Rattle.ballot.specs.declared.pvalue.Pvalue.{Pvalue}
use Rattle.ballot.specs.declared.letter.LetterBody.{LetterBody}
use Rattle.ballot.specs.declared.letter.Letter.{Letter}
use Rattle.ballot.specs.declared.letter.LetterBody.TheVariants.{P1a, P1b, P2a, P2b, Propose, Decision, Ask}
use Rattle.scout_commander.specs.Scouts.{Scouting, Hearing, new_scout, gathers, unmoved}
use Rattle.scout_commander.specs.declared.scout.Heard.TheVariants.{Wait, Adopted, Preempted}
use Rattle.scout_commander.specs.Commanders.{Commanding, Voting, counts, votes}
use Rattle.scout_commander.specs.declared.commander.Voted.TheVariants.{Wait as VoteWaits, Decided}
use Rattle.ballot.specs.Slots.{Slots}
use Rattle.leader.specs.Leaders.{Leading, Done, silently, pvalue, woken, preempted, commands, on_propose, scout_says, says_again}
use Rattle.leader.specs.Adoptions.{adopted}
use Rattle.leader.specs.Promises.{at_heard, at_scout}
use Rattle.leader.specs.Promises as promises
use Rattle.leader.specs.Votes.{at_voted, at_commander, answers_another}
use Rattle.leader.specs.Votes as votes_of
use Rattle.slot_log.specs.Books.{SlotBook}
use Rattle.slot_log.specs.Proposals.{next_proposal}
use Rattle.slot_log.specs.Decisions.{decided_from, next_decided}
use Rattle.replica.specs.Replicas.{proposes_first, tells, proposes_again, asks_others, nudges}
use Rattle.agreement.specs.declared.event.Event.{Event}
use Rattle.object.specs.Objects.{Rules}
use Rattle.node.specs.Nodes.{NodeState, restarted}
use Rattle.agreement.specs.Nodes.{Cluster, node, turned}
use Rattle.agreement.specs.Worlds.{World, opening}
use Rattle.agreement.specs.Steps.{Step, submit, deliver, wake, nudge, propose, perform, restart, after_performing}
use Rattle.node.specs.Receiving.{Receives, promises_ballot, accepts_pvalue, hears_promise, hears_vote, hears_proposal, learns, tells_decisions}
use Rattle.node.specs.Deeds.{said_again}
use Rattle.agreement.specs.Runs.{Leads, at_once, after, IsReachable}
use Rattle.object.specs.ListLaws.{Each, Each-at, Each-append, Each-weaker, Each-map, Each-all, In-get}
use Rattle.ballot.specs.OrderLaws.{BallotLaws}
use Rattle.agreement.proofs.chosen.Invariants.{IsFair, IsSound}
use Rattle.agreement.proofs.chosen.Turns.{here, there}
use Rattle.agreement.proofs.chosen.Good.{Each-to_all}
use Rattle.agreement.proofs.chosen.Reach.{opened_at, leads_sound, opening_sound}

-- the ballots in it are of no round above r
abbrev pub BodyWithin : {C : Type 0} → ℕ → LetterBody C → Type 0
BodyWithin r (P1a b) = b.round ≤ r
BodyWithin r (P1b b report) = b.round ≤ r
BodyWithin r (P2a p) = ⊤
BodyWithin r (P2b o s by) = (b : Numbers) → o ≡ Some b → b.round ≤ r
BodyWithin r (Propose s c) = ⊤
BodyWithin r (Decision s c) = ⊤
BodyWithin r (Ask s) = ⊤

pub record NodeWithin {C : Type 0} (r : ℕ) (x : NodeState C) : Type 0 where
  pub boot : x.boot ≤ r
  pub leader : x.leader.ballot.round ≤ r
  pub promised : (b : Numbers) → x.acceptor.promised ≡ Some b → b.round ≤ r

pub record IsWithin {C : Type 0} (r : ℕ) (k : Cluster C) : Type 0 where
  pub nodes : (n : ℕ) → NodeWithin r (node k n)
  pub letters : Each (λ l. BodyWithin r l.body) k.letters

body_more : {C : Type 0} (r : ℕ) (body : LetterBody C) → BodyWithin r body → BodyWithin (r + 1) body
body_more r (P1a b) h = omega arith
body_more r (P1b b report) h = omega arith
body_more r (P2a p) h = tt
body_more r (P2b o s by) h = λ b e. let q = h b e in omega arith
body_more r (Propose s c) h = tt
body_more r (Decision s c) h = tt
body_more r (Ask s) h = tt

node_more : {C : Type 0} (r : ℕ) (x : NodeState C) → NodeWithin r x → NodeWithin (r + 1) x
node_more r x h = record {
  boot = let q = h.boot in omega arith;
  leader = let q = h.leader in omega arith;
  promised =
      λ b e. let q = h.promised b e in omega arith;
}

pub within_more : {C : Type 0} (r : ℕ) (k : Cluster C) → IsWithin r k → IsWithin (r + 1) k
within_more r k h = record {
  nodes = λ n. node_more r (node k n) (h.nodes n);
  letters = Each-weaker (λ l. BodyWithin r l.body) (λ l. BodyWithin (r + 1) l.body) (λ l q. body_more r l.body q) k.letters h.letters;
}

-- what a leader does keeps within
record Bounded {C : Type 0} (r : ℕ) (d : Done (Leading C) C) : Type 0 where
  pub round : d.state.ballot.round ≤ r + 1
  pub says : Each (BodyWithin (r + 1)) d.says

module _ {C : Type 0} (r : ℕ) (l : Leading C) (h : l.ballot.round ≤ r) where
  low_now : l.ballot.round ≤ r + 1
  low_now = omega arith

  silent_bounded : (z : Leading C) → z.ballot ≡ l.ballot → Bounded r (silently z)
  silent_bounded z same = record { round = let e = ap (λ b. b.round) same in omega arith; says = tt }

  bounded_if : (d e : Done (Leading C) C) (test : Bool) → (test ≡ true → Bounded r d) → (test ≡ false → Bounded r e) → Bounded r (cond test d e)
  bounded_if d e true on off = on refl
  bounded_if d e false on off = off refl

  woken_bounded : Bounded r (woken l)
  woken_bounded = bounded_if wakes (silently l) _ (λ e. record { round = low_now; says = (low_now, tt) }) (λ e. silent_bounded l refl)
    where
      wakes : Done (Leading C) C
      wakes = record { state = record l { scout = Some (new_scout l.members l.ballot) }; says = P1a l.ballot ∷ [] }

  preempted_if : (b : Numbers) → b.round ≤ r → (test : Bool)
      → Bounded r (silently (cond test
      (record l { ballot = next_after b l.ballot.node l.ballot.boot; active = false; scout = None; commanders = empty })
      l))
  preempted_if b low true = record { round = omega arith; says = tt }
  preempted_if b low false = silent_bounded l refl

  preempted_bounded : (b : Numbers) → b.round ≤ r → Bounded r (silently (preempted l b))
  preempted_bounded b low = preempted_if b low (is_below l.ballot b)

  adopted_bounded : (taken : Slots C) → Bounded r (adopted l taken)
  adopted_bounded taken = record {
    round = omega arith;
    says = Each-map (BodyWithin (r + 1)) (λ e. P2a (pvalue l.ballot e.0 e.1)) (entries taken) (Each-all _ (entries taken) (λ e. tt));
  }

  abbrev AtHearing : Slots C → Hearing C → Type 0
  AtHearing taken v = Bounded r (at_heard l taken v.scout v.says)

  hearing_if : (taken : Slots C) (test : Bool) (v w : Hearing C) → AtHearing taken v → AtHearing taken w → AtHearing taken (cond test v w)
  hearing_if taken true v w on off = on
  hearing_if taken false v w on off = off

  heard_if : (taken : Slots C) (s : Scouting C) (test : Bool) → Bounded r (at_heard l taken s (cond test Adopted Wait))
  heard_if taken s true = adopted_bounded taken
  heard_if taken s false = silent_bounded _ refl

  at_scout_bounded : (m : ℕ) (b : Numbers) (report : List (Pvalue C)) (taken : Slots C) → b.round ≤ r
      → (o : Option (Scouting C)) → Bounded r (at_scout l m b report taken o)
  at_scout_bounded m b report taken low None = silent_bounded l refl
  at_scout_bounded m b report taken low (Some s) =
      hearing_if taken (is_member s.members m) _ _
      (hearing_if taken (is_same b s.ballot) (gathers s m report) _ (heard_if taken (gathers s m report).scout (is_majority s.members (add s.heard m)))
      (hearing_if taken (is_below s.ballot b) (unmoved s (Preempted b)) (unmoved s Wait) (preempted_bounded b low) (silent_bounded _ refl)))
      (silent_bounded _ refl)

  p1b_bounded : (m : ℕ) (b : Numbers) (report : List (Pvalue C)) (taken : Slots C) → b.round ≤ r → Bounded r (promises.on_p1b l m b report taken)
  p1b_bounded m b report taken low = at_scout_bounded m b report taken low l.scout

  abbrev AtVoting : ℕ → Voting C → Type 0
  AtVoting s v = Bounded r (at_voted l s v.commander v.says)

  voting_if : (s : ℕ) (test : Bool) (v w : Voting C) → AtVoting s v → AtVoting s w → AtVoting s (cond test v w)
  voting_if s true v w on off = on
  voting_if s false v w on off = off

  voted_if : (s : ℕ) (c : Commanding C) (test : Bool) → Bounded r (at_voted l s c (cond test Decided VoteWaits))
  voted_if s c true = record { round = omega arith; says = (tt, tt) }
  voted_if s c false = silent_bounded _ refl

  votes_bounded : (m : ℕ) (o : Option Numbers) (s : ℕ) (c : Commanding C) → ((b : Numbers) → o ≡ Some b → b.round ≤ r) → AtVoting s (votes c m o)
  votes_bounded m None s c low = silent_bounded _ refl
  votes_bounded m (Some b) s c low =
      voting_if s (is_same b c.pvalue.ballot) (counts c m) _ (voted_if s (counts c m).commander (is_majority c.members (add c.heard m)))
      (voting_if s (is_below c.pvalue.ballot b) _ _ (preempted_bounded b (low b refl)) (silent_bounded _ refl))

  at_commander_bounded : (m : ℕ) (b : Option Numbers) (s : ℕ) → ((y : Numbers) → b ≡ Some y → y.round ≤ r)
      → (o : Option (Commanding C)) → Bounded r (at_commander l m b s o)
  at_commander_bounded m b s low None = silent_bounded l refl
  at_commander_bounded m b s low (Some c) = voting_if s (is_member c.members m) _ _ (votes_bounded m b s c low) (silent_bounded _ refl)

  p2b_bounded : (m : ℕ) (b : Option Numbers) (s : ℕ) (by : Numbers) → ((y : Numbers) → b ≡ Some y → y.round ≤ r) → Bounded r (votes_of.on_p2b l m b s by)
  p2b_bounded m b s by low = bounded_if (silently l) _ (answers_another l b by) (λ e. silent_bounded l refl)
      (λ e. at_commander_bounded m b s low (Rattle.std.specs.FinMap.get l.commanders s))

  proposed_bounded : (s : ℕ) (c : C) → Bounded r (on_propose l s c)
  proposed_bounded s c =
      bounded_if (silently l) _ _ (λ e. silent_bounded l refl)
      (λ e. bounded_if (commands l s c) _ l.active (λ f. record { round = low_now; says = (tt, tt) }) (λ f. silent_bounded _ refl))

promised_more : (r : ℕ) (o : Option Numbers) (b : Numbers) → ((y : Numbers) → o ≡ Some y → y.round ≤ r) → b.round ≤ r → (higher o b).round ≤ r
promised_more r None b h low = low
promised_more r (Some y) b h low = at (is_below y b)
  where
    at : (test : Bool) → (cond test b y).round ≤ r
    at true = low
    at false = h y refl

module _ (laws : BallotLaws) {C : Type 0} (k : Cluster C) (i : IsSound k) (r : ℕ) (w : IsWithin r k) where
  module _ (n : ℕ) (member : is_member k.members n ≡ true) (x : NodeState C) (out : List (Letter C))
      (fine : NodeWithin (r + 1) x) (sent : Each (λ l. BodyWithin (r + 1) l.body) out) where
    now_node : (m : ℕ) → NodeWithin (r + 1) (node (turned k n x out) m)
    now_node m = ⊎_elim
        (λ (e : m ≡ n). subst (λ z. NodeWithin (r + 1) (node (turned k n x out) z)) (sym e)
        (subst (NodeWithin (r + 1)) (sym (here laws k i n member x out)) fine))
        (λ (apart : m ≢ n). subst (NodeWithin (r + 1)) (sym (there laws k i n member x out m apart)) (node_more r (node k m) (w.nodes m)))
        (cases_eq m n)

    turn_within : IsWithin (r + 1) (turned k n x out)
    turn_within = record {
      nodes = now_node;
      letters = Each-append (λ l. BodyWithin (r + 1) l.body) k.letters out (within_more r k w).letters sent;
    }

  module _ (n : ℕ) (member : is_member k.members n ≡ true) where
    said : (bodies : List (LetterBody C)) → Each (BodyWithin (r + 1)) bodies → Each (λ l. BodyWithin (r + 1) l.body) (all_to_all k.members n bodies)
    said bodies h = Each-to_all (λ l. BodyWithin (r + 1) l.body) k.members n bodies (λ b at m to. Each-at (BodyWithin (r + 1)) bodies b h at)

    old : NodeWithin (r + 1) (node k n)
    old = node_more r (node k n) (w.nodes n)

    leader_within : (d : Done (Leading C) C) → Bounded r d
        → IsWithin (r + 1) (turned k n (record (node k n) { leader = d.state }) (all_to_all k.members n d.says))
    leader_within d b = turn_within n member _ _ (record { boot = old.boot; leader = b.round; promised = old.promised }) (said d.says b.says)

    replica_within : (book : SlotBook C) (out : List (Letter C)) → Each (λ l. BodyWithin (r + 1) l.body) out
        → IsWithin (r + 1) (turned k n (record (node k n) { replica = book }) out)
    replica_within book out h = turn_within n member _ out (record { boot = old.boot; leader = old.leader; promised = old.promised }) h

    receive_within : (m : ℕ) (body : LetterBody C) → BodyWithin r body → (x : NodeState C) (out : List (Letter C))
        → Receives k.members m n (node k n) body x out → IsWithin (r + 1) (turned k n x out)
    receive_within m body low x out (promises_ballot b report is) =
        let top = promised_more r (node k n).acceptor.promised b (w.nodes n).promised low in
        turn_within n member _ _
        (record {
          boot = old.boot;
          leader = old.leader;
          promised =
              λ y e. subst (λ (q : Option Numbers). q ≡ Some y → y.round ≤ r + 1) refl
              (λ f. let g = ap round_of f in omega arith) e;
        })
        (omega arith, tt)
      where
        round_of : Option Numbers → ℕ
        round_of None = 0
        round_of (Some y) = y.round
    receive_within m body low x out (accepts_pvalue p) =
        turn_within n member _ _ (record { boot = old.boot; leader = old.leader; promised = old.promised }) ((λ b e. old.promised b e), tt)
    receive_within m body low x out (hears_promise b report fresh taken may) =
        leader_within _ (p1b_bounded r (node k n).leader (w.nodes n).leader m b fresh taken low)
    receive_within m body low x out (hears_vote b s by) = leader_within _ (p2b_bounded r (node k n).leader (w.nodes n).leader m b s by low)
    receive_within m body low x out (hears_proposal s c) = leader_within _ (proposed_bounded r (node k n).leader (w.nodes n).leader s c)
    receive_within m body low x out (learns s c) = replica_within _ [] tt
    receive_within m body low x out (tells_decisions s) =
        turn_within n member (node k n) _ old
        (Each-map (λ l. BodyWithin (r + 1) l.body) (λ b. letter n b m) (tells (node k n).replica s)
        (Each-map (BodyWithin (r + 1)) (λ e. Decision e.0 e.1) (decided_from (node k n).replica s) (Each-all _ (decided_from (node k n).replica s) (λ e. tt))))

    scout_within : (o : Option (Scouting C)) → (node k n).leader.scout ≡ o → Each (BodyWithin {C = C} (r + 1)) (scout_says o)
    scout_within None e = tt
    scout_within (Some s) e = let same = ap (λ b. b.round) ((i.nodes n).leader.scouting s e).own.ballot in let low = (w.nodes n).leader in (omega arith, tt)

    asks_if : (s : ℕ) (test : Bool)
        → Each (λ (l : Letter C). BodyWithin (r + 1) l.body)
        (cond test (map (letter n (Ask s)) (filter (λ m. not (m == n)) (numbers k.members))) [])
    asks_if s true = Each-map (λ l. BodyWithin (r + 1) l.body) (letter n (Ask s))
        (filter (λ m. not (m == n)) (numbers k.members))
        (Each-all _ (filter (λ m. not (m == n)) (numbers k.members)) (λ m. tt))
    asks_if s false = tt

    nudge_within : IsWithin (r + 1) (turned k n (node k n) (said_again k.members n (node k n)))
    nudge_within =
        turn_within n member (node k n) (said_again k.members n (node k n)) old
        (Each-append (λ l. BodyWithin (r + 1) l.body) (all_to_all k.members n (says_again (node k n).leader)) (nudges k.members n (node k n).replica)
        (said (says_again (node k n).leader)
        (Each-append (BodyWithin (r + 1)) (scout_says (node k n).leader.scout) (map (λ e. P2a e.1.pvalue) (entries (node k n).leader.commanders))
        (scout_within (node k n).leader.scout refl)
        (Each-map (BodyWithin (r + 1)) (λ e. P2a e.1.pvalue) (entries (node k n).leader.commanders)
        (Each-all _ (entries (node k n).leader.commanders) (λ e. tt)))))
        (Each-append (λ l. BodyWithin (r + 1) l.body) (all_to_all k.members n (proposes_again (node k n).replica))
        (asks_others k.members n (node k n).replica.slot_out)
        (said (proposes_again (node k n).replica)
        (Each-map (BodyWithin (r + 1)) (λ e. Propose e.0 e.1) (entries (node k n).replica.proposals)
        (Each-all _ (entries (node k n).replica.proposals) (λ e. tt))))
        (asks_if (node k n).replica.slot_out (nat_le (node k n).replica.slot_out (2 ^ 62)))))

    restart_within : IsWithin (r + 1) (turned k n (restarted k.members n (node k n)) [])
    restart_within = turn_within n member _ [] (record { boot = let q = (w.nodes n).boot in omega arith; leader = omega arith; promised = old.promised }) tt

    asked_within : (o : Option (ℕ × C)) → Each (BodyWithin (r + 1)) (proposes_first o)
    asked_within None = tt
    asked_within (Some p) = (tt, tt)

module _ (laws : BallotLaws) {O Op Reply : Type 0} (rules : Rules O Op Reply) where
  performs_within : (w : World Op Reply) → IsSound w.cluster → IsWithin w.taken w.cluster → (n : ℕ)
      → is_member w.cluster.members n ≡ true → (o : Option (Command Op))
      → IsWithin ((after_performing rules w n (node w.cluster n).replica o).taken + 1)
      (after_performing rules w n (node w.cluster n).replica o).cluster
  performs_within w i h n member None = within_more w.taken w.cluster h
  performs_within w i h n member (Some c) = replica_within laws w.cluster i w.taken h n member _ [] tt

  pub step_within : (w : World Op Reply) (e : Event Op) (u : World Op Reply) → IsSound w.cluster
      → IsWithin w.taken w.cluster → Step rules w e u → IsWithin u.taken u.cluster
  step_within w e u i h (submit n c member own) = replica_within laws w.cluster i w.taken h n member _ [] tt
  step_within w e u i h (deliver j l x out at receives) =
      let within = In-get w.cluster.letters j l at in
      receive_within laws w.cluster i w.taken h l.to
      (Each-at (IsFair w.cluster) w.cluster.letters l i.letters within).receiver l.«from» l.body
      (Each-at (λ l. BodyWithin w.taken l.body) w.cluster.letters l h.letters within) x out receives
  step_within w e u i h (wake n member) =
      leader_within laws w.cluster i w.taken h n member _
      (woken_bounded w.taken (node w.cluster n).leader (h.nodes n).leader)
  step_within w e u i h (nudge n member) = nudge_within laws w.cluster i w.taken h n member
  step_within w e u i h (propose n member) =
      replica_within laws w.cluster i w.taken h n member _ _
      (said laws w.cluster i w.taken h n member _
      (asked_within laws w.cluster i w.taken h n member (next_proposal (node w.cluster n).replica)))
  step_within w e u i h (perform n member) = performs_within w i h n member (next_decided (node w.cluster n).replica)
  step_within w e u i h (restart n member) = restart_within laws w.cluster i w.taken h n member

  opening_within : (members : List ℕ) → IsWithin 0 (opening {Op = Op} {Reply = Reply} members).cluster
  opening_within members = record {
    nodes = λ n. subst (NodeWithin 0) (sym (opened_at members n)) (record { boot = omega arith; leader = omega arith; promised = λ b e. absurd (cc) });
    letters = tt;
  }

  pub leads_within : (w u : World Op Reply) (es : List (Event Op)) → IsSound w.cluster → IsWithin w.taken w.cluster
      → Leads rules w es u → IsWithin u.taken u.cluster
  leads_within w u es i h at_once = h
  leads_within w u es i h (after {es = before} {v = v} e u' l s) =
      step_within v e u (leads_sound laws rules w v before i l).sound (leads_within w v before i h l) s

  pub reachable_within : (w : World Op Reply) → IsReachable rules w → IsWithin w.taken w.cluster
  reachable_within w r = leads_within (opening w.cluster.members) w r.0 (opening_sound (Command Op) w.cluster.members) (opening_within w.cluster.members) r.1
