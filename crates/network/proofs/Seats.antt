-- A node stays seated, whatever it does and receives: no leader changes its members or the node of its ballot.
use Rattle.std.proofs.Common.{◌≡◌, ◌≢◌, ⊎_elim, Bool, true, false, cond, not, ◌&&◌, ℕ, ◌-◌, ◌<◌, ◌≤◌, List, map, length}
use Rattle.std.proofs.Common.{Option, Some, None, refl, sym, ap, ◌∙◌, subst, arith}
use Rattle.std.specs.Prelude.{slice_set, is_none}
use Rattle.std.specs.List.{range_with_len}
use Rattle.std.specs.FinMap.{get, contains_key}
use Rattle.std.proofs.lemmas.Bool.{cases_eq}
use Rattle.object.specs.declared.command.Command.{Command}
use Rattle.object.specs.Objects.{Rules}
use Rattle.ballot.specs.Ballots.{Numbers, is_below}
use Rattle.ballot.specs.Members.{is_member}
use Rattle.ballot.specs.Slots.{Slots}
use Rattle.ballot.specs.declared.letter.LetterBody.{LetterBody}
use Rattle.ballot.specs.declared.letter.Letter.{Letter}
use Rattle.ballot.specs.declared.pvalue.Pvalue.{Pvalue}
use Rattle.scout_commander.specs.Scouts.{Scouting}
use Rattle.scout_commander.specs.Scouts as scouts
use Rattle.scout_commander.specs.declared.scout.Heard.{Heard}
use Rattle.scout_commander.specs.declared.scout.Heard.TheVariants as heard
use Rattle.scout_commander.specs.Commanders.{Commanding}
use Rattle.scout_commander.specs.Commanders as commanders
use Rattle.scout_commander.specs.declared.commander.Voted.{Voted}
use Rattle.scout_commander.specs.declared.commander.Voted.TheVariants as voted
use Rattle.leader.specs.Leaders.{Leading, Done, woken, preempted, on_propose}
use Rattle.leader.specs.Promises.{at_heard, at_scout}
use Rattle.leader.specs.Promises as promises
use Rattle.leader.specs.Votes.{answers_another, at_voted, at_commander}
use Rattle.leader.specs.Votes as votes
use Rattle.slot_log.specs.Decisions.{next_decided}
use Rattle.node.specs.Nodes.{NodeState, IsSeated, new_node, node_in, put}
use Rattle.node.specs.PlaceLaws.{node_put_same, node_put_other, put_at, new_in}
use Rattle.node.specs.Deeds.{acted, performing}
use Rattle.node.specs.Receiving.{Receives, promises_ballot, accepts_pvalue, hears_promise, hears_vote, hears_proposal, learns, tells_decisions}
use Rattle.node.specs.declared.deed.Deed.{Deed}
use Rattle.node.specs.declared.deed.Deed.TheVariants as deeds

-- the leader z has the members of l, and its node
pub record HasSeat {C : Type 0} (l z : Leading C) : Type 0 where
  pub members : z.members ≡ l.members
  pub node : z.ballot.node ≡ l.ballot.node

module _ {C : Type 0} (l : Leading C) where
  pub same_seat : HasSeat l l
  same_seat = record { members = refl; node = refl }

  either_state : (test : Bool) (a b : Leading C) → HasSeat l a → HasSeat l b → HasSeat l (cond test a b)
  either_state true a b h i = h
  either_state false a b h i = i

  either : (test : Bool) (a b : Done (Leading C) C) → HasSeat l a.state → HasSeat l b.state → HasSeat l (cond test a b).state
  either true a b h i = h
  either false a b h i = i

  pub woken_seat : HasSeat l (woken l).state
  woken_seat = either (not l.active && is_none l.scout) _ _ (record { members = refl; node = refl }) same_seat

  preempted_seat : (b : Numbers) → HasSeat l (preempted l b)
  preempted_seat b = either_state (is_below l.ballot b) _ _ (record { members = refl; node = refl }) same_seat

  pub proposed_seat : (s : ℕ) (c : C) → HasSeat l (on_propose l s c).state
  proposed_seat s c =
      either (contains_key l.proposals s) _ _ same_seat
      (either l.active _ _ (record { members = refl; node = refl }) (record { members = refl; node = refl }))

  heard_seat : (proposals : Slots C) (s : Scouting C) (h : Heard) → HasSeat l (at_heard l proposals s h).state
  heard_seat proposals s heard.Wait = record { members = refl; node = refl }
  heard_seat proposals s heard.Adopted = record { members = refl; node = refl }
  heard_seat proposals s (heard.Preempted b) = preempted_seat b

  scout_seat : (m : ℕ) (b : Numbers) (fresh : List (Pvalue C)) (proposals : Slots C) (o : Option (Scouting C))
      → HasSeat l (at_scout l m b fresh proposals o).state
  scout_seat m b fresh proposals None = same_seat
  scout_seat m b fresh proposals (Some s) = heard_seat proposals (scouts.on_p1b s m b fresh).scout (scouts.on_p1b s m b fresh).says

  pub promised_seat : (m : ℕ) (b : Numbers) (fresh : List (Pvalue C)) (proposals : Slots C) → HasSeat l (promises.on_p1b l m b fresh proposals).state
  promised_seat m b fresh proposals = scout_seat m b fresh proposals l.scout

  voted_seat : (s : ℕ) (c : Commanding C) (v : Voted) → HasSeat l (at_voted l s c v).state
  voted_seat s c voted.Wait = record { members = refl; node = refl }
  voted_seat s c voted.Decided = record { members = refl; node = refl }
  voted_seat s c (voted.Preempted b) = preempted_seat b

  commander_seat : (m : ℕ) (b : Option Numbers) (s : ℕ) (o : Option (Commanding C)) → HasSeat l (at_commander l m b s o).state
  commander_seat m b s None = same_seat
  commander_seat m b s (Some c) = voted_seat s (commanders.on_p2b c m b).commander (commanders.on_p2b c m b).says

  pub vote_seat : (m : ℕ) (b : Option Numbers) (s : ℕ) (asked : Numbers) → HasSeat l (votes.on_p2b l m b s asked).state
  vote_seat m b s asked = either (answers_another l b asked) _ _ same_seat (commander_seat m b s (get l.commanders s))

-- and so has the leader of a node that receives a letter
pub received_seat : {C : Type 0} (members : List ℕ) (m n : ℕ) (x : NodeState C) (body : LetterBody C) (y : NodeState C)
    (sent : List (Letter C)) → Receives members m n x body y sent → HasSeat x.leader y.leader
received_seat members m n x body y sent (promises_ballot b report r) = same_seat x.leader
received_seat members m n x body y sent (accepts_pvalue p) = same_seat x.leader
received_seat members m n x body y sent (hears_promise b report fresh taken h) = promised_seat x.leader m b fresh taken
received_seat members m n x body y sent (hears_vote b s by) = vote_seat x.leader m b s by
received_seat members m n x body y sent (hears_proposal s c) = proposed_seat x.leader s c
received_seat members m n x body y sent (learns s c) = same_seat x.leader
received_seat members m n x body y sent (tells_decisions s) = same_seat x.leader

pub seated_by : {C : Type 0} (members : List ℕ) (n : ℕ) (x y : NodeState C) → IsSeated members n x → HasSeat x.leader y.leader → IsSeated members n y
seated_by members n x y at same = record { member = at.member; speaks = same.members ∙ at.speaks; node = same.node ∙ at.node }

-- a node that does something
module _ {O Op Reply : Type 0} (rules : Rules O Op Reply) (members : List ℕ) (n : ℕ) (x : NodeState (Command Op)) (at : IsSeated members n x) where
  performing_seat : (o : Option (Command Op)) → HasSeat x.leader (performing rules x o).state.leader
  performing_seat None = same_seat x.leader
  performing_seat (Some c) = same_seat x.leader

  acted_seat : (d : Deed Op) → HasSeat x.leader (acted rules members n x d).state.leader
  acted_seat (deeds.Request c) = same_seat x.leader
  acted_seat deeds.Wake = woken_seat x.leader
  acted_seat deeds.Nudge = same_seat x.leader
  acted_seat deeds.Propose = same_seat x.leader
  acted_seat deeds.Perform = performing_seat (next_decided x.replica)
  acted_seat deeds.Restart = record { members = sym at.speaks; node = sym at.node }

  pub acted_seated : (d : Deed Op) → IsSeated members n (acted rules members n x d).state
  acted_seated d = seated_by members n x (acted rules members n x d).state at (acted_seat d)

-- the nodes stay seated when one of them becomes another node that is seated there
pub seats_stay : {C : Type 0} (members : List ℕ) (nodes : List (NodeState C)) (n p : ℕ) (x : NodeState C) → p ≡ n - 1
    → 1 ≤ n → p < length nodes → ((m : ℕ) → is_member members m ≡ true → IsSeated members m (node_in members nodes m))
    → IsSeated members n x → (m : ℕ) → is_member members m ≡ true
    → IsSeated members m (node_in members (slice_set nodes p x) m)
seats_stay members nodes n p x place low h all seated m member =
    subst (λ ns. IsSeated members m (node_in members ns m)) (sym (ap (λ j. slice_set nodes j x) place ∙ put_at nodes n x low))
    (⊎_elim
    (λ (e : m ≡ n). subst (λ j. IsSeated members j (node_in members (put nodes n x) j)) (sym e)
    (subst (IsSeated members n) (sym (node_put_same members nodes n x low (omega (arith, place, low, h)))) seated))
    (λ (e : m ≢ n). subst (IsSeated members m) (sym (node_put_other members nodes n x m e)) (all m member))
    (cases_eq m n))

-- new nodes are seated
pub new_seated : {C : Type 0} (members : List ℕ) (len n : ℕ) → is_member members n ≡ true
    → IsSeated {C = C} members n (node_in members (map (new_node members) (range_with_len 1 len)) n)
new_seated members len n member = subst (IsSeated members n) (sym (new_in members len n)) (record { member = member; speaks = refl; node = refl })
