-- What leaders do that are alike: they say the same, and stay alike.
use Rattle.std.proofs.Common.{◌≡◌, ℕ, Bool, true, false, cond, Some, None, Option, refl}
use Rattle.std.specs.Prelude.{not, ◌&&◌}
use Rattle.std.specs.FinMap.{get, insert, contains_key}
use Rattle.ballot.specs.Ballots.{Numbers, is_below}
use Rattle.ballot.specs.OrderLaws.{BallotLaws}
use Rattle.scout_commander.specs.Scouts.{Scouting}
use Rattle.scout_commander.specs.Commanders.{Commanding}
use Rattle.scout_commander.specs.Commanders as commanders
use Rattle.scout_commander.specs.declared.commander.Voted.{Voted}
use Rattle.scout_commander.specs.declared.commander.Voted.TheVariants.{Wait as VoteWaits, Decided, Preempted as VotePreempted}
use Rattle.leader.specs.Leaders.{Leading, Done, silently, woken, preempted, on_propose, says_again}
use Rattle.leader.specs.Votes.{at_voted, at_commander, answers_another}
use Rattle.leader.specs.Votes as votes
use Rattle.world.specs.Alike.{IsAlikeScout, IsAlikeLeader, no_scout, but_gathered, but_scout}
use Rattle.world.proofs.alike.AlikeReports.{report_itself}

-- what two leaders became is alike, and they said the same
pub record IsAlikeDone {C : Type 0} (d e : Done (Leading C) C) : Type 0 where
  pub state : IsAlikeLeader d.state e.state
  pub says : d.says ≡ e.says

pub scout_itself : (laws : BallotLaws) {C : Type 0} (o : Option (Scouting C)) → IsAlikeScout o o
scout_itself laws None = no_scout
scout_itself laws (Some s) = but_gathered s s.gathered (report_itself laws s.gathered)

pub leader_itself : (laws : BallotLaws) {C : Type 0} (l : Leading C) → IsAlikeLeader l l
leader_itself laws l = but_scout l l.scout (scout_itself laws l.scout)

pub done_itself : (laws : BallotLaws) {C : Type 0} (d : Done (Leading C) C) → IsAlikeDone d d
done_itself laws d = record { state = leader_itself laws d.state; says = refl }

-- leaders with these scouts
pub silent_alike : {C : Type 0} (l : Leading C) (o p : Option (Scouting C)) → IsAlikeScout o p
    → IsAlikeDone (silently (record l { scout = o })) (silently (record l { scout = p }))
silent_alike l o p h = record { state = but_scout (record l { scout = o }) p h; says = refl }

done_if : {C : Type 0} (test : Bool) (d e f g : Done (Leading C) C) → IsAlikeDone d f → IsAlikeDone e g → IsAlikeDone (cond test d e) (cond test f g)
done_if true d e f g a b = a
done_if false d e f g a b = b

silent_if : {C : Type 0} (test : Bool) (l k t o : Leading C) → IsAlikeDone (silently l) (silently t)
    → IsAlikeDone (silently k) (silently o) → IsAlikeDone (silently (cond test l k)) (silently (cond test t o))
silent_if true l k t o a b = a
silent_if false l k t o a b = b

module _ (laws : BallotLaws) {C : Type 0} (l : Leading C) where
  woken_with : (o p : Option (Scouting C)) → IsAlikeScout o p → IsAlikeDone (woken (record l { scout = o })) (woken (record l { scout = p }))
  woken_with o p no_scout = done_itself laws (woken (record l { scout = None }))
  woken_with o p (but_gathered s ps h) =
      done_if (not l.active && false) _ _ _ _ (done_itself laws _)
      (silent_alike l (Some s) (Some (record s { gathered = ps })) (but_gathered s ps h))

  pub preempted_with : (o p : Option (Scouting C)) → IsAlikeScout o p → (b : Numbers)
      → IsAlikeDone (silently (preempted (record l { scout = o }) b)) (silently (preempted (record l { scout = p }) b))
  preempted_with o p h b = silent_if (is_below l.ballot b) _ _ _ _ (done_itself laws _) (silent_alike l o p h)

  proposed_with : (o p : Option (Scouting C)) → IsAlikeScout o p → (s : ℕ) (c : C)
      → IsAlikeDone (on_propose (record l { scout = o }) s c) (on_propose (record l { scout = p }) s c)
  proposed_with o p h s c =
      done_if (contains_key l.proposals s) _ _ _ _
      (silent_alike l o p h)
      (done_if l.active _ _ _ _
      (record { state = but_scout _ p h; says = refl })
      (silent_alike (record l { proposals = insert l.proposals s c }) o p h))

  voted_with : (o p : Option (Scouting C)) → IsAlikeScout o p → (s : ℕ) (c : Commanding C) (says : Voted)
      → IsAlikeDone (at_voted (record l { scout = o }) s c says) (at_voted (record l { scout = p }) s c says)
  voted_with o p h s c VoteWaits = silent_alike (record l { commanders = insert l.commanders s c }) o p h
  voted_with o p h s c Decided = record { state = but_scout _ p h; says = refl }
  voted_with o p h s c (VotePreempted b) = preempted_with o p h b

  commander_with : (o p : Option (Scouting C)) → IsAlikeScout o p
      → (m : ℕ) (b : Option Numbers) (s : ℕ) (c : Option (Commanding C))
      → IsAlikeDone (at_commander (record l { scout = o }) m b s c) (at_commander (record l { scout = p }) m b s c)
  commander_with o p h m b s None = silent_alike l o p h
  commander_with o p h m b s (Some c) = let v = commanders.on_p2b c m b in voted_with o p h s v.commander v.says

  vote_with : (o p : Option (Scouting C)) → IsAlikeScout o p → (m : ℕ) (b : Option Numbers) (s : ℕ) (by : Numbers)
      → IsAlikeDone (votes.on_p2b (record l { scout = o }) m b s by) (votes.on_p2b (record l { scout = p }) m b s by)
  vote_with o p h m b s by =
      done_if (answers_another l b by) _ _ _ _
      (silent_alike l o p h)
      (commander_with o p h m b s (get l.commanders s))

  again_with : (o p : Option (Scouting C)) → IsAlikeScout o p → says_again (record l { scout = o }) ≡ says_again (record l { scout = p })
  again_with o p no_scout = refl
  again_with o p (but_gathered s ps h) = refl

module _ (laws : BallotLaws) {C : Type 0} where
  pub woken_alike : (l k : Leading C) → IsAlikeLeader l k → IsAlikeDone (woken l) (woken k)
  woken_alike l k (but_scout t o h) = woken_with laws t t.scout o h

  pub proposed_alike : (l k : Leading C) → IsAlikeLeader l k → (s : ℕ) (c : C) → IsAlikeDone (on_propose l s c) (on_propose k s c)
  proposed_alike l k (but_scout t o h) s c = proposed_with laws t t.scout o h s c

  pub vote_alike : (l k : Leading C) → IsAlikeLeader l k → (m : ℕ) (b : Option Numbers) (s : ℕ) (by : Numbers)
      → IsAlikeDone (votes.on_p2b l m b s by) (votes.on_p2b k m b s by)
  vote_alike l k (but_scout t o h) m b s by = vote_with laws t t.scout o h m b s by

  pub again_alike : (l k : Leading C) → IsAlikeLeader l k → says_again l ≡ says_again k
  again_alike l k (but_scout t o h) = again_with laws t t.scout o h
