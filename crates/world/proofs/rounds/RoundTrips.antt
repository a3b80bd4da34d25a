-- A round from its beginning to its end: the leader is adopted, or all that it asked for is decided, or it gives up for a
-- ballot that fewer acceptors are above.
use Rattle.std.proofs.Common.{◌≡◌, ◌⊎◌, inl, inr, ⊎_elim, ℕ, ◌+◌, ◌-◌, ◌*◌, ◌<◌, ◌≤◌, Bool, true, false, length, Option}
use Rattle.std.proofs.Common.{None, Some, refl, sym, ap, ◌∙◌, subst, arith}
use Rattle.std.specs.FinMap.{empty, get, get-empty, same_map, nat_cmp-IsAntisymmetric}
use Rattle.std.specs.Ordering.{nat_cmp}
use Rattle.std.specs.Cmp.{nat_cmp_total}
use Rattle.object.specs.Lists.{In}
use Rattle.object.specs.ListLaws.{In-get}
use Rattle.object.specs.declared.command.Command.{Command}
use Rattle.object.specs.Objects.{Rules}
use Rattle.ballot.specs.Ballots.{Numbers, is_below, is_promise_below}
use Rattle.ballot.specs.Letters.{letter, all_to_all}
use Rattle.ballot.specs.Members.{IsMembers, is_member, is_majority}
use Rattle.ballot.specs.OrderLaws.{BallotLaws, IsUpto, not_both}
use Rattle.ballot.specs.Slots.{Slots}
use Rattle.ballot.specs.declared.letter.LetterBody.{LetterBody}
use Rattle.ballot.specs.declared.letter.LetterBody.TheVariants.{P1a, P2a}
use Rattle.scout_commander.specs.Scouts.{Scouting}
use Rattle.scout_commander.specs.Commanders.{Commanding}
use Rattle.leader.specs.Leaders.{says_again}
use Rattle.replica.specs.Replicas.{nudges}
use Rattle.node.specs.Deeds.{said_again}
use Rattle.agreement.specs.Nodes.{node, turned}
use Rattle.agreement.specs.Worlds.{World}
use Rattle.agreement.specs.Steps.{Step, nudge, counted, with_cluster}
use Rattle.agreement.specs.declared.event.Event.TheVariants as events
use Rattle.agreement.proofs.chosen.Invariants.{IsSound}
use Rattle.agreement.proofs.chosen.LeaderRows.{none_not}
use Rattle.agreement.proofs.chosen.Turns.{here}
use Rattle.world.specs.Leading.{HasLeader}
use Rattle.world.specs.WaysOut.{first_leader, rivals, HasScout, AsksAt, IsOver, beaten, adopted, at_rest}
use Rattle.world.proofs.leading.LeadingEvery.{In-to_each}
use Rattle.world.proofs.rounds.Talking.{talk_itself}
use Rattle.world.proofs.rounds.Rivals.{no_more_rivals}
use Rattle.world.proofs.rounds.Asking.{IsAsk, promise, vote, IsRound, IsManned, IsAsking, IsGoing, HasHeard}
use Rattle.world.proofs.rounds.Rounds.{place_of, amid, at_some, all_length, from_all, says_cases, says_scout}
use Rattle.world.proofs.rounds.Rounds.{says_commander, everyone, majority_of_members}

-- the world after node 1 has said again what it waits for
abbrev pub nudged : {Op Reply : Type 0} → World Op Reply → World Op Reply
nudged w = counted (with_cluster w (turned w.cluster 1 (node w.cluster 1) (said_again w.cluster.members 1 (node w.cluster 1))))

pub nudged_is : {O Op Reply : Type 0} (rules : Rules O Op Reply) (w : World Op Reply) (n : ℕ) (v : World Op Reply)
    → Step rules w (events.Nudge n) v
    → v ≡ counted (with_cluster w (turned w.cluster n (node w.cluster n)
    (said_again w.cluster.members n (node w.cluster n))))
nudged_is rules w n _ (nudge m member) = refl

module _ (laws : BallotLaws) {Op Reply : Type 0} (w : World Op Reply) (i : IsSound w.cluster) (first : is_member w.cluster.members 1 ≡ true) where
  pub leader_nudged : first_leader (nudged w).cluster ≡ first_leader w.cluster
  leader_nudged = ap (λ x. x.leader) (here laws w.cluster i 1 first (node w.cluster 1) (said_again w.cluster.members 1 (node w.cluster 1)))

  -- one of the letters that ask
  asked_there : (body : LetterBody (Command Op)) (m : ℕ) → In body (says_again (first_leader w.cluster)) → is_member w.cluster.members m ≡ true
      → (j : ℕ) × (length w.cluster.letters ≤ j)
      × (j < length w.cluster.letters + length w.cluster.members * length (says_again (first_leader w.cluster)))
      × AsksAt (nudged w) j body m
  asked_there body m within member =
      let asks = all_to_all w.cluster.members 1 (says_again (first_leader w.cluster)) in
      let p = place_of asks (letter 1 body m) (In-to_each w.cluster.members 1 (says_again (first_leader w.cluster)) body m member within) in
      let e = all_length w.cluster.members 1 (says_again (first_leader w.cluster)) in
      let low = p.1 in (
        length w.cluster.letters + p.0,
        omega arith,
        omega arith,
        amid w.cluster.letters asks
            (nudges w.cluster.members 1 (node w.cluster 1).replica) p.0 (length w.cluster.letters + p.0)
            (letter 1 body m) refl p.2,
      )

  module _ (manned : IsManned w) (idle : (first_leader w.cluster).active ≡ false → (first_leader w.cluster).commanders ≡ empty) where
    active_when : (s : ℕ) (c : Commanding (Command Op)) → get (first_leader w.cluster).commanders s ≡ Some c → (first_leader w.cluster).active ≡ true
    active_when s c is = at (first_leader w.cluster).active refl
      where
        at : (b : Bool) → (first_leader w.cluster).active ≡ b → b ≡ true
        at true e = refl
        at false e = none_not (ap (λ cs. get cs s) (idle e) ∙ get-empty nat_cmp s) is

    is_ask : (j m : ℕ) (body : LetterBody (Command Op)) → In body (says_again (first_leader w.cluster))
        → is_member w.cluster.members m ≡ true → AsksAt (nudged w) j body m → IsAsk (nudged w) j
    is_ask j m body within member at = elim (says_cases (first_leader w.cluster) body within) as (λ v. IsAsk (nudged w) j) [
      | inl h ↦ promise m member (ap (λ l. l.active) leader_nudged ∙ (manned.scout h.0 h.1).2)
          (subst (λ b. AsksAt (nudged w) j (P1a b) m)
          ((manned.scout h.0 h.1).1 ∙ sym (ap (λ l. l.ballot) leader_nudged))
          (subst (λ y. AsksAt (nudged w) j y m) h.2 at))
      | inr h ↦ vote m h.0 h.1.0 member (ap (λ l. l.active) leader_nudged ∙ active_when h.0 h.1.0 h.1.1)
          (ap (λ l. get l.commanders h.0) leader_nudged ∙ h.1.1) (subst (λ y. AsksAt (nudged w) j y m) h.1.2 at)
    ]

    pub round_nudged : IsRound (nudged w) (length w.cluster.letters)
        (length w.cluster.letters + length w.cluster.members * length (says_again (first_leader w.cluster)))
    round_nudged = record {
      each = λ j low high.
          let asks = all_to_all w.cluster.members 1 (says_again (first_leader w.cluster)) in
          let e = all_length w.cluster.members 1 (says_again (first_leader w.cluster)) in
          let x = at_some asks (j - length w.cluster.letters) (omega arith) in
          let h = from_all w.cluster.members 1 (says_again (first_leader w.cluster)) x.0 (In-get asks (j - length w.cluster.letters) x.0 x.1) in
          is_ask j h.2.0 h.0 h.1 h.2.1 (amid w.cluster.letters asks
          (nudges w.cluster.members 1 (node w.cluster 1).replica) (j - length w.cluster.letters) j
          (letter 1 h.0 h.2.0) (omega arith) (x.1 ∙ ap (λ y. Some y) h.2.2));
      scout = λ s is m member.
          let was : (first_leader w.cluster).scout ≡ Some s = ap (λ l. l.scout) (sym leader_nudged) ∙ is in
          let h = asked_there (P1a s.ballot) m (says_scout (first_leader w.cluster) s was) member in
          (h.0, h.1, h.2, subst (λ b. AsksAt (nudged w) h.0 (P1a b) m) ((manned.scout s was).1 ∙ sym (ap (λ l. l.ballot) leader_nudged)) h.3);
      commanders = λ s c is m member. asked_there (P2a c.pvalue) m
          (says_commander (first_leader w.cluster) s c (ap (λ l. get l.commanders s) (sym leader_nudged) ∙ is)) member;
    }

-- at its beginning nobody was asked
pub asking_begins : {Op Reply : Type 0} (w : World Op Reply) (start : ℕ) → HasScout w.cluster → IsAsking w w start start
asking_begins w start posted = record {
  talk = talk_itself w;
  promised = λ j. inl refl;
  spent = omega arith;
  so_far = inl (record {
    ballot = refl;
    asleep = λ h. let s = posted h in inr (s.0, s.1, λ j m low high asks. absurd (omega arith));
    awake = λ h. h;
    commanders = λ h s c is. record {
      before = c;
      stood = is;
      same = refl;
      below =
          λ j m low high asks. absurd (omega arith);
      heard = λ j m low high asks promised. absurd (omega arith);
    };
  });
}

module _ (laws : BallotLaws) {Op Reply : Type 0} (old now : World Op Reply) (start stop : ℕ)
    (round : IsRound old start stop) (asking : IsAsking old now start stop) (manned : IsManned now)
    (led : HasLeader now.cluster 1) (members : IsMembers now.cluster.members) (posted : HasScout old.cluster) where
  no_more : IsGoing old now start stop → rivals now.cluster (first_leader now.cluster).ballot ≤ rivals old.cluster (first_leader old.cluster).ballot
  no_more g = subst (λ b. rivals now.cluster b ≤ rivals old.cluster (first_leader old.cluster).ballot) (sym g.ballot)
      (no_more_rivals laws old.cluster now.cluster asking.talk.members
      (first_leader old.cluster).ballot asking.promised)

  was_member : (m : ℕ) → is_member now.cluster.members m ≡ true → is_member old.cluster.members m ≡ true
  was_member m member = subst (λ ms. is_member ms m ≡ true) asking.talk.members member

  -- a scout that all members answered has its majority
  no_scout_left : (s : Scouting (Command Op)) → (first_leader now.cluster).scout ≡ Some s
      → (before : Scouting (Command Op)) → (first_leader old.cluster).scout ≡ Some before → HasHeard old start stop s
      → ⊥
  no_scout_left s is before was heard = not_both
      (everyone s.members (subst IsMembers (sym (manned.scout s is).0) members) s.heard (λ m member.
      let h = round.scout before was m (was_member m (subst (λ ms. is_member ms m ≡ true) (manned.scout s is).0 member)) in heard h.0 m h.1 h.2 h.3))
      (led.scout s is).few

  -- and so has a commander that each acceptor of the leader's majority answered
  same_ballot : (b : Numbers) (o : Option Numbers) → IsUpto b o → is_promise_below (Some b) o ≡ false → o ≡ Some b
  same_ballot b None upto below = absurd upto
  same_ballot b (Some x) upto below = ⊎_elim
      (λ (h : is_below b x ≡ true). not_both h below)
      (λ (r : (b ≡ x) ⊎ (is_below x b ≡ true)). ⊎_elim (λ (e : b ≡ x). ap (λ y. Some y) (sym e)) (λ (h : is_below x b ≡ true). not_both h upto) r)
      (laws.total b x)

  no_commander_left : IsGoing old now start stop → (first_leader old.cluster).active ≡ true
      → (s : ℕ) (c : Commanding (Command Op)) → get (first_leader now.cluster).commanders s ≡ Some c → ⊥
  no_commander_left g awake s c is =
      let h = g.commanders awake s c is in
      let q = (led.active (g.awake awake)).promised in
      not_both
      (majority_of_members c.members q.row c.heard (λ m member has_promised.
      let there = round.commanders s h.before h.stood m (was_member m (subst (λ ms. is_member ms m ≡ true) (manned.commander s c is).0 member)) in
      let asks = subst (λ p. AsksAt old there.0 (P2a p) m) h.same there.3 in
      h.heard there.0 m there.1 there.2 asks
      (same_ballot (first_leader old.cluster).ballot (node now.cluster m).acceptor.promised
      (subst (λ b. IsUpto b (node now.cluster m).acceptor.promised) g.ballot (q.promised m has_promised))
      (h.below there.0 m there.1 there.2 asks)))
      (subst (λ ms. is_majority ms q.row ≡ true) (sym (manned.commander s c is).0) q.majority))
      (led.commander s c is).few

  no_values : (cs : Slots (Commanding (Command Op))) → ((s : ℕ) (c : Commanding (Command Op)) → get cs s ≡ Some c → ⊥) → cs ≡ empty
  no_values cs none = same_map nat_cmp_total nat_cmp-IsAntisymmetric cs empty (λ s. at s (get cs s) refl ∙ sym (get-empty nat_cmp s))
    where
      at : (s : ℕ) (o : Option (Commanding (Command Op))) → get cs s ≡ o → o ≡ None
      at s None e = refl
      at s (Some c) e = absurd (none s c e)

  over_going : IsGoing old now start stop → (b : Bool) → (first_leader old.cluster).active ≡ b → IsOver old now
  over_going g true awake = at_rest
      (record {
        active = g.awake awake;
        done =
            no_values (first_leader now.cluster).commanders (no_commander_left g awake);
      }) (no_more g)
  over_going g false asleep = elim (g.asleep asleep) as (λ v. IsOver old now) [
    | inl active ↦ adopted asleep active (no_more g)
    | inr h ↦ let before = posted asleep in absurd (no_scout_left h.0 h.1 before.0 before.1 h.2)
  ]

  pub round_over : IsOver old now
  round_over = elim asking.so_far as (λ v. IsOver old now) [
    | inl g ↦ over_going g (first_leader old.cluster).active refl
    | inr h ↦ beaten h
  ]
