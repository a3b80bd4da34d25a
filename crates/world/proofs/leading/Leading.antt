-- Each row of a leader leaves it as leaders are.
use Rattle.std.proofs.Common.{◌≡◌, ◌≢◌, ◌⊎◌, inl, inr, ⊎_elim, ℕ, zero, suc, ◌<◌, Bool, true, false, cond}
use Rattle.std.proofs.Common.{List, [], ◌∷◌, replicate, Some, None, Option, refl, sym, ap, ◌∙◌, subst, arith, length}
use Rattle.std.proofs.Common.{length-set}
use Rattle.std.specs.Prelude.{is_none, not, nat_le, IsSome}
use Rattle.std.specs.FinMap.{get, insert, empty, contains_key}
use Rattle.std.proofs.lemmas.Bool.{and_parts, cases_eq, cond_both, not-true}
use Rattle.std.proofs.lemmas.Bool.Decides.{nat_tests}
use Rattle.object.specs.Lists.{In}
use Rattle.ballot.specs.Ballots.{Numbers, is_below, is_same, next_after}
use Rattle.ballot.specs.Letters.{letter}
use Rattle.ballot.specs.Members.{has, add, nobody, is_majority, is_member, weigh, majority}
use Rattle.ballot.specs.OrderLaws.{BallotLaws, IsUpto}
use Rattle.ballot.specs.Slots.{Slots}
use Rattle.ballot.specs.declared.letter.LetterBody.{LetterBody}
use Rattle.ballot.specs.declared.letter.LetterBody.TheVariants.{Decision}
use Rattle.ballot.specs.declared.pvalue.Pvalue.{Pvalue}
use Rattle.scout_commander.specs.Scouts.{Scouting, Hearing, new_scout, gathers, unmoved}
use Rattle.scout_commander.specs.Scouts as scouts
use Rattle.scout_commander.specs.declared.scout.Heard.TheVariants.{Wait, Adopted, Preempted}
use Rattle.scout_commander.specs.Commanders.{Commanding, Voting, new_commander, counts, votes}
use Rattle.scout_commander.specs.declared.commander.Voted.TheVariants.{Wait as VoteWaits, Decided}
use Rattle.leader.specs.Leaders.{Leading, Done, silently, pvalue, woken, preempted, commands, on_propose}
use Rattle.leader.specs.Adoptions.{adopted}
use Rattle.leader.specs.Promises.{at_heard, at_scout}
use Rattle.leader.specs.Votes.{at_voted, at_commander, answers_another}
use Rattle.leader.specs.Votes as votes_of
use Rattle.node.specs.SlotLaws.{get_insert_same, get_insert_cases, get_remove_cases, none_in_empty, absent, get_each_value}
use Rattle.agreement.specs.Nodes.{Cluster, node}
use Rattle.world.specs.Leading.{IsPromised, IsToldToAll, IsStillScouting, IsStillCommanding, IsLed}
use Rattle.agreement.proofs.chosen.Sets.{nobody_has, has_add}
use Rattle.agreement.proofs.chosen.Invariants.{IsLeading}
use Rattle.agreement.proofs.chosen.Grows.{Grows, majority_stays}
use Rattle.agreement.proofs.chosen.LeaderRows.{some_same, none_not, off_on}
use Rattle.agreement.proofs.books.LeadingSlots.{is_there, still_there, others_there, added, each_there}

-- nobody is no majority
weigh_nobody : (ws : List ℕ) (n : ℕ) → weigh ws (replicate n false) ≡ 0
weigh_nobody [] n = refl
weigh_nobody (w ∷ ws) zero = refl
weigh_nobody (w ∷ ws) (suc n) = let h = weigh_nobody ws n in omega arith

below_test : (a b : ℕ) → b < a → nat_le a b ≡ false
below_test a b h = grind (arith, nat_tests)

full_add : (row : List Bool) (m : ℕ) → length row ≡ 7 → length (add row m) ≡ 7
full_add row zero h = h
full_add row (suc i) h = length-set row i true ∙ h

pub nobody_few : (ws : List ℕ) → is_majority ws nobody ≡ false
nobody_few ws = let h = weigh_nobody ws 7 in below_test (majority ws) (weigh ws nobody) (omega arith)

-- with one more member that was heard
heard_within : (ws : List ℕ) (heard : List Bool) (m : ℕ) → is_member ws m ≡ true
    → ((j : ℕ) → has heard j ≡ true → is_member ws j ≡ true) → (j : ℕ) → has (add heard m) j ≡ true
    → is_member ws j ≡ true
heard_within ws heard m member within j h = ⊎_elim
    (λ (e : j ≡ m). subst (λ y. is_member ws y ≡ true) (sym e) member)
    (λ (old : has heard j ≡ true). within j old)
    (has_add heard m j h)

-- what stays so while acceptors promise more and more letters are sent
module _ {C : Type 0} (k z : Cluster C) (g : Grows k z) where
  member_stays : (m : ℕ) → is_member k.members m ≡ true → is_member z.members m ≡ true
  member_stays m h = subst (λ ws. is_member ws m ≡ true) (sym g.members) h

  pub promised_stays : (b : Numbers) → IsPromised k b → IsPromised z b
  promised_stays b h = record { row = h.row; majority = majority_stays k z g h.row h.majority; promised = λ m x. (g.acceptors m).promised b (h.promised m x) }

  pub told_stays : (n s : ℕ) (c : C) → IsToldToAll k n s c → IsToldToAll z n s c
  told_stays n s c h m member = g.letters (letter n (Decision s c) m) (h m (subst (λ ws. is_member ws m ≡ true) g.members member))

  scout_stays : (s : Scouting C) → IsStillScouting k s → IsStillScouting z s
  scout_stays s h = record { few = h.few; full = h.full; within = λ m x. member_stays m (h.within m x) }

  commander_stays : (proposals : Slots C) (s : ℕ) (c : Commanding C) → IsStillCommanding k proposals s c → IsStillCommanding z proposals s c
  commander_stays proposals s c h = record { few = h.few; full = h.full; value = h.value; within = λ m x. member_stays m (h.within m x) }

  pub led_stays : (n : ℕ) (l : Leading C) → IsLed k n l → IsLed z n l
  led_stays n l h = record {
    active = λ on. let a = h.active on in record {
      promised = promised_stays l.ballot a.promised;
      alone = a.alone;
      followed_up = λ s c e. ⊎_elim (λ (there : IsSome (get l.commanders s)). inl there)
          (λ (told : IsToldToAll k n s c). inr (told_stays n s c told)) (a.followed_up s c e);
    };
    asleep = h.asleep;
    scout = λ s e. scout_stays s (h.scout s e);
    commander = λ s c e. commander_stays l.proposals s c (h.commander s c e);
  }

-- node n sent this to every member
abbrev pub IsSentToAll : {C : Type 0} → Cluster C → ℕ → LetterBody C → Type 0
IsSentToAll k n b = (m : ℕ) → is_member k.members m ≡ true → In (letter n b m) k.letters

-- once the leader has done this, and what it says was sent to all, it is as leaders are
abbrev pub IsLedBy : {C : Type 0} → Cluster C → ℕ → Done (Leading C) C → Type 0
IsLedBy {C} k n d = (z : Cluster C) → Grows k z → ((b : LetterBody C) → In b d.says → IsSentToAll z n b) → IsLed z n d.state

module _ (laws : BallotLaws) {C : Type 0} (k : Cluster C) (n : ℕ) (l : Leading C) (own : IsLeading k l) (h : IsLed k n l) where
  silent_led : IsLedBy k n (silently l)
  silent_led z g said = led_stays k z g n l h

  pub woken_led : IsLedBy k n (woken l)
  woken_led = cond_both _ _ (silently l) (IsLedBy k n)
      (λ e z g said. record {
        active = λ on. off_on (not-true l.active (and_parts (not l.active) (is_none l.scout) e).0) on;
        asleep = h.asleep;
        scout = λ s f. subst (IsStillScouting z) (some_same f) (record { few = nobody_few l.members; full = refl; within = λ m x. nobody_has m x });
        commander = λ s c f. commander_stays k z g l.proposals s c (h.commander s c f);
      })
      (λ e. silent_led)

  preempted_if : (b : Numbers) (test : Bool)
      → IsLedBy k n (silently (cond test
      (record l { ballot = next_after b l.ballot.node l.ballot.boot; active = false; scout = None; commanders = empty })
      l))
  preempted_if b true z g said = record {
    active = λ on. off_on refl on;
    asleep = λ off. refl;
    scout = λ s f. none_not refl f;
    commander = λ s c f. none_in_empty s c f;
  }
  preempted_if b false z g said = led_stays k z g n l h

  preempted_led : (b : Numbers) → IsLedBy k n (silently (preempted l b))
  preempted_led b = preempted_if b (is_below l.ballot b)

  -- a majority was heard, which has promised the leader's ballot
  adopted_led : (heard : List Bool) → is_majority k.members heard ≡ true
      → ((m : ℕ) → has heard m ≡ true → IsUpto l.ballot (node k m).acceptor.promised) → (new : Slots C)
      → IsLedBy k n (adopted l new)
  adopted_led heard most promised new z g said = record {
    active = λ on. record {
      promised = record { row = heard; majority = majority_stays k z g heard most; promised = λ m x. (g.acceptors m).promised l.ballot (promised m x) };
      alone = refl;
      followed_up = λ s c e. inl (each_there (λ s c. new_commander l.members (pvalue l.ballot s c)) new s c e);
    };
    asleep = λ off. off_on off refl;
    scout = λ s f. none_not refl f;
    commander = λ s c f.
        let v = get_each_value (λ s c. new_commander l.members (pvalue l.ballot s c)) new s c f in
        subst (IsStillCommanding z new s) (sym v.2) (record { few = nobody_few l.members; full = refl; value = v.1; within = λ m x. nobody_has m x });
  }

  -- in the place of the scout stands one that waits
  scout_led : (s t : Scouting C) → l.scout ≡ Some s → IsStillScouting k t → IsLedBy k n (silently (record l { scout = Some t }))
  scout_led s t e is z g said = record {
    active = λ on. none_not (h.active on).alone e;
    asleep = h.asleep;
    scout = λ y f. subst (IsStillScouting z) (some_same f) (scout_stays k z g t is);
    commander = λ r c f. commander_stays k z g l.proposals r c (h.commander r c f);
  }

  heard_if : (s t : Scouting C) → l.scout ≡ Some s → t.members ≡ k.members
      → ((m : ℕ) → has t.heard m ≡ true → IsUpto l.ballot (node k m).acceptor.promised)
      → ((m : ℕ) → has t.heard m ≡ true → is_member k.members m ≡ true)
      → length t.heard ≡ 7 → (taken : Slots C) (test : Bool) → is_majority t.members t.heard ≡ test → IsLedBy k n (at_heard l taken t (cond test Adopted Wait))
  heard_if s t e same promised within full taken true most = adopted_led t.heard (subst (λ ws. is_majority ws t.heard ≡ true) same most) promised taken
  heard_if s t e same promised within full taken false few = scout_led s t e (record { few = few; full = full; within = within })

  -- what a scout makes of a P1b, and what the leader makes of that
  abbrev AtHearing : Slots C → Hearing C → Type 0
  AtHearing taken v = IsLedBy k n (at_heard l taken v.scout v.says)

  module _ (m : ℕ) (b : Numbers) (upto : IsUpto b (node k m).acceptor.promised) (s : Scouting C) (e : l.scout ≡ Some s) where
    scout_members : s.members ≡ k.members
    scout_members = (own.scouting s e).own.members ∙ own.members

    promised_now : is_same b s.ballot ≡ true → (j : ℕ) → has (add s.heard m) j ≡ true → IsUpto l.ballot (node k j).acceptor.promised
    promised_now mine j x = ⊎_elim
        (λ (f : j ≡ m). subst (λ y. IsUpto l.ballot (node k y).acceptor.promised) (sym f)
        (subst (λ y. IsUpto y (node k m).acceptor.promised)
        (laws.same b s.ballot mine ∙ (own.scouting s e).own.ballot) upto))
        (λ (old : has s.heard j ≡ true). ((own.scouting s e).gathering.reports j old).1.promised)
        (has_add s.heard m j x)

    hearing_led : (fresh : List (Pvalue C)) (taken : Slots C) → AtHearing taken (scouts.on_p1b s m b fresh)
    hearing_led fresh taken =
        cond_both (is_member s.members m) _ (unmoved s Wait) (AtHearing taken)
        (λ member. cond_both (is_same b s.ballot) (gathers s m fresh) _ (AtHearing taken)
        (λ mine. heard_if s (gathers s m fresh).scout e scout_members (promised_now mine)
        (heard_within k.members s.heard m (subst (λ ws. is_member ws m ≡ true) scout_members member)
        (h.scout s e).within) (full_add s.heard m (h.scout s e).full) taken
        (is_majority s.members (add s.heard m)) refl)
        (λ other. cond_both (is_below s.ballot b) (unmoved s (Preempted b)) (unmoved s Wait) (AtHearing taken)
        (λ up. preempted_led b)
        (λ down. scout_led s s e (h.scout s e))))
        (λ stranger. scout_led s s e (h.scout s e))

  pub p1b_led : (m : ℕ) (b : Numbers) (fresh : List (Pvalue C)) (taken : Slots C)
      → IsUpto b (node k m).acceptor.promised → (o : Option (Scouting C)) → l.scout ≡ o
      → IsLedBy k n (at_scout l m b fresh taken o)
  p1b_led m b fresh taken upto None e = silent_led
  p1b_led m b fresh taken upto (Some s) e = hearing_led m b upto s e fresh taken

  -- a commander of slot s stands
  module _ (s : ℕ) (c : Commanding C) (e : get l.commanders s ≡ Some c) where
    commander_members : c.members ≡ k.members
    commander_members = (own.commanding s c e).own.members ∙ own.members

    awake : {P : Type 0} → l.active ≡ false → P
    awake off = none_in_empty s c (subst (λ (m : Slots (Commanding C)). get m s ≡ Some c) (h.asleep off) e)

    -- in its place stands one that waits
    commander_led : (d : Commanding C) → IsStillCommanding k l.proposals s d → IsLedBy k n (silently (record l { commanders = insert l.commanders s d }))
    commander_led d is z g said = record {
      active = λ on. let a = h.active on in record {
        promised = promised_stays k z g l.ballot a.promised;
        alone = a.alone;
        followed_up = λ t v f. ⊎_elim
            (λ (there : IsSome (get l.commanders t)). inl (still_there l.commanders s d t there))
            (λ (told : IsToldToAll k n t v). inr (told_stays k z g n t v told))
            (a.followed_up t v f);
      };
      asleep = awake;
      scout = λ y f. scout_stays k z g y (h.scout y f);
      commander = λ t y f. ⊎_elim
          (λ (same : (t ≡ s) × (get (insert l.commanders s d) t ≡ Some d)). subst
          (λ (q : ℕ × Commanding C). IsStillCommanding z l.proposals q.0 q.1)
          (λ j. (sym same.0 j, some_same (sym same.1 ∙ f) j)) (commander_stays k z g l.proposals s d is))
          (λ (apart : (t ≢ s) × (get (insert l.commanders s d) t ≡ get l.commanders t)).
          commander_stays k z g l.proposals t y (h.commander t y (sym apart.1 ∙ f)))
          (get_insert_cases l.commanders s d t);
    }

    -- it is told that its command is decided
    told_now : (z : Cluster C) → IsSentToAll z n (Decision s c.pvalue.value) → (v : C) → get l.proposals s ≡ Some v → IsToldToAll z n s v
    told_now z sent v f = subst (λ (y : C). IsSentToAll z n (Decision s y)) (some_same (sym (h.commander s c e).value ∙ f)) sent

    decided_led : (d : Commanding C) → d.pvalue ≡ c.pvalue → IsLedBy k n (at_voted l s d Decided)
    decided_led d same z g said = record {
      active = λ on. let a = h.active on in record {
        promised = promised_stays k z g l.ballot a.promised;
        alone = a.alone;
        followed_up = λ t v f. ⊎_elim
            (λ (here : t ≡ s). inr (subst (λ y. IsToldToAll z n y v) (sym here)
            (told_now z (subst (λ (p : Pvalue C). IsSentToAll z n (Decision s p.value)) same
            (said (Decision s d.pvalue.value) (inl refl))) v (ap (λ y. get l.proposals y) (sym here) ∙ f))))
            (λ (apart : t ≢ s). ⊎_elim
            (λ (there : IsSome (get l.commanders t)). inl (others_there l.commanders s t apart there))
            (λ (told : IsToldToAll k n t v). inr (told_stays k z g n t v told))
            (a.followed_up t v f))
            (cases_eq t s);
      };
      asleep = awake;
      scout = λ y f. scout_stays k z g y (h.scout y f);
      commander = λ t y f. commander_stays k z g l.proposals t y (h.commander t y (get_remove_cases l.commanders s t y f));
    }

    voted_if : (m : ℕ) → is_member c.members m ≡ true → (test : Bool) → is_majority c.members (add c.heard m) ≡ test
        → IsLedBy k n (at_voted l s (counts c m).commander (cond test Decided VoteWaits))
    voted_if m member true most = decided_led (counts c m).commander refl
    voted_if m member false few = commander_led (counts c m).commander (record {
      few = few;
      full = full_add c.heard m (h.commander s c e).full;
      value = (h.commander s c e).value;
      within = heard_within k.members c.heard m (subst (λ ws. is_member ws m ≡ true) commander_members member) (h.commander s c e).within;
    })

    unmoved_led : IsLedBy k n (silently (record l { commanders = insert l.commanders s c }))
    unmoved_led = commander_led c (h.commander s c e)

    -- what it makes of a P2b, and what the leader makes of that
    abbrev AtVoting : Voting C → Type 0
    AtVoting v = IsLedBy k n (at_voted l s v.commander v.says)

    votes_led : (m : ℕ) (b : Option Numbers) → is_member c.members m ≡ true → AtVoting (votes c m b)
    votes_led m None member = unmoved_led
    votes_led m (Some b) member =
        cond_both (is_same b c.pvalue.ballot) (counts c m) _ AtVoting
        (λ mine. voted_if m member (is_majority c.members (add c.heard m)) refl)
        (λ other. cond_both (is_below c.pvalue.ballot b) _ _ AtVoting (λ up. preempted_led b) (λ down. unmoved_led))

  at_commander_led : (m : ℕ) (b : Option Numbers) (s : ℕ) (o : Option (Commanding C)) → get l.commanders s ≡ o → IsLedBy k n (at_commander l m b s o)
  at_commander_led m b s None e = silent_led
  at_commander_led m b s (Some c) e = cond_both (is_member c.members m) _ _ (AtVoting s c e)
      (λ member. votes_led s c e m b member)
      (λ stranger. unmoved_led s c e)

  pub p2b_led : (m : ℕ) (b : Option Numbers) (s : ℕ) (by : Numbers) → IsLedBy k n (votes_of.on_p2b l m b s by)
  p2b_led m b s by = cond_both (answers_another l b by) (silently l) _ (IsLedBy k n)
      (λ another. silent_led)
      (λ mine. at_commander_led m b s (get l.commanders s) refl)

  -- a proposal is added where there was none
  module _ (s : ℕ) (c : C) (none : get l.proposals s ≡ None) where
    more_stays : (z : Cluster C) → Grows k z → (t : ℕ) (y : Commanding C) → get l.commanders t ≡ Some y → IsStillCommanding z (insert l.proposals s c) t y
    more_stays z g t y f = let q = commander_stays k z g l.proposals t y (h.commander t y f) in record {
      few = q.few;
      full = q.full;
      value = added l.proposals s c none t y.pvalue.value q.value;
      within = q.within;
    }

    new : Commanding C
    new = new_commander l.members (pvalue l.ballot s c)

    at_rest_more : (z : Cluster C) → Grows k z → l.active ≡ true → (t : ℕ) (v : C)
        → get (insert l.proposals s c) t ≡ Some v → IsSome (get (insert l.commanders s new) t) ⊎ IsToldToAll z n t v
    at_rest_more z g on t v f = ⊎_elim
        (λ (same : (t ≡ s) × (get (insert l.proposals s c) t ≡ Some c)). inl
        (is_there (get (insert l.commanders s new) t) new
        (ap (λ y. get (insert l.commanders s new) y) same.0 ∙ get_insert_same l.commanders s new)))
        (λ (apart : (t ≢ s) × (get (insert l.proposals s c) t ≡ get l.proposals t)). ⊎_elim
        (λ (there : IsSome (get l.commanders t)). inl (still_there l.commanders s new t there))
        (λ (told : IsToldToAll k n t v). inr (told_stays k z g n t v told))
        ((h.active on).followed_up t v (sym apart.1 ∙ f)))
        (get_insert_cases l.proposals s c t)

    commands_led : l.active ≡ true → IsLedBy k n (commands l s c)
    unfolding new
    commands_led on z g said = record {
      active = λ still. record {
        promised = promised_stays k z g l.ballot (h.active on).promised;
        alone = (h.active on).alone;
        followed_up = at_rest_more z g on;
      };
      asleep = λ off. off_on off on;
      scout = λ y f. scout_stays k z g y (h.scout y f);
      commander = λ t y f. ⊎_elim
          (λ (same : (t ≡ s) × (get (insert l.commanders s new) t ≡ Some new)). subst
          (λ (q : ℕ × Commanding C). IsStillCommanding z (insert l.proposals s c) q.0 q.1)
          (λ j. (sym same.0 j, some_same (sym same.1 ∙ f) j))
          (record {
            few = nobody_few l.members;
            full = refl;
            value = get_insert_same l.proposals s c;
            within =
                λ m x. nobody_has m x;
          }))
          (λ (apart : (t ≢ s) × (get (insert l.commanders s new) t ≡ get l.commanders t)). more_stays z g t y (sym apart.1 ∙ f))
          (get_insert_cases l.commanders s new t);
    }

    kept_led : l.active ≡ false → IsLedBy k n (silently (record l { proposals = insert l.proposals s c }))
    kept_led off z g said = record {
      active = λ on. off_on off on;
      asleep = h.asleep;
      scout = λ y f. scout_stays k z g y (h.scout y f);
      commander = λ t y f. more_stays z g t y f;
    }

  pub proposed_led : (s : ℕ) (c : C) → IsLedBy k n (on_propose l s c)
  proposed_led s c = cond_both (contains_key l.proposals s) (silently l) _ (IsLedBy k n)
      (λ there. silent_led)
      (λ free. cond_both l.active _ _ (IsLedBy k n)
      (λ on. commands_led s c (absent l.proposals s free) on)
      (λ off. kept_led s c (absent l.proposals s free) off))
