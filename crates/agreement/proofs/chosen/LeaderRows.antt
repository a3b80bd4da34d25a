-- Each row of a leader is good.
use Rattle.std.proofs.Common.{◌≡◌, ◌≢◌, ◌⊎◌, inl, inr, ⊎_elim, ℕ, Bool, true, false, true≢false, cond, List, Some, None}
use Rattle.std.proofs.Common.{Option, refl, sym, ap, ◌∙◌, subst, arith}
use Rattle.std.specs.Prelude.{is_none, not, ◌&&◌}
use Rattle.std.specs.FinMap.{get, insert, entries, empty, contains_key}
use Rattle.object.specs.Lists.{In}
use Rattle.ballot.specs.Ballots.{Numbers, is_below, is_same, is_promise, next_after}
use Rattle.ballot.specs.Members.{has, add, is_majority, is_member}
use Rattle.ballot.specs.declared.pvalue.Pvalue.{Pvalue}
use Rattle.ballot.specs.declared.letter.LetterBody.TheVariants.{P2a}
use Rattle.scout_commander.specs.Reports.{IsFresh}
use Rattle.scout_commander.specs.Scouts.{Scouting, Hearing, new_scout, gathers, unmoved, TakesFresh}
use Rattle.scout_commander.specs.Scouts as scouts
use Rattle.scout_commander.specs.declared.scout.Heard.TheVariants.{Wait, Adopted, Preempted}
use Rattle.scout_commander.specs.Commanders.{Commanding, Voting, new_commander, counts, votes}
use Rattle.scout_commander.specs.declared.commander.Voted.TheVariants.{Wait as VoteWaits, Decided}
use Rattle.ballot.specs.Slots.{Slots}
use Rattle.leader.specs.Leaders.{Leading, silently, pvalue, woken, preempted, commands, on_propose}
use Rattle.leader.specs.Adoptions.{IsGreatest, IsOpen, TakesGreatest, adopted, asks_acceptors}
use Rattle.leader.specs.Promises.{at_heard, at_scout, AllowsAt, Hears}
use Rattle.leader.specs.Votes.{at_voted, at_commander, answers_another}
use Rattle.leader.specs.Votes as votes_of
use Rattle.node.specs.Nodes.{NodeState}
use Rattle.agreement.specs.Nodes.{Cluster, node}
use Rattle.agreement.specs.Chosen.{IsChosen}
use Rattle.object.specs.ListLaws.{Each-weaker, Each-map, Each-all, In-left, In-right, In-cases, In-map}
use Rattle.ballot.specs.OrderLaws.{BallotLaws, IsUpto, IsUnder, not_both, below_round, upto_trans, below_then_upto}
use Rattle.agreement.proofs.chosen.Sets.{nobody_has, has_add}
use Rattle.node.specs.SlotLaws.{get_insert_same, get_insert_cases, get_remove_cases, none_in_empty, absent, entries_get, get_each_value, get_entries}
use Rattle.agreement.proofs.chosen.Invariants.{Asked, IsBlocked, IsSafe, IsPromise, IsVote, IsTrueOf, MayPropose}
use Rattle.agreement.proofs.chosen.Invariants.{IsGathering, IsScouting, IsVoting, IsNode, IsSound}
use Rattle.agreement.proofs.chosen.Grows.{Grows, safe_stays, scouting_stays, voting_stays, chosen_stays}
use Rattle.agreement.proofs.chosen.Turns.{IsOwn}
use Rattle.agreement.proofs.chosen.Good.{IsGood, good_silent, good_if}

pub some_same : {A : Type 0} {a b : A} → Some a ≡ Some b → a ≡ b
some_same e = cc

pub none_not : {A : Type 0} {P : Type 0} {a : A} {o : Option A} → o ≡ None → o ≡ Some a → P
none_not e f = absurd (cc)

pub off_on : {P : Type 0} {b : Bool} → b ≡ false → b ≡ true → P
off_on e f = absurd (true≢false (sym f ∙ e))

idle : {C : Type 0} (a : Bool) (o : Option (Scouting C)) → (not a && is_none o) ≡ true → a ≡ false
idle true o e = absurd (true≢false (sym e))
idle false o e = refl

module _ (laws : BallotLaws) {C : Type 0} (k : Cluster C) (i : IsSound k) (n : ℕ) (x : NodeState C) (h : IsNode k n x) where
  -- nothing is said, ballot and proposals stay, and so do the scouts and commanders or they are good ones
  quiet_good : (l : Leading C) → l.members ≡ x.leader.members → l.ballot ≡ x.leader.ballot → l.active ≡ x.leader.active → l.proposals ≡ x.leader.proposals
      → ((z : Cluster C) → Grows k z → (s : Scouting C) → l.scout ≡ Some s → IsScouting z x.leader s)
      → ((z : Cluster C) → Grows k z → (s : ℕ) (c : Commanding C) → get l.commanders s ≡ Some c → IsVoting z x.leader s c)
      → IsGood k n x (silently l)
  quiet_good l same_members same_ballot same_active same_proposals scouting commanding = record {
    owner = ap (λ b. b.node) same_ballot ∙ h.owner;
    boot = ap (λ b. b.boot) same_ballot ∙ h.boot;
    moves = inr (sym same_ballot, (λ a. same_active ∙ a), (λ s c a e. ap (λ m. get m s) same_proposals ∙ e));
    own = tt;
    fine = λ z g said. record {
      members = same_members ∙ h.leader.members ∙ sym g.members;
      safe = λ on s c may. subst (λ b. IsSafe z b s c) (sym same_ballot)
          (safe_stays laws k z g x.leader.ballot s c
          (h.leader.safe (sym same_active ∙ on) s c
          (subst (λ m. (get m s ≡ None) ⊎ (get m s ≡ Some c)) same_proposals may)));
      scouting = λ s e. let q = scouting z g s e in record {
        own = record { members = q.own.members ∙ sym same_members; ballot = q.own.ballot ∙ sym same_ballot };
        asleep = same_active ∙ q.asleep;
        gathering = subst (λ b. IsGathering z b s.heard s.gathered) (sym same_ballot) q.gathering;
      };
      commanding = λ s c e. let q = commanding z g s c e in record {
        own = record { members = q.own.members ∙ sym same_members; ballot = q.own.ballot ∙ sym same_ballot; slot = q.own.slot };
        sent = q.sent;
        heard = q.heard;
      };
    };
    true_says = λ z g. tt;
  }

  same_scouts : (z : Cluster C) → Grows k z → (s : Scouting C) → x.leader.scout ≡ Some s → IsScouting z x.leader s
  same_scouts z g s e = scouting_stays laws k z g x.leader s (h.leader.scouting s e)

  same_commanders : (z : Cluster C) → Grows k z → (s : ℕ) (c : Commanding C) → get x.leader.commanders s ≡ Some c → IsVoting z x.leader s c
  same_commanders z g s c e = voting_stays k z g x.leader s c (h.leader.commanding s c e)

  -- no P2a is sent, and the leader keeps its ballot and its proposals
  pub woken_good : IsGood k n x (woken x.leader)
  woken_good = good_if k n x _ (silently x.leader) _
      (λ e. record {
        owner = h.owner;
        boot = h.boot;
        moves = inr (refl, (λ a. a), (λ s c a f. f));
        own = ((λ p f. absurd (cc)), tt);
        fine = λ z g said. record {
          members = h.leader.members ∙ sym g.members;
          safe = λ on s c may. safe_stays laws k z g x.leader.ballot s c (h.leader.safe on s c may);
          scouting = λ s f. subst (λ (y : Scouting C). IsScouting z
              (record x.leader { scout = Some (new_scout x.leader.members x.leader.ballot) }) y) (some_same f) (record {
                own = record { members = refl; ballot = refl };
                asleep = idle x.leader.active x.leader.scout e;
                gathering = record { sent = λ p b. absurd b; reports = λ m b. nobody_has m b };
              });
          commanding = λ s c f. let q = same_commanders z g s c f
              in record {
                own = record { members = q.own.members; ballot = q.own.ballot; slot = q.own.slot };
                sent =
                    q.sent;
                heard = q.heard;
              };
        };
        true_says = λ z g. (tt, tt);
      })
      (λ e. good_silent laws k n x h)

  preempted_if : (b : Numbers) (test : Bool) → is_below x.leader.ballot b ≡ test
      → IsGood k n x (silently (cond test
      (record x.leader {
        ballot = next_after b x.leader.ballot.node x.leader.ballot.boot;
        active = false;
        scout =
            None;
        commanders = empty;
      }) x.leader))
  preempted_if b true e = record {
    owner = h.owner;
    boot = h.boot;
    moves = inl (let r = below_round x.leader.ballot b e in omega arith);
    own = tt;
    fine = λ z g said. record {
      members = h.leader.members ∙ sym g.members;
      safe = λ on s c may. off_on refl on;
      scouting = λ s f. none_not refl f;
      commanding = λ s c f. none_in_empty s c f;
    };
    true_says = λ z g. tt;
  }
  preempted_if b false e = good_silent laws k n x h

  pub preempted_good : (b : Numbers) → IsGood k n x (silently (preempted x.leader b))
  preempted_good b = preempted_if b (is_below x.leader.ballot b) refl

  -- a leader that has heard a majority
  module _ (heard : List Bool) (gathered : List (Pvalue C)) (gathering : IsGathering k x.leader.ballot heard gathered)
      (majority : is_majority k.members heard ≡ true) where
    under : (a b : Numbers) (o : Option Numbers) → is_below a b ≡ true → IsUpto b o → IsUnder a o
    under a b None below up = up
    under a b (Some y) below up = below_then_upto laws a b y below up

    -- no gathered pvalue of the slot is at a or above
    blocked : (a : Numbers) (s : ℕ) → is_below a x.leader.ballot ≡ true
        → ((q : Pvalue C) → In q gathered → q.slot ≡ s → is_below q.ballot a ≡ false → ⊥) → IsBlocked k a s
    blocked a s below none = record {
      row = heard;
      majority = majority;
      promised = λ m b. under a x.leader.ballot (node k m).acceptor.promised below (gathering.reports m b).1.promised;
      nothing = λ m b c accepted.
          let r = gathering.reports m b in
          let q = r.1.greatest (pvalue a s c) accepted below in
          none q.0 (r.2 q.0 q.1) q.2 q.3;
    }

    whole : (p : Pvalue C) (a : Numbers) (s : ℕ) (c : C) → p.ballot ≡ a → p.slot ≡ s → p.value ≡ c → p ≡ pvalue a s c
    whole p a s c e f g = λ j. record { ballot = e j; slot = f j; value = g j }

    safe_at : (new : Slots C) (s : ℕ) (c : C)
        → (IsOpen gathered s × (get new s ≡ get x.leader.proposals s)) ⊎ ((p : Pvalue C) × IsGreatest gathered s p × (get new s ≡ Some p.value))
        → (get new s ≡ None) ⊎ (get new s ≡ Some c) → IsSafe k x.leader.ballot s c
    safe_at new s c (inl old) may a below = inr (blocked a s below (λ q b at up. old.0 q b at))
    safe_at new s c (inr p) (inl none) a below = none_not none p.2
    safe_at new s c (inr p) (inr some) a below =
        let same : p.0.value ≡ c = some_same (sym p.2 ∙ some) in
        ⊎_elim
        (λ (lower : is_below a p.0.ballot ≡ true). subst
        (λ (d : C). Asked k.letters (pvalue a s d) ⊎ IsBlocked k a s) same
        (subst (λ t. Asked k.letters (pvalue a t p.0.value) ⊎ IsBlocked k a t) p.1.slot
        (i.safe p.0 (gathering.sent p.0 p.1.within) a lower)))
        (λ (r : (a ≡ p.0.ballot) ⊎ (is_below p.0.ballot a ≡ true)). ⊎_elim
        (λ (e : a ≡ p.0.ballot). inl (subst (Asked k.letters) (whole p.0 a s c (sym e) p.1.slot same) (gathering.sent p.0 p.1.within)))
        (λ (higher : is_below p.0.ballot a ≡ true). inr
        (blocked a s below (λ q b at up. not_both higher
        (upto_trans laws a q.ballot p.0.ballot up (p.1.greatest q b at)))))
        r)
        (laws.total a p.0.ballot)

    is_own : (new : Slots C) (e : ℕ × C) (p : Pvalue C) → pvalue x.leader.ballot e.0 e.1 ≡ p → get new e.0 ≡ Some e.1
        → (p.ballot ≡ x.leader.ballot) × (true ≡ true) × (get new p.slot ≡ Some p.value)
    is_own new e p same there = subst
        (λ (q : Pvalue C). (q.ballot ≡ x.leader.ballot) × (true ≡ true) × (get new q.slot ≡ Some q.value)) same
        (refl, refl, there)

    commander_of : (z : Cluster C) → Grows k z → (new : Slots C)
        → ((p : Pvalue C) → In (P2a p) (asks_acceptors x.leader new) → Asked z.letters p) → (s : ℕ) (v : C)
        → get new s ≡ Some v → IsVoting z (adopted x.leader new).state s
        (new_commander x.leader.members (pvalue x.leader.ballot s v))
    commander_of z g new said s v there = record {
      own = record { members = refl; ballot = refl; slot = refl };
      sent = said (pvalue x.leader.ballot s v) (In-map (λ e. P2a (pvalue x.leader.ballot e.0 e.1)) (s, v) (entries new) (get_entries new s v there));
      heard = λ m b. nobody_has m b;
    }

    adopted_good : x.leader.active ≡ false → (new : Slots C) → TakesGreatest x.leader.proposals gathered new → IsGood k n x (adopted x.leader new)
    adopted_good asleep new taken = record {
      owner = h.owner;
      boot = h.boot;
      moves = inr (refl, (λ a. refl), (λ s c a e. off_on asleep a));
      own = Each-map (IsOwn (adopted x.leader new).state) (λ e. P2a (pvalue x.leader.ballot e.0 e.1)) (entries new)
          (Each-weaker (λ e. get new e.0 ≡ Some e.1)
          (λ e. IsOwn (adopted x.leader new).state (P2a (pvalue x.leader.ballot e.0 e.1)))
          (λ e there p same. is_own new e p (cc) there) (entries new) (entries_get new));
      fine = λ z g said. record {
        members = h.leader.members ∙ sym g.members;
        safe = λ on s c may. safe_stays laws k z g x.leader.ballot s c (safe_at new s c (taken s) may);
        scouting = λ y f. none_not refl f;
        commanding = λ s cm f.
            let v = get_each_value (λ s c. new_commander x.leader.members (pvalue x.leader.ballot s c)) new s cm f in
            subst (λ (y : Commanding C). IsVoting z (adopted x.leader new).state s y) (sym v.2) (commander_of z g new said s v.0 v.1);
      };
      true_says = λ z g. Each-map (IsTrueOf z n) (λ e. P2a (pvalue x.leader.ballot e.0 e.1)) (entries new) (Each-all _ (entries new) (λ e. tt));
    }

  -- a scout that stands after it heard a member
  scout_good : (s : Scouting C) → IsScouting k x.leader s → IsGood k n x (silently (record x.leader { scout = Some s }))
  scout_good s is = quiet_good (record x.leader { scout = Some s }) refl refl refl refl
      (λ z g y f. subst (IsScouting z x.leader) (some_same f) (scouting_stays laws k z g x.leader s is))
      same_commanders

  heard_if : (taken : Slots C) (s : Scouting C) → IsScouting k x.leader s → (test : Bool)
      → is_majority s.members s.heard ≡ test → AllowsAt x.leader.proposals s (cond test Adopted Wait) taken
      → IsGood k n x (at_heard x.leader taken s (cond test Adopted Wait))
  heard_if taken s is true e allowed =
      adopted_good s.heard s.gathered is.gathering (subst (λ ws. is_majority ws s.heard ≡ true) (is.own.members ∙ h.leader.members) e) is.asleep taken allowed
  heard_if taken s is false e allowed = scout_good s is

  -- the scout with one more P1b
  more : (s : Scouting C) (m : ℕ) (report fresh : List (Pvalue C)) → IsFresh s.gathered report fresh
      → IsScouting k x.leader s → IsPromise k m x.leader.ballot report → IsScouting k x.leader (gathers s m fresh).scout
  more s m report fresh f is p = record {
    own = record { members = is.own.members; ballot = is.own.ballot };
    asleep = is.asleep;
    gathering = record {
      sent = λ q b. ⊎_elim (λ (old : In q s.gathered). is.gathering.sent q old) (λ (new : In q fresh). p.sent q (f.part q new)) (In-cases q s.gathered fresh b);
      reports = λ j b. ⊎_elim
          (λ (e : j ≡ m). (
            report,
            subst (λ y. IsPromise k y x.leader.ballot report) (sym e) p,
            λ q c. ⊎_elim
                (λ (old : In q s.gathered). In-left q s.gathered fresh old)
                (λ (new : In q fresh). In-right q s.gathered fresh new) (f.all q c),
          ))
          (λ (old : has s.heard j ≡ true). let r = is.gathering.reports j old in (r.0, r.1, λ q c. In-left q s.gathered fresh (r.2 q c)))
          (has_add s.heard m j b);
    };
  }

  -- what a scout makes of a P1b, and what the leader makes of that
  abbrev AtHearing : Slots C → Hearing C → Type 0
  AtHearing taken v = AllowsAt x.leader.proposals v.scout v.says taken → IsGood k n x (at_heard x.leader taken v.scout v.says)

  hearing_if : (taken : Slots C) (test : Bool) (v w : Hearing C) → (test ≡ true → AtHearing taken v)
      → (test ≡ false → AtHearing taken w) → AtHearing taken (cond test v w)
  hearing_if taken true v w on off = on refl
  hearing_if taken false v w on off = off refl

  hearing_good : (m : ℕ) (b : Numbers) (report fresh : List (Pvalue C)) → IsPromise k m b report
      → (taken : Slots C) (s : Scouting C) → TakesFresh s m b report fresh → IsScouting k x.leader s
      → AtHearing taken (scouts.on_p1b s m b fresh)
  hearing_good m b report fresh p taken s takes is =
      hearing_if taken (is_member s.members m) _ (unmoved s Wait)
      (λ member. hearing_if taken (is_same b s.ballot) (gathers s m fresh) _
      (λ mine allowed. heard_if taken (gathers s m fresh).scout
      (more s m report fresh (takes (record { member = member; same = laws.same b s.ballot mine })) is
      (subst (λ y. IsPromise k m y report) (laws.same b s.ballot mine ∙ is.own.ballot) p))
      (is_majority s.members (add s.heard m)) refl allowed)
      (λ other. hearing_if taken (is_below s.ballot b) (unmoved s (Preempted b)) (unmoved s Wait)
      (λ up allowed. preempted_good b)
      (λ down allowed. scout_good s is)))
      (λ stranger allowed. scout_good s is)

  pub p1b_good : (m : ℕ) (b : Numbers) (report fresh : List (Pvalue C)) → IsPromise k m b report → (taken : Slots C)
      → Hears x.leader m b report fresh taken → (o : Option (Scouting C)) → x.leader.scout ≡ o
      → IsGood k n x (at_scout x.leader m b fresh taken o)
  p1b_good m b report fresh p taken may None e = good_silent laws k n x h
  p1b_good m b report fresh p taken may (Some s) e = hearing_good m b report fresh p taken s (may.gathers s e) (h.leader.scouting s e) (may.takes s e)

  -- a commander that stands after it heard a member
  commander_good : (s : ℕ) (c : Commanding C) → IsVoting k x.leader s c
      → IsGood k n x (silently (record x.leader { commanders = insert x.leader.commanders s c }))
  commander_good s c is = quiet_good (record x.leader { commanders = insert x.leader.commanders s c }) refl refl refl refl
      same_scouts
      (λ z g t y f. ⊎_elim
      (λ (same : (t ≡ s) × (get (insert x.leader.commanders s c) t ≡ Some c)). subst
      (λ (q : ℕ × Commanding C). IsVoting z x.leader q.0 q.1) (λ j. (sym same.0 j, some_same (sym same.1 ∙ f) j))
      (voting_stays k z g x.leader s c is))
      (λ (apart : (t ≢ s) × (get (insert x.leader.commanders s c) t ≡ get x.leader.commanders t)). same_commanders z g t y (sym apart.1 ∙ f))
      (get_insert_cases x.leader.commanders s c t))

  -- a commander that a majority has accepted
  chosen_by : (s : ℕ) (c : Commanding C) → IsVoting k x.leader s c → is_majority c.members c.heard ≡ true → IsChosen k s c.pvalue.value
  chosen_by s c is majority = (
    c.pvalue.ballot,
    record {
      voters = c.heard;
      majority = subst (λ ws. is_majority ws c.heard ≡ true) (is.own.members ∙ h.leader.members) majority;
      accepted = λ m b. subst (λ t. In (pvalue c.pvalue.ballot t c.pvalue.value) (node k m).acceptor.accepted) is.own.slot (is.heard m b);
    },
  )

  decided_good : (s : ℕ) (c : Commanding C) → IsVoting k x.leader s c → is_majority c.members c.heard ≡ true → IsGood k n x (at_voted x.leader s c Decided)
  decided_good s c is majority = record {
    owner = h.owner;
    boot = h.boot;
    moves = inr (refl, (λ a. a), (λ s c a f. f));
    own = ((λ p f. absurd (cc)), tt);
    fine = λ z g said. record {
      members = h.leader.members ∙ sym g.members;
      safe = λ on s c may. safe_stays laws k z g x.leader.ballot s c (h.leader.safe on s c may);
      scouting = λ y f. let q = same_scouts z g y f
          in record {
            own = record { members = q.own.members; ballot = q.own.ballot };
            asleep = q.asleep;
            gathering =
                q.gathering;
          };
      commanding = λ t y f. let q = same_commanders z g t y
          (get_remove_cases x.leader.commanders s t y f)
          in record {
            own = record { members = q.own.members; ballot = q.own.ballot; slot = q.own.slot };
            sent =
                q.sent;
            heard = q.heard;
          };
    };
    true_says = λ z g. (chosen_stays k z g s c.pvalue.value (chosen_by s c is majority), tt);
  }

  voted_if : (s : ℕ) (c : Commanding C) → IsVoting k x.leader s c → (test : Bool) → is_majority c.members c.heard ≡ test
      → IsGood k n x (at_voted x.leader s c (cond test Decided VoteWaits))
  voted_if s c is true e = decided_good s c is e
  voted_if s c is false e = commander_good s c is

  -- the commander with one more vote
  one_more : (s m : ℕ) (c : Commanding C) → IsVoting k x.leader s c → IsVote k m s x.leader.ballot → IsVoting k x.leader s (counts c m).commander
  one_more s m c is vote = record {
    own = record { members = is.own.members; ballot = is.own.ballot; slot = is.own.slot };
    sent = is.sent;
    heard = λ j b. ⊎_elim
        (λ (e : j ≡ m). subst (λ y. In c.pvalue (node k y).acceptor.accepted) (sym e) (subst (λ (p : Pvalue C). In p (node k m).acceptor.accepted) same vote.1))
        (λ (old : has c.heard j ≡ true). is.heard j old)
        (has_add c.heard m j b);
  }
    where
      same : pvalue x.leader.ballot s vote.0 ≡ c.pvalue
      same = let v : vote.0 ≡ c.pvalue.value =
          i.unique (pvalue x.leader.ballot s vote.0) c.pvalue
          ((i.nodes m).acceptor.sent (pvalue x.leader.ballot s vote.0) vote.1) is.sent (sym is.own.ballot)
          (sym is.own.slot) in
          λ j. record { ballot = sym is.own.ballot j; slot = sym is.own.slot j; value = v j }

  -- what a commander makes of a P2b, and what the leader makes of that
  abbrev AtVoting : ℕ → Voting C → Type 0
  AtVoting s v = IsGood k n x (at_voted x.leader s v.commander v.says)

  voting_if : (s : ℕ) (test : Bool) (v w : Voting C) → (test ≡ true → AtVoting s v) → (test ≡ false → AtVoting s w) → AtVoting s (cond test v w)
  voting_if s true v w on off = on refl
  voting_if s false v w on off = off refl

  votes_good : (m : ℕ) (b : Option Numbers) (s : ℕ) (c : Commanding C) → IsVoting k x.leader s c
      → (is_promise b x.leader.ballot ≡ true → IsVote k m s x.leader.ballot) → AtVoting s (votes c m b)
  votes_good m None s c is vote = commander_good s c is
  votes_good m (Some b) s c is vote =
      voting_if s (is_same b c.pvalue.ballot) (counts c m) _
      (λ mine. voted_if s (counts c m).commander (one_more s m c is (vote (ap (is_same b) (sym is.own.ballot) ∙ mine)))
      (is_majority c.members (add c.heard m)) refl)
      (λ other. voting_if s (is_below c.pvalue.ballot b) _ _ (λ up. preempted_good b) (λ down. commander_good s c is))

  at_commander_good : (m : ℕ) (b : Option Numbers) (s : ℕ)
      → (is_promise b x.leader.ballot ≡ true → IsVote k m s x.leader.ballot) → (o : Option (Commanding C))
      → get x.leader.commanders s ≡ o → IsGood k n x (at_commander x.leader m b s o)
  at_commander_good m b s vote None e = good_silent laws k n x h
  at_commander_good m b s vote (Some c) e =
      let is = h.leader.commanding s c e in
      voting_if s (is_member c.members m) _ _ (λ member. votes_good m b s c is vote) (λ stranger. commander_good s c is)

  -- a vote of the leader's ballot answers a P2a of it
  promise_is : (o : Option Numbers) (b : Numbers) → is_promise o b ≡ true → o ≡ Some b
  promise_is None b e = absurd (true≢false (sym e))
  promise_is (Some y) b e = ap (λ (z : Numbers). Some z) (laws.same y b e)

  answers_own : (a b : Bool) → (a && not b) ≡ false → a ≡ true → b ≡ true
  answers_own true true e f = refl
  answers_own true false e f = absurd (true≢false e)
  answers_own false b e f = absurd (true≢false (sym f))

  pub p2b_good : (m : ℕ) (b : Option Numbers) (s : ℕ) (by : Numbers) → (b ≡ Some by → IsVote k m s by) → IsGood k n x (votes_of.on_p2b x.leader m b s by)
  p2b_good m b s by vote = good_if k n x (silently x.leader) _ (answers_another x.leader b by)
      (λ another. good_silent laws k n x h)
      (λ own. at_commander_good m b s
      (λ mine.
      let same : by ≡ x.leader.ballot = laws.same by x.leader.ballot (answers_own (is_promise b x.leader.ballot) (is_same by x.leader.ballot) own mine) in
      subst (IsVote k m s) same (vote (promise_is b x.leader.ballot mine ∙ ap (λ (y : Numbers). Some y) (sym same))))
      (get x.leader.commanders s) refl)

  -- a proposal is added where there was none
  may_before : (s : ℕ) (c : C) → get x.leader.proposals s ≡ None → (t : ℕ) (d : C)
      → (get (insert x.leader.proposals s c) t ≡ None) ⊎ (get (insert x.leader.proposals s c) t ≡ Some d)
      → MayPropose x.leader t d
  may_before s c none t d may = ⊎_elim
      (λ (same : (t ≡ s) × (get (insert x.leader.proposals s c) t ≡ Some c)). inl (ap (λ y. get x.leader.proposals y) same.0 ∙ none))
      (λ (apart : (t ≢ s) × (get (insert x.leader.proposals s c) t ≡ get x.leader.proposals t)). subst (λ o. (o ≡ None) ⊎ (o ≡ Some d)) apart.1 may)
      (get_insert_cases x.leader.proposals s c t)

  added : (s : ℕ) (c : C) → get x.leader.proposals s ≡ None → (t : ℕ) (d : C) → get x.leader.proposals t ≡ Some d
      → get (insert x.leader.proposals s c) t ≡ Some d
  added s c none t d e = ⊎_elim
      (λ (same : (t ≡ s) × (get (insert x.leader.proposals s c) t ≡ Some c)). none_not (ap (λ y. get x.leader.proposals y) same.0 ∙ none) e)
      (λ (apart : (t ≢ s) × (get (insert x.leader.proposals s c) t ≡ get x.leader.proposals t)). apart.1 ∙ e)
      (get_insert_cases x.leader.proposals s c t)

  its_own : (s : ℕ) (c : C) (p : Pvalue C) → pvalue x.leader.ballot s c ≡ p → x.leader.active ≡ true
      → (p.ballot ≡ x.leader.ballot) × (x.leader.active ≡ true)
      × (get (insert x.leader.proposals s c) p.slot ≡ Some p.value)
  its_own s c p same on = subst (λ (q : Pvalue C). (q.ballot ≡ x.leader.ballot) × (x.leader.active ≡ true)
      × (get (insert x.leader.proposals s c) q.slot ≡ Some q.value)) same
      (refl, on, get_insert_same x.leader.proposals s c)

  commands_good : (s : ℕ) (c : C) → get x.leader.proposals s ≡ None → x.leader.active ≡ true → IsGood k n x (commands x.leader s c)
  commands_good s c none on = record {
    owner = h.owner;
    boot = h.boot;
    moves = inr (refl, (λ a. a), (λ t d a f. added s c none t d f));
    own = ((λ p f. its_own s c p (cc) on), tt);
    fine = λ z g said. record {
      members = h.leader.members ∙ sym g.members;
      safe = λ awake t d may. safe_stays laws k z g x.leader.ballot t d (h.leader.safe awake t d (may_before s c none t d may));
      scouting = λ y f. off_on (h.leader.scouting y f).asleep on;
      commanding = λ t y f. ⊎_elim
          (λ (same : (t ≡ s) × (get (insert x.leader.commanders s new) t ≡ Some new)). subst
          (λ (q : ℕ × Commanding C). IsVoting z (commands x.leader s c).state q.0 q.1)
          (λ j. (sym same.0 j, some_same (sym same.1 ∙ f) j))
          (record {
            own = record { members = refl; ballot = refl; slot = refl };
            sent =
                said (pvalue x.leader.ballot s c) (inl refl);
            heard = λ m b. nobody_has m b;
          }))
          (λ (apart : (t ≢ s) × (get (insert x.leader.commanders s new) t ≡ get x.leader.commanders t)). let q =
          same_commanders z g t y (sym apart.1 ∙ f)
          in record {
            own = record { members = q.own.members; ballot = q.own.ballot; slot = q.own.slot };
            sent =
                q.sent;
            heard = q.heard;
          })
          (get_insert_cases x.leader.commanders s new t);
    };
    true_says = λ z g. (tt, tt);
  }
    where
      new : Commanding C
      new = new_commander x.leader.members (pvalue x.leader.ballot s c)

  kept_good : (s : ℕ) (c : C) → get x.leader.proposals s ≡ None → x.leader.active ≡ false
      → IsGood k n x (silently (record x.leader { proposals = insert x.leader.proposals s c }))
  kept_good s c none off = record {
    owner = h.owner;
    boot = h.boot;
    moves = inr (refl, (λ a. a), (λ t d a f. added s c none t d f));
    own = tt;
    fine = λ z g said. record {
      members = h.leader.members ∙ sym g.members;
      safe = λ on t d may. off_on off on;
      scouting = λ y f. let q = same_scouts z g y f
          in record {
            own = record { members = q.own.members; ballot = q.own.ballot };
            asleep = q.asleep;
            gathering =
                q.gathering;
          };
      commanding = λ t y f. let q = same_commanders z g t y f
          in record {
            own = record { members = q.own.members; ballot = q.own.ballot; slot = q.own.slot };
            sent =
                q.sent;
            heard = q.heard;
          };
    };
    true_says = λ z g. tt;
  }

  pub proposed_good : (s : ℕ) (c : C) → IsGood k n x (on_propose x.leader s c)
  proposed_good s c = good_if k n x (silently x.leader) _ (contains_key x.leader.proposals s)
      (λ there. good_silent laws k n x h)
      (λ free. good_if k n x _ _ x.leader.active
      (λ on. commands_good s c (absent x.leader.proposals s free) on)
      (λ off. kept_good s c (absent x.leader.proposals s free) off))
