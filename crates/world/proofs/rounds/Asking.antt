-- A round: node 1 asks again whatever it waits for, and each answer comes back at once.
use Rattle.std.proofs.Common.{◌≡◌, ◌≢◌, ◌⊎◌, inl, inr, ⊎_elim, ℕ, zero, suc, ◌+◌, ◌-◌, ◌*◌, ◌<◌, ◌≤◌, Bool, true, false}
use Rattle.std.proofs.Common.{cond, List, [], ◌∷◌, length, Option, None, Some, refl, sym, ap, ◌∙◌, subst, arith}
use Rattle.std.specs.FinMap.{empty, get, contains_key, insert, remove, get-empty, get-remove}
use Rattle.std.specs.Ordering.{nat_cmp, eq_by_cmp}
use Rattle.std.specs.Cmp.{nat_cmp_total}
use Rattle.std.proofs.lemmas.Bool.Decides.{nat_tests}
use Rattle.std.proofs.lemmas.Bool.{cases_eq}
use Rattle.object.specs.declared.command.Command.{Command}
use Rattle.ballot.specs.Ballots.{Numbers, is_below, is_same, is_promise, is_promise_below, higher, next_after}
use Rattle.ballot.specs.Letters.{letter}
use Rattle.ballot.specs.Members.{is_member, has, add}
use Rattle.ballot.specs.OrderLaws.{BallotLaws, not_both, same_itself}
use Rattle.ballot.specs.Slots.{Slots}
use Rattle.ballot.specs.declared.pvalue.Pvalue.{Pvalue}
use Rattle.ballot.specs.declared.letter.LetterBody.{LetterBody}
use Rattle.ballot.specs.declared.letter.LetterBody.TheVariants.{P1a, P2a}
use Rattle.node.specs.SlotLaws.{get_insert_cases, get_remove_cases}
use Rattle.scout_commander.specs.Scouts.{Scouting}
use Rattle.scout_commander.specs.Commanders.{Commanding}
use Rattle.leader.specs.Leaders.{silently, preempted}
use Rattle.leader.specs.Votes as votes
use Rattle.leader.specs.Votes.{answers_another, at_commander}
use Rattle.agreement.specs.Nodes.{node}
use Rattle.agreement.specs.Worlds.{World}
use Rattle.agreement.proofs.chosen.LeaderRows.{some_same, none_not, off_on}
use Rattle.agreement.proofs.chosen.Sets.{member_bounds}
use Rattle.world.specs.WaysOut.{first_leader, rivals, IsTalk, AsksAt, IsBeaten}
use Rattle.world.proofs.leading.LeaderCases.{Covers, HearsPromise, no_scout, gathers_more, adopts, gives_up, HearsVote}
use Rattle.world.proofs.leading.LeaderCases.{no_commander, stays, counts_more, decides, gives_way, given_up}
use Rattle.world.proofs.leading.LeaderCases.{preempted_is, promise_cases, vote_cases}
use Rattle.world.proofs.rounds.Talking.{AsksPromise, AsksVote, exchange_talks, talk_on}
use Rattle.world.proofs.rounds.Rivals.{promises as promised_cases, not_below, below_next, fewer_rivals, rivals_stay}

-- it asks a member for what the leader waits for
pub data IsAsk {Op Reply : Type 0} (w : World Op Reply) (j : ℕ) : Type 0 where
  promise : (m : ℕ) → is_member w.cluster.members m ≡ true → (first_leader w.cluster).active ≡ false
      → AsksAt w j (P1a (first_leader w.cluster).ballot) m → IsAsk w j
  vote : (m s : ℕ) (c : Commanding (Command Op)) → is_member w.cluster.members m ≡ true
      → (first_leader w.cluster).active ≡ true → get (first_leader w.cluster).commanders s ≡ Some c
      → AsksAt w j (P2a c.pvalue) m → IsAsk w j

-- The letters from `start` up to `stop` ask each member for each thing that the leader waits for.
pub record IsRound {Op Reply : Type 0} (w : World Op Reply) (start stop : ℕ) : Type 0 where
  pub each : (j : ℕ) → start ≤ j → j < stop → IsAsk w j
  pub scout : (s : Scouting (Command Op)) → (first_leader w.cluster).scout ≡ Some s → (m : ℕ)
      → is_member w.cluster.members m ≡ true → (j : ℕ) × (start ≤ j) × (j < stop)
      × AsksAt w j (P1a (first_leader w.cluster).ballot) m
  pub commanders : (s : ℕ) (c : Commanding (Command Op)) → get (first_leader w.cluster).commanders s ≡ Some c → (m : ℕ)
      → is_member w.cluster.members m ≡ true → (j : ℕ) × (start ≤ j) × (j < stop) × AsksAt w j (P2a c.pvalue) m

-- what the leader's parts are, in every world
pub record IsManned {Op Reply : Type 0} (w : World Op Reply) : Type 0 where
  pub scout : (s : Scouting (Command Op)) → (first_leader w.cluster).scout ≡ Some s → (s.members ≡ w.cluster.members)
      × (s.ballot ≡ (first_leader w.cluster).ballot) × ((first_leader w.cluster).active ≡ false) × (length s.heard ≡ 7)
  pub commander : (s : ℕ) (c : Commanding (Command Op)) → get (first_leader w.cluster).commanders s ≡ Some c
      → (c.members ≡ w.cluster.members) × (c.pvalue.ballot ≡ (first_leader w.cluster).ballot) × (c.pvalue.slot ≡ s)
      × (length c.heard ≡ 7)

-- the scout that stands has heard all those that were asked so far
abbrev pub HasHeard : {Op Reply : Type 0} → World Op Reply → ℕ → ℕ → Scouting (Command Op) → Type 0
HasHeard w start p s = (j m : ℕ) → start ≤ j → j < p → AsksAt w j (P1a (first_leader w.cluster).ballot) m → has s.heard m ≡ true

-- A commander that stands did so at the beginning. Of those that it asked so far none has promised a ballot above its
-- own, and it has heard each that promised that.
pub record IsHearing {Op Reply : Type 0} (old now : World Op Reply) (start p : ℕ) (s : ℕ) (c : Commanding (Command Op)) : Type 0 where
  pub before : Commanding (Command Op)
  pub stood : get (first_leader old.cluster).commanders s ≡ Some before
  pub same : before.pvalue ≡ c.pvalue
  pub below : (j m : ℕ) → start ≤ j → j < p → AsksAt old j (P2a c.pvalue) m
      → is_promise_below (Some (first_leader old.cluster).ballot) (node now.cluster m).acceptor.promised ≡ false
  pub heard : (j m : ℕ) → start ≤ j → j < p → AsksAt old j (P2a c.pvalue) m
      → (node now.cluster m).acceptor.promised ≡ Some (first_leader old.cluster).ballot → has c.heard m ≡ true

-- the leader goes on with its ballot
pub record IsGoing {Op Reply : Type 0} (old now : World Op Reply) (start p : ℕ) : Type 0 where
  pub ballot : (first_leader now.cluster).ballot ≡ (first_leader old.cluster).ballot
  pub asleep : (first_leader old.cluster).active ≡ false → ((first_leader now.cluster).active ≡ true)
      ⊎ ((s : Scouting (Command Op)) × ((first_leader now.cluster).scout ≡ Some s) × HasHeard old start p s)
  pub awake : (first_leader old.cluster).active ≡ true → (first_leader now.cluster).active ≡ true
  pub commanders : (first_leader old.cluster).active ≡ true → (s : ℕ) (c : Commanding (Command Op))
      → get (first_leader now.cluster).commanders s ≡ Some c → IsHearing old now start p s c

-- between two questions of a round
pub record IsAsking {Op Reply : Type 0} (old now : World Op Reply) (start p : ℕ) : Type 0 where
  pub talk : IsTalk old now
  pub promised : (j : ℕ) → ((node now.cluster j).acceptor.promised ≡ (node old.cluster j).acceptor.promised)
      ⊎ ((node now.cluster j).acceptor.promised ≡ Some (first_leader old.cluster).ballot)
  pub spent : now.taken ≡ old.taken + 2 * (p - start)
  pub so_far : IsGoing old now start p ⊎ IsBeaten old now

has_add_own : (row : List Bool) (m : ℕ) → 0 < m → m ≤ length row → has (add row m) m ≡ true
has_add_own row zero some few = absurd (omega arith)
has_add_own [] (suc i) some few = absurd (omega arith)
has_add_own (b ∷ row) (suc zero) some few = refl
has_add_own (b ∷ row) (suc (suc i)) some few = has_add_own row (suc i) (omega arith) (omega arith)

has_add_other : (row : List Bool) (n m : ℕ) → has row m ≡ true → has (add row n) m ≡ true
has_add_other row zero m h = h
has_add_other [] (suc i) m h = h
has_add_other (b ∷ row) (suc i) zero h = absurd (cc)
has_add_other (b ∷ row) (suc zero) (suc zero) h = refl
has_add_other (b ∷ row) (suc zero) (suc (suc j)) h = h
has_add_other (b ∷ row) (suc (suc i)) (suc zero) h = h
has_add_other (b ∷ row) (suc (suc i)) (suc (suc j)) h = has_add_other row (suc i) (suc j) h

get_remove_same : {X P : Type 0} (m : Slots X) (s : ℕ) (v : X) → get (remove m s) s ≡ Some v → P
get_remove_same m s v e = at (eq_by_cmp nat_cmp s s) (grind (arith, nat_tests)) (sym (get-remove nat_cmp_total m s s) ∙ e)
  where
    at : {P : Type 0} (test : Bool) → test ≡ true → cond test None (get m s) ≡ Some v → P
    at true t f = absurd (cc)
    at false t f = absurd (cc)

-- two questions in one letter are one question
one_question : {Op Reply : Type 0} (w : World Op Reply) (j m n : ℕ) (x y : LetterBody (Command Op)) → AsksAt w j x m → AsksAt w j y n → (x ≡ y) × (m ≡ n)
one_question w j m n x y a b = let e : letter 1 x m ≡ letter 1 y n = cc in (ap (λ l. l.body) e, ap (λ l. l.to) e)

same_vote : {C : Type 0} {p q : Pvalue C} → P2a p ≡ P2a q → p ≡ q
same_vote e = cc

before_or_at : (j p : ℕ) → j < p + 1 → (j < p) ⊎ (j ≡ p)
before_or_at j p h = ⊎_elim (λ (e : j ≡ p). inr e) (λ (n : j ≢ p). inl (omega arith)) (cases_eq j p)

module _ (laws : BallotLaws) {Op Reply : Type 0} (old w v : World Op Reply) (start p : ℕ) (low : start ≤ p) (few : length old.cluster.members ≤ 7) where
  -- what was promised by then, after one more answer
  both_promised : (o q r : Option Numbers) (c : Numbers) → (q ≡ o) ⊎ (q ≡ Some c) → (r ≡ q) ⊎ (r ≡ Some c) → (r ≡ o) ⊎ (r ≡ Some c)
  both_promised o q r c before (inl same) = elim before as (λ y. (r ≡ o) ⊎ (r ≡ Some c)) [ inl e ↦ inl (same ∙ e) | inr e ↦ inr (same ∙ e) ]
  both_promised o q r c before (inr new) = inr new

  -- a leader that gave up has given up
  beaten_still : IsBeaten old w → first_leader v.cluster ≡ first_leader w.cluster → v.cluster.members ≡ w.cluster.members
      → ((j : ℕ) → ((node v.cluster j).acceptor.promised ≡ (node w.cluster j).acceptor.promised)
      ⊎ ((node v.cluster j).acceptor.promised ≡ Some (first_leader old.cluster).ballot)) → IsBeaten old v
  beaten_still h same members promised = record {
    asleep = ap (λ l. l.active) same ∙ h.asleep;
    alone = ap (λ l. l.scout) same ∙ h.alone;
    nobody = ap (λ l. l.commanders) same ∙ h.nobody;
    above = subst (λ l. is_below (first_leader old.cluster).ballot l.ballot ≡ true) (sym same) h.above;
    fewer = subst (λ l. rivals v.cluster l.ballot < rivals old.cluster (first_leader old.cluster).ballot) (sym same)
        (let a = rivals_stay laws w.cluster v.cluster members (first_leader old.cluster).ballot promised
        (first_leader w.cluster).ballot h.above in let c = h.fewer in omega arith);
  }

  -- a leader of the round's ballot gives up for that of m
  beaten_now : (m : ℕ) (x : Numbers) → is_member old.cluster.members m ≡ true → v.cluster.members ≡ old.cluster.members
      → (first_leader w.cluster).ballot ≡ (first_leader old.cluster).ballot
      → (node v.cluster m).acceptor.promised ≡ Some x → is_below (first_leader old.cluster).ballot x ≡ true
      → ((j : ℕ) → ((node v.cluster j).acceptor.promised ≡ (node old.cluster j).acceptor.promised)
      ⊎ ((node v.cluster j).acceptor.promised ≡ Some (first_leader old.cluster).ballot))
      → first_leader v.cluster ≡ preempted (first_leader w.cluster) x → IsBeaten old v
  beaten_now m x member members own now above promised is =
      let c = next_after x (first_leader w.cluster).ballot.node (first_leader w.cluster).ballot.boot in
      let given : first_leader v.cluster ≡ given_up (first_leader w.cluster) x =
      is ∙ preempted_is (first_leader w.cluster) x (subst (λ y. is_below y x ≡ true) (sym own) above) in
      let past : is_below x c ≡ true = below_next x (first_leader w.cluster).ballot.node (first_leader w.cluster).ballot.boot in
      record {
        asleep = ap (λ l. l.active) given;
        alone = ap (λ l. l.scout) given;
        nobody = ap (λ l. l.commanders) given;
        above = subst (λ l. is_below (first_leader old.cluster).ballot l.ballot ≡ true) (sym given)
            (laws.through (first_leader old.cluster).ballot x c above past);
        fewer = subst (λ l. rivals v.cluster l.ballot < rivals old.cluster (first_leader old.cluster).ballot) (sym given)
            (fewer_rivals laws old.cluster v.cluster members (first_leader old.cluster).ballot promised m x c member now above past);
      }

  module _ (before : IsAsking old w start p) (manned : IsManned w) (was : IsManned old) where
    -- a promise of m has come back
    module _ (m : ℕ) (member : is_member old.cluster.members m ≡ true) (asleep : (first_leader old.cluster).active ≡ false)
        (at : AsksAt old p (P1a (first_leader old.cluster).ballot) m) (asked : AsksPromise w v m (first_leader old.cluster).ballot) where
      p1a_step : (j : ℕ) → ((node v.cluster j).acceptor.promised ≡ (node w.cluster j).acceptor.promised)
          ⊎ ((node v.cluster j).acceptor.promised ≡ Some (first_leader old.cluster).ballot)
      p1a_step j = ⊎_elim
          (λ (e : j ≡ m). subst (λ n. ((node v.cluster n).acceptor.promised ≡ (node w.cluster n).acceptor.promised)
          ⊎ ((node v.cluster n).acceptor.promised ≡ Some (first_leader old.cluster).ballot)) (sym e)
          (elim (promised_cases laws (node w.cluster m).acceptor.promised
          (first_leader old.cluster).ballot) as (λ y.
          ((node v.cluster m).acceptor.promised ≡ (node w.cluster m).acceptor.promised)
          ⊎ ((node v.cluster m).acceptor.promised ≡ Some (first_leader old.cluster).ballot)) [
            | inl same ↦ inl (asked.promised ∙ same)
            | inr now ↦ inr (asked.promised ∙ ap (λ y. Some y) now)
          ]))
          (λ (apart : j ≢ m). inl (asked.others j apart))
          (cases_eq j m)

      p1a_promised : (j : ℕ) → ((node v.cluster j).acceptor.promised ≡ (node old.cluster j).acceptor.promised)
          ⊎ ((node v.cluster j).acceptor.promised ≡ Some (first_leader old.cluster).ballot)
      p1a_promised j = both_promised (node old.cluster j).acceptor.promised (node w.cluster j).acceptor.promised
          (node v.cluster j).acceptor.promised (first_leader old.cluster).ballot (before.promised j) (p1a_step j)

      now_member : is_member w.cluster.members m ≡ true
      now_member = subst (λ ms. is_member ms m ≡ true) (sym before.talk.members) member

      -- what comes of it where no scout stands below the promise
      p1a_heard : ((s : Scouting (Command Op)) → (first_leader w.cluster).scout ≡ Some s
          → is_below (higher (node w.cluster m).acceptor.promised (first_leader old.cluster).ballot) s.ballot ≡ false)
          → HearsPromise (first_leader w.cluster) m (higher (node w.cluster m).acceptor.promised (first_leader old.cluster).ballot) (first_leader v.cluster)
      p1a_heard fits = subst (HearsPromise (first_leader w.cluster) m
          (higher (node w.cluster m).acceptor.promised (first_leader old.cluster).ballot)) (sym asked.leader)
          (promise_cases laws (first_leader w.cluster) m
          (higher (node w.cluster m).acceptor.promised (first_leader old.cluster).ballot) asked.fresh asked.taken
          asked.report asked.hears
          (λ s is. (subst (λ ms. is_member ms m ≡ true) (sym (manned.scout s is).0) now_member, fits s is)))

      p1a_covers : HearsPromise (first_leader w.cluster) m
          (higher (node w.cluster m).acceptor.promised (first_leader old.cluster).ballot) (first_leader v.cluster)
          → Covers (first_leader w.cluster).proposals (first_leader v.cluster).proposals
      p1a_covers (no_scout none is) = λ t there. subst (λ l. contains_key l.proposals t ≡ true) (sym is) there
      p1a_covers (gathers_more s t stands same heard is) = λ q there. subst (λ l. contains_key l.proposals q ≡ true) (sym is) there
      p1a_covers (adopts s taken stands same covers is) = λ t there. subst (λ l. contains_key l.proposals t ≡ true) (sym is) (covers t there)
      p1a_covers (gives_up s stands above is) =
          λ t there. subst (λ l. contains_key l.proposals t ≡ true)
          (sym (is ∙ preempted_is (first_leader w.cluster) _
          (subst (λ y. is_below y (higher (node w.cluster m).acceptor.promised (first_leader old.cluster).ballot)
          ≡ true) (manned.scout s stands).1 above))) there

      p1a_going : IsGoing old w start p
          → HearsPromise (first_leader w.cluster) m
          (higher (node w.cluster m).acceptor.promised (first_leader old.cluster).ballot) (first_leader v.cluster)
          → IsGoing old v start (p + 1) ⊎ IsBeaten old v
      p1a_going g (no_scout none is) = inl (record {
        ballot = ap (λ l. l.ballot) is ∙ g.ballot;
        asleep = λ h. elim (g.asleep h) as (λ y. ((first_leader v.cluster).active ≡ true)
            ⊎ ((s : Scouting (Command Op)) × ((first_leader v.cluster).scout ≡ Some s) × HasHeard old start (p + 1) s)) [
              | inl active ↦ inl (ap (λ l. l.active) is ∙ active)
              | inr stands ↦ none_not none stands.1
            ];
        awake = λ h. off_on asleep h;
        commanders = λ h. off_on asleep h;
      })
      p1a_going g (gathers_more s t stands same heard is) = inl (record {
        ballot = ap (λ l. l.ballot) is ∙ g.ballot;
        asleep = λ h. inr (
          t,
          ap (λ l. l.scout) is,
          elim (g.asleep h) as (λ y. HasHeard old start (p + 1) t) [
            | inl active ↦ off_on (manned.scout s stands).2 active
            | inr one ↦ λ j n from under asks. subst (λ row. has row n ≡ true) (sym heard) (⊎_elim
                (λ (early : j < p). has_add_other s.heard m n
                (subst (λ (y : Scouting (Command Op)). has y.heard n ≡ true) (some_same (sym one.1 ∙ stands))
                (one.2 j n from early asks)))
                (λ (now : j ≡ p). let e = one_question old p n m _ _ (subst (λ q. AsksAt old q (P1a (first_leader old.cluster).ballot) n) now asks) at in
                subst (λ q. has (add s.heard m) q ≡ true) (sym e.1)
                (let bounds = member_bounds old.cluster.members m member in let full =
                (manned.scout s stands).3 in has_add_own s.heard m (omega arith) (omega arith)))
                (before_or_at j p under))
          ],
        );
        awake = λ h. off_on asleep h;
        commanders = λ h. off_on asleep h;
      })
      p1a_going g (adopts s taken stands same covers is) = inl (record {
        ballot = ap (λ l. l.ballot) is ∙ g.ballot;
        asleep = λ h. inl (ap (λ l. l.active) is);
        awake = λ h. off_on asleep h;
        commanders = λ h. off_on asleep h;
      })
      p1a_going g (gives_up s stands above is) = inr (beaten_now m _ member (asked.exchange.members ∙ before.talk.members) g.ballot asked.promised
          (subst (λ y. is_below y (higher (node w.cluster m).acceptor.promised (first_leader old.cluster).ballot)
          ≡ true) ((manned.scout s stands).1 ∙ g.ballot) above) p1a_promised is)

      p1a_beaten : IsBeaten old w → HearsPromise (first_leader w.cluster) m
          (higher (node w.cluster m).acceptor.promised (first_leader old.cluster).ballot) (first_leader v.cluster)
          → IsBeaten old v
      p1a_beaten h (no_scout none is) = beaten_still h is asked.exchange.members p1a_step
      p1a_beaten h (gathers_more s t stands same heard is) = none_not h.alone stands
      p1a_beaten h (adopts s taken stands same covers is) = none_not h.alone stands
      p1a_beaten h (gives_up s stands above is) = none_not h.alone stands

      p1a_asking : HearsPromise (first_leader w.cluster) m
          (higher (node w.cluster m).acceptor.promised (first_leader old.cluster).ballot) (first_leader v.cluster)
          → IsGoing old v start (p + 1) ⊎ IsBeaten old v → IsAsking old v start (p + 1)
      p1a_asking heard then = record {
        talk = talk_on old w v before.talk (exchange_talks asked.exchange (p1a_covers heard));
        promised = p1a_promised;
        spent = let a = asked.exchange.count in let c = before.spent in omega arith;
        so_far = then;
      }

      pub promise_asked : IsAsking old v start (p + 1)
      promise_asked = elim before.so_far as (λ y. IsAsking old v start (p + 1)) [
        | inl g ↦ let heard = p1a_heard
            (λ s is. subst (λ y. is_below (higher (node w.cluster m).acceptor.promised
            (first_leader old.cluster).ballot) y ≡ false) (sym ((manned.scout s is).1 ∙ g.ballot))
            (not_below laws (node w.cluster m).acceptor.promised (first_leader old.cluster).ballot)) in
            p1a_asking heard (p1a_going g heard)
        | inr h ↦ let heard = p1a_heard (λ s is. none_not h.alone is) in p1a_asking heard (inr (p1a_beaten h heard))
      ]

    -- a vote of m for the commander of a slot has come back
    module _ (m slot : ℕ) (asking : Commanding (Command Op)) (member : is_member old.cluster.members m ≡ true)
        (active : (first_leader old.cluster).active ≡ true)
        (stood : get (first_leader old.cluster).commanders slot ≡ Some asking) (at : AsksAt old p (P2a asking.pvalue) m)
        (asked : AsksVote w v m asking.pvalue) where
      p2a_promised : (j : ℕ) → ((node v.cluster j).acceptor.promised ≡ (node old.cluster j).acceptor.promised)
          ⊎ ((node v.cluster j).acceptor.promised ≡ Some (first_leader old.cluster).ballot)
      p2a_promised j = both_promised (node old.cluster j).acceptor.promised (node w.cluster j).acceptor.promised
          (node v.cluster j).acceptor.promised (first_leader old.cluster).ballot (before.promised j)
          (inl (asked.promised j))

      of_slot : asking.pvalue.slot ≡ slot
      of_slot = (was.commander slot asking stood).2

      of_ballot : asking.pvalue.ballot ≡ (first_leader old.cluster).ballot
      of_ballot = (was.commander slot asking stood).1

      voter : (c : Commanding (Command Op)) → get (first_leader w.cluster).commanders slot ≡ Some c → is_member c.members m ≡ true
      voter c stands = subst (λ ms. is_member ms m ≡ true) (sym ((manned.commander slot c stands).0 ∙ before.talk.members)) member

      p2a_heard : (first_leader w.cluster).ballot ≡ (first_leader old.cluster).ballot
          → HearsVote (first_leader w.cluster) m (node w.cluster m).acceptor.promised slot (first_leader v.cluster)
      p2a_heard own = subst (HearsVote (first_leader w.cluster) m (node w.cluster m).acceptor.promised slot)
          (sym (asked.leader ∙ ap (λ t. (votes.on_p2b (first_leader w.cluster) m
          (node w.cluster m).acceptor.promised t asking.pvalue.ballot).state) of_slot))
          (vote_cases laws (first_leader w.cluster) m (node w.cluster m).acceptor.promised slot asking.pvalue.ballot (of_ballot ∙ sym own) voter)

      p2a_covers : (first_leader w.cluster).ballot ≡ (first_leader old.cluster).ballot
          → HearsVote (first_leader w.cluster) m (node w.cluster m).acceptor.promised slot (first_leader v.cluster)
          → Covers (first_leader w.cluster).proposals (first_leader v.cluster).proposals
      p2a_covers own (no_commander none is) = λ t there. subst (λ l. contains_key l.proposals t ≡ true) (sym is) there
      p2a_covers own (stays c stands other below is) = λ t there. subst (λ l. contains_key l.proposals t ≡ true) (sym is) there
      p2a_covers own (counts_more c stands promised is) = λ t there. subst (λ l. contains_key l.proposals t ≡ true) (sym is) there
      p2a_covers own (decides c stands promised is) = λ t there. subst (λ l. contains_key l.proposals t ≡ true) (sym is) there
      p2a_covers own (gives_way c y stands promised above is) =
          λ t there. subst (λ l. contains_key l.proposals t ≡ true)
          (sym (is ∙ preempted_is (first_leader w.cluster) y
          (subst (λ z. is_below z y ≡ true) (manned.commander slot c stands).1 above))) there

      -- a commander of another slot
      hears_on : (t : ℕ) (c : Commanding (Command Op)) → get (first_leader w.cluster).commanders t ≡ Some c → t ≢ slot
          → IsHearing old w start p t c → IsHearing old v start (p + 1) t c
      hears_on t c stands apart h = record {
        before = h.before;
        stood = h.stood;
        same = h.same;
        below = λ j n from under asks. ⊎_elim
            (λ (early : j < p). subst (λ o. is_promise_below (Some (first_leader old.cluster).ballot) o ≡ false)
            (sym (asked.promised n)) (h.below j n from early asks))
            (λ (now : j ≡ p). absurd (apart (not_asked j n asks now)))
            (before_or_at j p under);
        heard = λ j n from under asks promised. ⊎_elim
            (λ (early : j < p). h.heard j n from early asks (sym (asked.promised n) ∙ promised))
            (λ (now : j ≡ p). absurd (apart (not_asked j n asks now)))
            (before_or_at j p under);
      }
        where
          not_asked : (j n : ℕ) → AsksAt old j (P2a c.pvalue) n → j ≡ p → t ≡ slot
          not_asked j n asks now =
              let e = one_question old p n m _ _ (subst (λ q. AsksAt old q (P2a c.pvalue) n) now asks) at in
              sym (manned.commander t c stands).2 ∙ ap (λ q. q.slot) (same_vote e.0) ∙ of_slot

      -- the commander that m answered, with those that it has heard by now
      hears_here : (c d : Commanding (Command Op)) → d.pvalue ≡ c.pvalue → ((n : ℕ) → has c.heard n ≡ true → has d.heard n ≡ true)
          → is_promise_below (Some (first_leader old.cluster).ballot) (node w.cluster m).acceptor.promised ≡ false
          → ((node w.cluster m).acceptor.promised ≡ Some (first_leader old.cluster).ballot → has d.heard m ≡ true)
          → IsHearing old w start p slot c → IsHearing old v start (p + 1) slot d
      hears_here c d same more under heard h = record {
        before = h.before;
        stood = h.stood;
        same = h.same ∙ sym same;
        below = λ j n from low asks. subst (λ o. is_promise_below (Some (first_leader old.cluster).ballot) o ≡ false) (sym (asked.promised n)) (⊎_elim
            (λ (early : j < p). h.below j n from early (subst (λ q. AsksAt old j (P2a q) n) same asks))
            (λ (now : j ≡ p). subst (λ k. is_promise_below (Some (first_leader old.cluster).ballot)
            (node w.cluster k).acceptor.promised ≡ false)
            (sym (one_question old p n m _ _ (subst (λ q. AsksAt old q (P2a d.pvalue) n) now asks) at).1) under)
            (before_or_at j p low));
        heard = λ j n from low asks promised. let then = sym (asked.promised n) ∙ promised in ⊎_elim
            (λ (early : j < p). more n (h.heard j n from early (subst (λ q. AsksAt old j (P2a q) n) same asks) then))
            (λ (now : j ≡ p). let e = (one_question old p n m _ _ (subst (λ q. AsksAt old q (P2a d.pvalue) n) now asks) at).1 in
            subst (λ k. has d.heard k ≡ true) (sym e)
            (heard (subst (λ k. (node w.cluster k).acceptor.promised ≡ Some (first_leader old.cluster).ballot) e
            then)))
            (before_or_at j p low);
      }

      p2a_going : IsGoing old w start p
          → HearsVote (first_leader w.cluster) m (node w.cluster m).acceptor.promised slot (first_leader v.cluster)
          → IsGoing old v start (p + 1) ⊎ IsBeaten old v
      p2a_going g (no_commander none is) = inl (record {
        ballot = ap (λ l. l.ballot) is ∙ g.ballot;
        asleep = λ h. off_on h active;
        awake = λ h. ap (λ l. l.active) is ∙ g.awake h;
        commanders = λ h t c stands.
            let then : get (first_leader w.cluster).commanders t ≡ Some c = ap (λ l. get l.commanders t) (sym is) ∙ stands in
            hears_on t c then (λ e. none_not none (subst (λ q. get (first_leader w.cluster).commanders q ≡ Some c) e then)) (g.commanders h t c then);
      })
      p2a_going g (stays d there other below is) = inl (record {
        ballot = ap (λ l. l.ballot) is ∙ g.ballot;
        asleep = λ h. off_on h active;
        awake = λ h. ap (λ l. l.active) is ∙ g.awake h;
        commanders = λ h t c stands. ⊎_elim
            (λ (e : (t ≡ slot) × (get (insert (first_leader w.cluster).commanders slot d) t ≡ Some d)).
            let same : d ≡ c = some_same (sym e.1 ∙ ap (λ l. get l.commanders t) (sym is) ∙ stands) in
            subst (λ y. IsHearing old v start (p + 1) y c) (sym e.0) (subst (IsHearing old v start (p + 1) slot) same
            (hears_here d d refl (λ n y. y)
            (subst (λ y. is_promise_below (Some y) (node w.cluster m).acceptor.promised ≡ false) ((manned.commander slot d there).1 ∙ g.ballot) below)
            (λ promised. not_both (ap (λ o. is_promise o d.pvalue.ballot) promised ∙ ap
            (is_same (first_leader old.cluster).ballot) ((manned.commander slot d there).1 ∙ g.ballot) ∙ same_itself
            (first_leader old.cluster).ballot) other)
            (g.commanders h slot d there))))
            (λ (e : (t ≢ slot) × (get (insert (first_leader w.cluster).commanders slot d) t ≡ get (first_leader w.cluster).commanders t)).
            let then : get (first_leader w.cluster).commanders t ≡ Some c = sym e.1 ∙ ap (λ l. get l.commanders t) (sym is) ∙ stands in
            hears_on t c then e.0 (g.commanders h t c then))
            (get_insert_cases (first_leader w.cluster).commanders slot d t);
      })
      p2a_going g (counts_more d there promised is) = inl (record {
        ballot = ap (λ l. l.ballot) is ∙ g.ballot;
        asleep = λ h. off_on h active;
        awake = λ h. ap (λ l. l.active) is ∙ g.awake h;
        commanders = λ h t c stands. ⊎_elim
            (λ (e : (t ≡ slot) × (get (insert (first_leader w.cluster).commanders slot
            (record d { heard = add d.heard m })) t ≡ Some (record d { heard = add d.heard m }))).
            let same : record d { heard = add d.heard m } ≡ c = some_same (sym e.1 ∙ ap (λ l. get l.commanders t) (sym is) ∙ stands) in
            let own : (node w.cluster m).acceptor.promised ≡ Some (first_leader old.cluster).ballot =
            promised ∙ ap (λ y. Some y) ((manned.commander slot d there).1 ∙ g.ballot) in
            subst (λ y. IsHearing old v start (p + 1) y c) (sym e.0) (subst (IsHearing old v start (p + 1) slot) same
            (hears_here d (record d { heard = add d.heard m }) refl (λ n y. has_add_other d.heard m n y)
            (ap (is_promise_below (Some (first_leader old.cluster).ballot)) own ∙ laws.itself (first_leader old.cluster).ballot)
            (λ y. let bounds = member_bounds old.cluster.members m member in let full =
            (manned.commander slot d there).3 in has_add_own d.heard m (omega arith) (omega arith))
            (g.commanders h slot d there))))
            (λ (e : (t ≢ slot) × (get (insert (first_leader w.cluster).commanders slot
            (record d { heard = add d.heard m })) t ≡ get (first_leader w.cluster).commanders t)).
            let then : get (first_leader w.cluster).commanders t ≡ Some c = sym e.1 ∙ ap (λ l. get l.commanders t) (sym is) ∙ stands in
            hears_on t c then e.0 (g.commanders h t c then))
            (get_insert_cases (first_leader w.cluster).commanders slot (record d { heard = add d.heard m }) t);
      })
      p2a_going g (decides d there promised is) = inl (record {
        ballot = ap (λ l. l.ballot) is ∙ g.ballot;
        asleep = λ h. off_on h active;
        awake = λ h. ap (λ l. l.active) is ∙ g.awake h;
        commanders = λ h t c stands.
            let left : get (remove (first_leader w.cluster).commanders slot) t ≡ Some c = ap (λ l. get l.commanders t) (sym is) ∙ stands in
            let then : get (first_leader w.cluster).commanders t ≡ Some c = get_remove_cases (first_leader w.cluster).commanders slot t c left in
            hears_on t c then (λ e. get_remove_same (first_leader w.cluster).commanders slot c
            (subst (λ q. get (remove (first_leader w.cluster).commanders slot) q ≡ Some c) e left))
            (g.commanders h t c then);
      })
      p2a_going g (gives_way d y there promised above is) =
          inr (beaten_now m y member (asked.exchange.members ∙ before.talk.members) g.ballot (asked.promised m ∙ promised)
          (subst (λ z. is_below z y ≡ true) ((manned.commander slot d there).1 ∙ g.ballot) above) p2a_promised is)

      -- where nobody waits for the vote, nothing comes of it
      unheard : (first_leader w.cluster).commanders ≡ empty → first_leader v.cluster ≡ first_leader w.cluster
      unheard nobody = asked.leader ∙ at_test (answers_another (first_leader w.cluster) (node w.cluster m).acceptor.promised asking.pvalue.ballot)
        where
          none : get (first_leader w.cluster).commanders asking.pvalue.slot ≡ None
          none = ap (λ cs. get cs asking.pvalue.slot) nobody ∙ get-empty nat_cmp asking.pvalue.slot

          at_test : (test : Bool) → (cond test (silently (first_leader w.cluster))
              (at_commander (first_leader w.cluster) m (node w.cluster m).acceptor.promised asking.pvalue.slot
              (get (first_leader w.cluster).commanders asking.pvalue.slot))).state ≡ first_leader w.cluster
          at_test true = refl
          at_test false = ap (λ o. (at_commander (first_leader w.cluster) m (node w.cluster m).acceptor.promised asking.pvalue.slot o).state) none

      p2a_asking : Covers (first_leader w.cluster).proposals (first_leader v.cluster).proposals
          → IsGoing old v start (p + 1) ⊎ IsBeaten old v → IsAsking old v start (p + 1)
      p2a_asking covers then = record {
        talk = talk_on old w v before.talk (exchange_talks asked.exchange covers);
        promised = p2a_promised;
        spent = let a = asked.exchange.count in let c = before.spent in omega arith;
        so_far = then;
      }

      pub vote_asked : IsAsking old v start (p + 1)
      vote_asked = elim before.so_far as (λ y. IsAsking old v start (p + 1)) [
        | inl g ↦ let heard = p2a_heard g.ballot in p2a_asking (p2a_covers g.ballot heard) (p2a_going g heard)
        | inr h ↦ let same = unheard h.nobody in p2a_asking
            (λ t there. subst (λ l. contains_key l.proposals t ≡ true) (sym same) there)
            (inr (beaten_still h same asked.exchange.members (λ j. inl (asked.promised j))))
      ]
