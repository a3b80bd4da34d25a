-- What a promise and a vote make of a leader, case by case.
use Rattle.std.proofs.Common.{◌≡◌, inl, inr, ℕ, Bool, true, false, cond, List, Option, None, Some, is_some, refl, sym, ap, ◌∙◌, subst}
use Rattle.std.specs.Prelude.{not, ◌&&◌}
use Rattle.std.specs.FinMap.{empty, get, contains_key, insert, remove}
use Rattle.ballot.specs.Ballots.{Numbers, is_below, is_same, is_promise, is_promise_below, next_after}
use Rattle.ballot.specs.Members.{is_member, is_majority, add}
use Rattle.ballot.specs.OrderLaws.{BallotLaws, same_itself, not_both}
use Rattle.ballot.specs.Slots.{Slots}
use Rattle.ballot.specs.declared.pvalue.Pvalue.{Pvalue}
use Rattle.scout_commander.specs.Scouts.{Scouting, Hearing, gathers, unmoved}
use Rattle.scout_commander.specs.Scouts as scouts
use Rattle.scout_commander.specs.declared.scout.Heard.TheVariants.{Wait, Adopted, Preempted}
use Rattle.scout_commander.specs.Commanders.{Commanding, Voting, counts}
use Rattle.scout_commander.specs.Commanders as commanders
use Rattle.scout_commander.specs.declared.commander.Voted.TheVariants as voted
use Rattle.leader.specs.Leaders.{Leading, silently, preempted}
use Rattle.leader.specs.Adoptions.{TakesGreatest, adopted}
use Rattle.leader.specs.Promises.{Hears, AllowsAt, at_heard, at_scout, on_p1b}
use Rattle.leader.specs.Votes.{at_voted, at_commander, on_p2b}

-- each slot with a value in the one map has one in the other
abbrev pub Covers : {X : Type 0} → Slots X → Slots X → Type 0
Covers old new = (s : ℕ) → contains_key old s ≡ true → contains_key new s ≡ true

-- a leader that gave up for this ballot
abbrev pub given_up : {C : Type 0} → Leading C → Numbers → Leading C
given_up l b = record l { ballot = next_after b l.ballot.node l.ballot.boot; active = false; scout = None; commanders = empty }

-- a promise of m
pub data HearsPromise {C : Type 0} (l : Leading C) (m : ℕ) (b : Numbers) (z : Leading C) : Type 0 where
  no_scout : l.scout ≡ None → z ≡ l → HearsPromise l m b z
  gathers_more : (s t : Scouting C) → l.scout ≡ Some s → b ≡ s.ballot → t.heard ≡ add s.heard m → z ≡ record l { scout = Some t } → HearsPromise l m b z
  adopts : (s : Scouting C) (taken : Slots C) → l.scout ≡ Some s → b ≡ s.ballot → Covers l.proposals taken → z ≡ (adopted l taken).state → HearsPromise l m b z
  gives_up : (s : Scouting C) → l.scout ≡ Some s → is_below s.ballot b ≡ true → z ≡ preempted l b → HearsPromise l m b z

-- a vote of m for the pvalue of the commander at slot s, by what m promised
pub data HearsVote {C : Type 0} (l : Leading C) (m : ℕ) (o : Option Numbers) (s : ℕ) (z : Leading C) : Type 0 where
  no_commander : get l.commanders s ≡ None → z ≡ l → HearsVote l m o s z
  stays : (c : Commanding C) → get l.commanders s ≡ Some c → is_promise o c.pvalue.ballot ≡ false
      → is_promise_below (Some c.pvalue.ballot) o ≡ false → z ≡ record l { commanders = insert l.commanders s c }
      → HearsVote l m o s z
  counts_more : (c : Commanding C) → get l.commanders s ≡ Some c → o ≡ Some c.pvalue.ballot
      → z ≡ record l { commanders = insert l.commanders s (record c { heard = add c.heard m }) } → HearsVote l m o s z
  decides : (c : Commanding C) → get l.commanders s ≡ Some c → o ≡ Some c.pvalue.ballot
      → z ≡ record l { commanders = remove l.commanders s } → HearsVote l m o s z
  gives_way : (c : Commanding C) (b : Numbers) → get l.commanders s ≡ Some c → o ≡ Some b
      → is_below c.pvalue.ballot b ≡ true → z ≡ preempted l b → HearsVote l m o s z

pub covers_taken : {C : Type 0} (old : Slots C) (gathered : List (Pvalue C)) (new : Slots C) → TakesGreatest old gathered new → Covers old new
covers_taken old gathered new takes s there = elim (takes s) as (λ v. contains_key new s ≡ true) [
  | inl none ↦ ap is_some none.1 ∙ there
  | inr greatest ↦ ap is_some greatest.2
]

module _ (laws : BallotLaws) {C : Type 0} (l : Leading C) (m : ℕ) where
  module _ (b : Numbers) (fresh : List (Pvalue C)) (taken : Slots C) where
    majority_case : (s : Scouting C) → l.scout ≡ Some s → b ≡ s.ballot → (test : Bool) → is_majority s.members (add s.heard m) ≡ test
        → AllowsAt l.proposals (gathers s m fresh).scout (cond test Adopted Wait) taken
        → HearsPromise l m b (at_heard l taken (gathers s m fresh).scout (cond test Adopted Wait)).state
    majority_case s is same true e allows = adopts s taken is same (covers_taken l.proposals _ taken allows) refl
    majority_case s is same false e allows = gathers_more s (gathers s m fresh).scout is same refl refl

    below_case : (s : Scouting C) → l.scout ≡ Some s → is_below b s.ballot ≡ false → is_same b s.ballot ≡ false → (test : Bool) → is_below s.ballot b ≡ test
        → HearsPromise l m b (at_heard l taken (cond test (unmoved s (Preempted b)) (unmoved s Wait)).scout
        (cond test (unmoved s (Preempted b)) (unmoved s Wait)).says).state
    below_case s is upto other true e = gives_up s is e refl
    below_case s is upto other false e = elim (laws.total b s.ballot) as (λ v. HearsPromise l m b (record l { scout = Some s })) [
      | inl below ↦ not_both below upto
      | inr (inl same) ↦ not_both (subst (λ y. is_same y s.ballot ≡ true) (sym same) (same_itself s.ballot)) other
      | inr (inr above) ↦ not_both above e
    ]

    same_case : (s : Scouting C) → l.scout ≡ Some s → is_below b s.ballot ≡ false → (test : Bool) → is_same b s.ballot ≡ test
        → AllowsAt l.proposals (cond test (gathers s m fresh)
        (cond (is_below s.ballot b) (unmoved s (Preempted b)) (unmoved s Wait))).scout
        (cond test (gathers s m fresh) (cond (is_below s.ballot b) (unmoved s (Preempted b)) (unmoved s Wait))).says
        taken
        → HearsPromise l m b (at_heard l taken
        (cond test (gathers s m fresh)
        (cond (is_below s.ballot b) (unmoved s (Preempted b)) (unmoved s Wait))).scout
        (cond test (gathers s m fresh)
        (cond (is_below s.ballot b) (unmoved s (Preempted b)) (unmoved s Wait))).says).state
    same_case s is upto true e allows = majority_case s is (laws.same b s.ballot e) (is_majority s.members (add s.heard m)) refl allows
    same_case s is upto false e allows = below_case s is upto e (is_below s.ballot b) refl

    member_case : (s : Scouting C) → l.scout ≡ Some s → is_below b s.ballot ≡ false → (test : Bool) → test ≡ true
        → AllowsAt l.proposals (cond test
        (cond (is_same b s.ballot) (gathers s m fresh)
        (cond (is_below s.ballot b) (unmoved s (Preempted b)) (unmoved s Wait))) (unmoved s Wait)).scout
        (cond test (cond (is_same b s.ballot) (gathers s m fresh)
        (cond (is_below s.ballot b) (unmoved s (Preempted b)) (unmoved s Wait))) (unmoved s Wait)).says taken
        → HearsPromise l m b (at_heard l taken
        (cond test (cond (is_same b s.ballot) (gathers s m fresh)
        (cond (is_below s.ballot b) (unmoved s (Preempted b)) (unmoved s Wait))) (unmoved s Wait)).scout
        (cond test (cond (is_same b s.ballot) (gathers s m fresh)
        (cond (is_below s.ballot b) (unmoved s (Preempted b)) (unmoved s Wait))) (unmoved s Wait)).says).state
    member_case s is upto true member allows = same_case s is upto (is_same b s.ballot) refl allows
    member_case s is upto false member allows = absurd (cc)

    scout_case : (o : Option (Scouting C)) → l.scout ≡ o → ((s : Scouting C) → o ≡ Some s → (is_member s.members m ≡ true) × (is_below b s.ballot ≡ false))
        → ((s : Scouting C) → o ≡ Some s → AllowsAt l.proposals (scouts.on_p1b s m b fresh).scout (scouts.on_p1b s m b fresh).says taken)
        → HearsPromise l m b (at_scout l m b fresh taken o).state
    scout_case None is member takes = no_scout is refl
    scout_case (Some s) is fits takes = member_case s is (fits s refl).1 (is_member s.members m) (fits s refl).0 (takes s refl)

    -- a promise of a member, of no lower ballot than the scout's
    pub promise_cases : (report : List (Pvalue C)) → Hears l m b report fresh taken
        → ((s : Scouting C) → l.scout ≡ Some s → (is_member s.members m ≡ true) × (is_below b s.ballot ≡ false))
        → HearsPromise l m b (on_p1b l m b fresh taken).state
    promise_cases report hears fits = scout_case l.scout refl fits (λ s is. hears.takes s is)

  module _ (o : Option Numbers) (s : ℕ) where
    counts_case : (c : Commanding C) → get l.commanders s ≡ Some c → o ≡ Some c.pvalue.ballot → (test : Bool)
        → HearsVote l m o s (at_voted l s (record c { heard = add c.heard m }) (cond test voted.Decided voted.Wait)).state
    counts_case c is same true = decides c is same refl
    counts_case c is same false = counts_more c is same refl

    higher_case : (c : Commanding C) (b : Numbers) → get l.commanders s ≡ Some c → o ≡ Some b
        → is_same b c.pvalue.ballot ≡ false → (test : Bool) → is_below c.pvalue.ballot b ≡ test
        → HearsVote l m o s (at_voted l s
        (cond test (commanders.unmoved c (voted.Preempted b)) (commanders.unmoved c voted.Wait)).commander
        (cond test (commanders.unmoved c (voted.Preempted b)) (commanders.unmoved c voted.Wait)).says).state
    higher_case c b is promised other true e = gives_way c b is promised e refl
    higher_case c b is promised other false e =
        stays c is (ap (λ y. is_promise y c.pvalue.ballot) promised ∙ other)
        (ap (is_promise_below (Some c.pvalue.ballot)) promised ∙ e) refl

    own_case : (c : Commanding C) (b : Numbers) → get l.commanders s ≡ Some c → o ≡ Some b → (test : Bool) → is_same b c.pvalue.ballot ≡ test
        → HearsVote l m o s (at_voted l s
        (cond test (counts c m) (cond (is_below c.pvalue.ballot b) (commanders.unmoved c (voted.Preempted b))
        (commanders.unmoved c voted.Wait))).commander
        (cond test (counts c m) (cond (is_below c.pvalue.ballot b) (commanders.unmoved c (voted.Preempted b))
        (commanders.unmoved c voted.Wait))).says).state
    own_case c b is promised true e = counts_case c is (promised ∙ ap (λ y. Some y) (laws.same b c.pvalue.ballot e)) (is_majority c.members (add c.heard m))
    own_case c b is promised false e = higher_case c b is promised e (is_below c.pvalue.ballot b) refl

    votes_case : (c : Commanding C) → get l.commanders s ≡ Some c → (p : Option Numbers) → o ≡ p
        → HearsVote l m o s (at_voted l s (commanders.votes c m p).commander (commanders.votes c m p).says).state
    votes_case c is None e = stays c is (ap (λ y. is_promise y c.pvalue.ballot) e) (ap (is_promise_below (Some c.pvalue.ballot)) e) refl
    votes_case c is (Some b) e = own_case c b is e (is_same b c.pvalue.ballot) refl

    voter_case : (c : Commanding C) → get l.commanders s ≡ Some c → (test : Bool) → test ≡ true
        → HearsVote l m o s (at_voted l s
        (cond test (commanders.votes c m o) (commanders.unmoved c voted.Wait)).commander
        (cond test (commanders.votes c m o) (commanders.unmoved c voted.Wait)).says).state
    voter_case c is true member = votes_case c is o refl
    voter_case c is false member = absurd (cc)

    commander_case : (at : Option (Commanding C)) → get l.commanders s ≡ at
        → ((c : Commanding C) → at ≡ Some c → is_member c.members m ≡ true)
        → HearsVote l m o s (at_commander l m o s at).state
    commander_case None is member = no_commander is refl
    commander_case (Some c) is member = voter_case c is (is_member c.members m) (member c refl)

    asked_case : (test : Bool) → test ≡ false → ((c : Commanding C) → get l.commanders s ≡ Some c → is_member c.members m ≡ true)
        → HearsVote l m o s (cond test (silently l) (at_commander l m o s (get l.commanders s))).state
    asked_case true e member = absurd (cc)
    asked_case false e member = commander_case (get l.commanders s) refl member

    -- a vote of a member that answers what the leader asks now
    pub vote_cases : (asked : Numbers) → asked ≡ l.ballot → ((c : Commanding C) → get l.commanders s ≡ Some c → is_member c.members m ≡ true)
        → HearsVote l m o s (on_p2b l m o s asked).state
    vote_cases asked own member = asked_case _
        (answers (is_promise o l.ballot) (is_same asked l.ballot)
        (subst (λ y. is_same y l.ballot ≡ true) (sym own) (same_itself l.ballot))) member
      where
        answers : (a b : Bool) → b ≡ true → (a && not b) ≡ false
        answers true true e = refl
        answers true false e = absurd (cc)
        answers false b e = refl

-- a leader that gives up
pub preempted_is : {C : Type 0} (l : Leading C) (b : Numbers) → is_below l.ballot b ≡ true → preempted l b ≡ given_up l b
preempted_is l b e = at (is_below l.ballot b) e
  where
    at : (test : Bool) → test ≡ true → cond test (given_up l b) l ≡ given_up l b
    at true e = refl
    at false e = absurd (cc)
