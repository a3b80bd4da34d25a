-- What comes of a vote.
use Rattle.std.proofs.Common.{◌≡◌, ℕ, Bool, true, false, not, cond, ◌&&◌, Option, None, Some, refl, sym, ap, ◌∙◌, arith}
use Rattle.std.proofs.lemmas.Bool.Decides.{nat_tests}
use Rattle.std.specs.FinMap.{empty, get, insert}
use Rattle.ballot.specs.Ballots.{Numbers, is_same, is_below, next_after}
use Rattle.ballot.specs.Members.{is_member, add, is_majority}
use Rattle.scout_commander.specs.Commanders.{Commanding, Voting, IsDeciding, on_p2b, counts, unmoved}
use Rattle.scout_commander.specs.Commanders as commanders
use Rattle.scout_commander.specs.declared.commander.Voted.TheVariants.{Wait, Decided, Preempted}
use Rattle.leader.specs.Leaders.{Leading, Done, IsLeader, IsCommanderOf, silently, preempted}
use Rattle.ballot.specs.Slots.{Slots}
use Rattle.leader.specs.Votes as votes
use Rattle.ballot.proofs.SlotMaps.{insert_again}

either : {A : Type 0} (P : A → Type 0) (b : Bool) (x y : A) → P x → P y → P (cond b x y)
either P true x y p q = p
either P false x y p q = q

same_either : {A : Type 0} (b : Bool) (x : A) → cond b x x ≡ x
same_either true x = refl
same_either false x = refl

-- of what a commander is, a vote changes only whom it heard
pub same_commander : {C : Type 0} (l : Leading C) (s : ℕ) (c : Commanding C) (m : ℕ) (ballot : Option Numbers)
    → IsCommanderOf l s c → IsCommanderOf l s (on_p2b c m ballot).commander
same_commander {C = C} l s c m None of =
    either (λ (v : Voting C). IsCommanderOf l s v.commander) (is_member c.members m) (unmoved c Wait)
    (unmoved c Wait) of of
same_commander {C = C} l s c m (Some b) of =
    let P : Voting C → Type 0 = λ v. IsCommanderOf l s v.commander in
    either P (is_member c.members m)
    (cond (is_same b c.pvalue.ballot) (counts c m)
    (cond (is_below c.pvalue.ballot b) (unmoved c (Preempted b)) (unmoved c Wait))) (unmoved c Wait)
    (either P (is_same b c.pvalue.ballot) (counts c m) (cond (is_below c.pvalue.ballot b) (unmoved c (Preempted b)) (unmoved c Wait))
    (record { members = of.members; ballot = of.ballot; slot = of.slot })
    (either P (is_below c.pvalue.ballot b) (unmoved c (Preempted b)) (unmoved c Wait) of of)) of

unlike : (b : Bool) → b && not b ≡ false
unlike true = refl
unlike false = refl

-- it is counted
counted : {C : Type 0} (l : Leading C) (m s : ℕ) (c : Commanding C) → get l.commanders s ≡ Some c
    → votes.on_p2b l m (Some l.ballot) s l.ballot ≡ votes.at_commander l m (Some l.ballot) s (Some c)
counted {C = C} l m s c there =
    ap (λ b. cond b (silently l) (votes.at_commander l m (Some l.ballot) s (get l.commanders s)))
    (unlike (is_same l.ballot l.ballot)) ∙ ap
    (λ (o : Option (Commanding C)). votes.at_commander l m (Some l.ballot) s o) there

-- and waits for more
pub waits : {C : Type 0} (l : Leading C) (m s : ℕ) (c : Commanding C) → get l.commanders s ≡ Some c
    → (on_p2b c m (Some l.ballot)).says ≡ Wait
    → (votes.on_p2b l m (Some l.ballot) s l.ballot).state
    ≡ record l { commanders = insert l.commanders s (on_p2b c m (Some l.ballot)).commander }
waits {C} l m s c there says =
    ap (λ (d : Done (Leading C) C). d.state) (counted l m s c there) ∙ ap (λ v. (votes.at_voted l s (on_p2b c m (Some l.ballot)).commander v).state) says

same_as_itself : (b : Numbers) → is_same b b ≡ true
same_as_itself b = grind (arith, nat_tests)

counts_waits : {C : Type 0} (c : Commanding C) (m : ℕ) (test : Bool) → is_majority c.members (add c.heard m) ≡ test
    → (test ≡ true → ⊥) → cond test Decided Wait ≡ Wait
counts_waits c m true e not_yet = absurd (not_yet refl)
counts_waits c m false e not_yet = refl

-- a vote of its own ballot that decides nothing
pub says_wait : {C : Type 0} (c : Commanding C) (m : ℕ) (b : Numbers) → c.pvalue.ballot ≡ b → (IsDeciding c m (Some b) → ⊥) → (on_p2b c m (Some b)).says ≡ Wait
says_wait {C} c m b same not_yet = go (is_member c.members m) refl
  where
    own : is_same b c.pvalue.ballot ≡ true
    own = ap (λ x. is_same b x) same ∙ same_as_itself b

    other : Voting C
    other = cond (is_below c.pvalue.ballot b) (unmoved c (Preempted b)) (unmoved c Wait)

    go : (test : Bool) → is_member c.members m ≡ test → (cond test (cond (is_same b c.pvalue.ballot) (counts c m) other) (unmoved c Wait)).says ≡ Wait
    go true member =
        ap (λ t. (cond t (counts c m) other).says) own ∙
        counts_waits c m (is_majority c.members (add c.heard m)) refl
        (λ majority. not_yet (record { member = member; same = ap (λ x. Some x) (sym same); majority = majority }))
    go false member = refl

-- a commander that is put again as it was
as_it_was : {C : Type 0} (l : Leading C) (s : ℕ) (c : Commanding C) → get l.commanders s ≡ Some c
    → silently {C = C} (record l { commanders = insert l.commanders s c }) ≡ silently l
as_it_was {C} l s c there = ap (λ (m : Slots (Commanding C)). silently (record l { commanders = m })) (insert_again l.commanders s c there)

-- no commander hears it
pub unheard : {C : Type 0} (l : Leading C) (m s : ℕ) (ballot : Option Numbers) (asked : Numbers)
    → get l.commanders s ≡ None → votes.on_p2b l m ballot s asked ≡ silently l
unheard {C} l m s ballot asked none =
    ap (λ (o : Option (Commanding C)). cond (votes.answers_another l ballot asked) (silently l) (votes.at_commander l m ballot s o)) none ∙
    same_either (votes.answers_another l ballot asked) (silently l)

-- it is of no ballot
pub of_none : {C : Type 0} (l : Leading C) (m s : ℕ) (asked : Numbers) → votes.on_p2b l m None s asked ≡ silently l
of_none {C} l m s asked = go (get l.commanders s) refl
  where
    go : (o : Option (Commanding C)) → get l.commanders s ≡ o → votes.on_p2b l m None s asked ≡ silently l
    go None e = unheard l m s None asked e
    go (Some c) e =
        ap (λ (o : Option (Commanding C)). votes.at_commander l m None s o) e ∙
        ap (λ (v : Voting C). votes.at_voted l s v.commander v.says) (same_either (is_member c.members m) (unmoved c Wait)) ∙ as_it_was l s c e

-- no member sent it
pub of_stranger : {C : Type 0} (l : Leading C) (m s : ℕ) (ballot : Option Numbers) (asked : Numbers) → IsLeader l
    → is_member l.members m ≡ false → votes.on_p2b l m ballot s asked ≡ silently l
of_stranger {C} l m s ballot asked leads stranger = go (get l.commanders s) refl
  where
    go : (o : Option (Commanding C)) → get l.commanders s ≡ o → votes.on_p2b l m ballot s asked ≡ silently l
    go None e = unheard l m s ballot asked e
    go (Some c) e =
        let no : is_member c.members m ≡ false = ap (λ ms. is_member ms m) (leads.commanders s c e).members ∙ stranger in
        ap (λ (o : Option (Commanding C)). cond (votes.answers_another l ballot asked) (silently l) (votes.at_commander l m ballot s o)) e ∙
        ap (λ (v : Voting C). cond (votes.answers_another l ballot asked) (silently l)
        (votes.at_voted l s v.commander v.says))
        (ap (λ b. cond b (commanders.votes c m ballot) (unmoved c Wait)) no) ∙
        ap (λ d. cond (votes.answers_another l ballot asked) (silently l) d) (as_it_was l s c e) ∙ same_either
        (votes.answers_another l ballot asked) (silently l)

-- it is of another ballot than the leader's
pub of_another : {C : Type 0} (l : Leading C) (m s : ℕ) (b asked : Numbers) (c : Commanding C) → IsLeader l
    → is_member l.members m ≡ true → is_same b l.ballot ≡ false → get l.commanders s ≡ Some c
    → votes.on_p2b l m (Some b) s asked ≡ silently (preempted l b)
of_another {C} l m s b asked c leads member other there =
    let of = leads.commanders s c there in
    let yes : is_member c.members m ≡ true = ap (λ ms. is_member ms m) of.members ∙ member in
    let unlike : is_same b c.pvalue.ballot ≡ false = ap (λ x. is_same b x) of.ballot ∙ other in
    let heard : on_p2b c m (Some b) ≡ cond (is_below c.pvalue.ballot b) (unmoved c (Preempted b)) (unmoved c Wait) =
    ap (λ t. cond t (commanders.votes c m (Some b)) (unmoved c Wait)) yes ∙
    ap (λ t. cond t (counts c m) (cond (is_below c.pvalue.ballot b) (unmoved c (Preempted b)) (unmoved c Wait))) unlike in
    ap (λ t. cond (t && not (is_same asked l.ballot)) (silently l) (votes.at_commander l m (Some b) s (get l.commanders s))) other ∙
    ap (λ (o : Option (Commanding C)). votes.at_commander l m (Some b) s o) there ∙
    ap (λ (v : Voting C). votes.at_voted l s v.commander v.says)
    (heard ∙ ap (λ x. cond (is_below x b) (unmoved c (Preempted b)) (unmoved c Wait)) of.ballot) ∙ go
    (is_below l.ballot b) refl
  where
    go : (t : Bool) → is_below l.ballot b ≡ t
        → votes.at_voted l s (cond t (unmoved c (Preempted b)) (unmoved c Wait)).commander
        (cond t (unmoved c (Preempted b)) (unmoved c Wait)).says ≡ silently (preempted l b)
    go true e = refl
    go false e = as_it_was l s c there ∙ ap
        (λ t. silently (cond t (record l {
          ballot = next_after b l.ballot.node l.ballot.boot;
          active = false;
          scout =
              None;
          commanders = empty;
        }) l)) (sym e)

pub untrue : (b : Bool) → true ≡ not b → b ≡ false
untrue true h = cc
untrue false h = refl
