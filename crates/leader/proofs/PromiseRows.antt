-- What comes of a promise of the leader's ballot.
use Rattle.std.proofs.Common.{◌≡◌, ◌⊎◌, inl, inr, ⊎_elim, ℕ, Bool, true, false, true≢false, not, cond, arith, List, []}
use Rattle.std.proofs.Common.{◌++◌, Option, None, Some, refl, sym, ap, subst, ◌∙◌}
use Rattle.std.proofs.lemmas.Bool.Decides.{nat_tests}
use Rattle.std.specs.FinMap.{empty, get}
use Rattle.object.specs.Lists.{In}
use Rattle.ballot.specs.Ballots.{Numbers, is_same, is_below, next_after}
use Rattle.ballot.specs.Letters.{all_to_all}
use Rattle.ballot.specs.declared.letter.Letter.{Letter}
use Rattle.ballot.specs.Members.{is_member, is_majority, add}
use Rattle.ballot.specs.declared.pvalue.Pvalue.{Pvalue}
use Rattle.scout_commander.specs.Scouts.{Scouting, Hearing, IsPromising, IsAdopting, TakesFresh, gathers, unmoved}
use Rattle.scout_commander.specs.Scouts as scouts
use Rattle.scout_commander.specs.declared.scout.Heard.{Heard}
use Rattle.scout_commander.specs.declared.scout.Heard.TheVariants.{Wait, Adopted, Preempted}
use Rattle.ballot.specs.Slots.{Slots}
use Rattle.scout_commander.proofs.Fresh.{some_fresh}
use Rattle.scout_commander.proofs.Members.{in_cases, in_left, in_right}
use Rattle.leader.specs.Leaders.{Leading, Done, IsLeaderOf, IsLeader, IsScoutOf, Sends, preempted, silently}
use Rattle.leader.specs.Adoptions.{IsGreatest, IsOpen, TakesGreatest, adopted}
use Rattle.leader.specs.Promises.{on_p1b, at_scout, at_heard, AllowsAt, MayTake, HearsP1b}
use Rattle.leader.proofs.Kept.{not_none}
use Rattle.leader.proofs.Saying.{said_nothing}

either : {A : Type 0} (P : A → Type 0) (b : Bool) (x y : A) → P x → P y → P (cond b x y)
either P true x y p q = p
either P false x y p q = q

same_as_itself : (b : Numbers) → is_same b b ≡ true
same_as_itself b = grind (arith, nat_tests)

-- of what a scout is, a promise changes only whom it heard and what it gathered
pub same_scout : {C : Type 0} (l : Leading C) (s : Scouting C) (m : ℕ) (b : Numbers) (report : List (Pvalue C))
    → IsScoutOf l s → IsScoutOf l (scouts.on_p1b s m b report).scout
same_scout {C} l s m b report of =
    let P : Hearing C → Type 0 = λ h. IsScoutOf l h.scout in
    let other = cond (is_below s.ballot b) (unmoved s (Preempted b)) (unmoved s Wait) in
    either P (is_member s.members m) (cond (is_same b s.ballot) (gathers s m report) other) (unmoved s Wait)
    (either P (is_same b s.ballot) (gathers s m report) other (record { members = of.members; ballot = of.ballot })
    (either P (is_below s.ballot b) (unmoved s (Preempted b)) (unmoved s Wait) of of)) of

-- a leader whose scout has heard more
pub kept_scout : {C : Type 0} (node boot : ℕ) (l : Leading C) (s : Scouting C) → IsLeaderOf node boot l → IsScoutOf l s
    → IsLeaderOf node boot (record l { scout = Some s })
kept_scout {C} node boot l s k of = record {
  same_node = k.same_node;
  same_boot = k.same_boot;
  leader = record {
    member = k.leader.member;
    within = k.leader.within;
    scout = λ t e. let is : s ≡ t =
        cc in record {
          members = ap (λ (x : Scouting C). x.members) (sym is) ∙ of.members;
          ballot =
              ap (λ (x : Scouting C). x.ballot) (sym is) ∙ of.ballot;
        };
    commanders = λ q c e. let x = k.leader.commanders q c e in record { members = x.members; ballot = x.ballot; slot = x.slot };
  };
}

-- it adopts the leader
pub is_adopted : {C : Type 0} (l : Leading C) (m : ℕ) (b : Numbers) (report : List (Pvalue C)) (proposals : Slots C)
    (s : Scouting C) → l.scout ≡ Some s → (scouts.on_p1b s m b report).says ≡ Adopted
    → on_p1b l m b report proposals ≡ adopted l proposals
is_adopted {C} l m b report proposals s there says =
    ap (λ (o : Option (Scouting C)). at_scout l m b report proposals o) there ∙ ap (λ h. at_heard l proposals (scouts.on_p1b s m b report).scout h) says

-- and the leader takes the greatest of what was gathered
pub may_take : {C : Type 0} (l : Leading C) (m : ℕ) (b : Numbers) (report : List (Pvalue C)) (proposals : Slots C)
    (s : Scouting C) → l.scout ≡ Some s → (scouts.on_p1b s m b report).says ≡ Adopted
    → TakesGreatest l.proposals (scouts.on_p1b s m b report).scout.gathered proposals → MayTake l m b report proposals
may_take {C} l m b report proposals s there says takes t e =
    let both : Some s ≡ Some t = sym there ∙ e in
    let is : s ≡ t = cc in
    subst (λ (x : Scouting C). AllowsAt l.proposals (scouts.on_p1b x m b report).scout (scouts.on_p1b x m b report).says proposals) is
    (subst (λ h. AllowsAt l.proposals (scouts.on_p1b s m b report).scout h proposals) (sym says) takes)

-- a member's promise of the leader's ballot is gathered
gathered : {C : Type 0} (l : Leading C) (m : ℕ) (b : Numbers) (report : List (Pvalue C)) (s : Scouting C)
    → IsScoutOf l s → is_member l.members m ≡ true → is_same b l.ballot ≡ true
    → scouts.on_p1b s m b report ≡ gathers s m report
gathered {C} l m b report s of member same =
    let other = cond (is_below s.ballot b) (unmoved s (Preempted b)) (unmoved s Wait) in
    ap (λ t. cond t (cond (is_same b s.ballot) (gathers s m report) other) (unmoved s Wait)) (ap (λ ms. is_member ms m) of.members ∙ member) ∙
    ap (λ t. cond t (gathers s m report) other) (ap (λ x. is_same b x) of.ballot ∙ same)

-- it doesn't: the scout waits for more
pub still_waits : {C : Type 0} (l : Leading C) (m : ℕ) (b : Numbers) (report : List (Pvalue C)) (proposals : Slots C)
    (s : Scouting C) → l.scout ≡ Some s → IsScoutOf l s → is_member l.members m ≡ true → is_same b l.ballot ≡ true
    → ((scouts.on_p1b s m b report).says ≡ Adopted → ⊥)
    → on_p1b l m b report proposals ≡ silently (record l { scout = Some (scouts.on_p1b s m b report).scout })
still_waits {C} l m b report proposals s there of member same not_yet =
    ap (λ (o : Option (Scouting C)). at_scout l m b report proposals o) there ∙
    ap (λ h. at_heard l proposals (scouts.on_p1b s m b report).scout h) waits
  where
    either_says : (t : Bool) → cond t Adopted Wait ≡ (scouts.on_p1b s m b report).says → cond t Adopted Wait ≡ Wait
    either_says true e = absurd (not_yet (sym e))
    either_says false e = refl

    waits : (scouts.on_p1b s m b report).says ≡ Wait
    waits =
        ap (λ (h : Hearing C). h.says) (gathered l m b report s of member same) ∙
        either_says (is_majority s.members (add s.heard m)) (sym (ap (λ (h : Hearing C). h.says) (gathered l m b report s of member same)))

-- and no proposals are asked of it
pub takes_none : {C : Type 0} (l : Leading C) (m : ℕ) (b : Numbers) (report : List (Pvalue C)) (proposals : Slots C)
    (s : Scouting C) → l.scout ≡ Some s → ((scouts.on_p1b s m b report).says ≡ Adopted → ⊥)
    → MayTake l m b report proposals
takes_none {C} l m b report proposals s there not_yet t e =
    let both : Some s ≡ Some t = sym there ∙ e in
    let is : s ≡ t = cc in
    subst (λ (x : Scouting C). AllowsAt l.proposals (scouts.on_p1b x m b report).scout (scouts.on_p1b x m b report).says proposals) is
    (free (scouts.on_p1b s m b report).says not_yet)
  where
    free : (h : Heard) → (h ≡ Adopted → ⊥) → AllowsAt l.proposals (scouts.on_p1b s m b report).scout h proposals
    free Wait n = tt
    free Adopted n = absurd (n refl)
    free (Preempted x) n = tt

-- nothing is done
nothing_done : {C : Type 0} (l : Leading C) (m : ℕ) (b : Numbers) (report : List (Pvalue C)) (sent : List (Letter C))
    → ((s : Scouting C) → l.scout ≡ Some s → ¬ IsPromising s m b)
    → ((s : Scouting C) → l.scout ≡ Some s
    → AllowsAt l.proposals (scouts.on_p1b s m b []).scout (scouts.on_p1b s m b []).says l.proposals)
    → on_p1b l m b [] l.proposals ≡ silently l → HearsP1b l m b report l sent sent
nothing_done {C} l m b report sent never allowed is = record {
  fresh = [];
  hears = record { gathers = λ s e promises. absurd (never s e promises); takes = allowed };
  state = sym (ap (λ (d : Done (Leading C) C). d.state) is);
  out = said_nothing sent l.members l.ballot.node _ (ap (λ (d : Done (Leading C) C). d.says) is);
}

-- no scout stands
pub unheard : {C : Type 0} (l : Leading C) (m : ℕ) (b : Numbers) (report : List (Pvalue C)) (sent : List (Letter C))
    → l.scout ≡ None → HearsP1b l m b report l sent sent
unheard {C} l m b report sent none =
    nothing_done l m b report sent (λ s e promises. not_none l.scout s none e) (λ s e. not_none l.scout s none e)
    (ap (λ (o : Option (Scouting C)). at_scout l m b [] l.proposals o) none)

-- the scout stands as it was
as_it_was : {C : Type 0} (l : Leading C) (s : Scouting C) → l.scout ≡ Some s → silently {C = C} (record l { scout = Some s }) ≡ silently l
as_it_was {C} l s there = ap (λ (o : Option (Scouting C)). silently (record l { scout = o })) (sym there)

-- what is true of the scout that stands
at_that : {C : Type 0} (P : Scouting C → Type 0) (o : Option (Scouting C)) (s : Scouting C) → o ≡ Some s → P s → (t : Scouting C) → o ≡ Some t → P t
at_that P o s there h t e = let both : Some s ≡ Some t = sym there ∙ e in let is : s ≡ t = cc in subst P is h

-- no member sent it
pub of_stranger : {C : Type 0} (l : Leading C) (m : ℕ) (b : Numbers) (report : List (Pvalue C)) (sent : List (Letter C))
    → IsLeader l → is_member l.members m ≡ false → HearsP1b l m b report l sent sent
of_stranger {C} l m b report sent leads stranger = go l.scout refl
  where
    go : (o : Option (Scouting C)) → l.scout ≡ o → HearsP1b l m b report l sent sent
    go None none = unheard l m b report sent none
    go (Some s) there =
        let no : is_member s.members m ≡ false = ap (λ ms. is_member ms m) (leads.scout s there).members ∙ stranger in
        let still : scouts.on_p1b s m b [] ≡ unmoved s Wait =
        ap (λ t. cond t (cond (is_same b s.ballot) (gathers s m [])
        (cond (is_below s.ballot b) (unmoved s (Preempted b)) (unmoved s Wait))) (unmoved s Wait)) no in
        nothing_done l m b report sent
        (at_that (λ (t : Scouting C). ¬ IsPromising t m b) l.scout s there (λ promises. true≢false (sym promises.member ∙ no)))
        (at_that (λ (t : Scouting C). AllowsAt l.proposals (scouts.on_p1b t m b []).scout (scouts.on_p1b t m b []).says l.proposals) l.scout s there
        (subst (λ (h : Hearing C). AllowsAt l.proposals h.scout h.says l.proposals) (sym still) tt))
        (ap (λ (o : Option (Scouting C)). at_scout l m b [] l.proposals o) there ∙
        ap (λ (h : Hearing C). at_heard l l.proposals h.scout h.says) still ∙ as_it_was l s there)

-- it is of another ballot than the leader's
pub of_another : {C : Type 0} (l : Leading C) (m : ℕ) (b : Numbers) (report : List (Pvalue C)) (sent : List (Letter C))
    (s : Scouting C) → l.scout ≡ Some s → IsLeader l → is_member l.members m ≡ true → is_same b l.ballot ≡ false
    → HearsP1b l m b report (preempted l b) sent sent
of_another {C} l m b report sent s there leads member other = go (is_below l.ballot b) refl
  where
    of : IsScoutOf l s
    of = leads.scout s there

    unlike : is_same b s.ballot ≡ false
    unlike = ap (λ x. is_same b x) (leads.scout s there).ballot ∙ other

    heard : (t : Bool) → is_below l.ballot b ≡ t → scouts.on_p1b s m b [] ≡ cond t (unmoved s (Preempted b)) (unmoved s Wait)
    heard t e =
        ap (λ t. cond t (cond (is_same b s.ballot) (gathers s m [])
        (cond (is_below s.ballot b) (unmoved s (Preempted b)) (unmoved s Wait))) (unmoved s Wait))
        (ap (λ ms. is_member ms m) (leads.scout s there).members ∙ member) ∙
        ap (λ t. cond t (gathers s m []) (cond (is_below s.ballot b) (unmoved s (Preempted b)) (unmoved s Wait)))
        (ap (λ x. is_same b x) (leads.scout s there).ballot ∙ other) ∙
        ap (λ t. cond t (unmoved s (Preempted b)) (unmoved s Wait)) (ap (λ x. is_below x b) (leads.scout s there).ballot ∙ e)

    never : ¬ IsPromising s m b
    never promises = true≢false (sym (subst (λ x. is_same b x ≡ true) promises.same (same_as_itself b)) ∙
        (ap (λ x. is_same b x) (leads.scout s there).ballot ∙ other))

    done : (after : Leading C) → on_p1b l m b [] after.proposals ≡ silently after
        → AllowsAt l.proposals (scouts.on_p1b s m b []).scout (scouts.on_p1b s m b []).says after.proposals
        → HearsP1b l m b report after sent sent
    done after is allowed = record {
      fresh = [];
      hears = record {
        gathers = λ t e promises. absurd (at_that (λ (t : Scouting C). ¬ IsPromising t m b) l.scout s there never t e promises);
        takes = at_that (λ (t : Scouting C). AllowsAt l.proposals (scouts.on_p1b t m b []).scout
            (scouts.on_p1b t m b []).says after.proposals) l.scout s there allowed;
      };
      state = sym (ap (λ (d : Done (Leading C) C). d.state) is);
      out = said_nothing sent l.members l.ballot.node _ (ap (λ (d : Done (Leading C) C). d.says) is);
    }

    go : (t : Bool) → is_below l.ballot b ≡ t
        → HearsP1b l m b report (cond t
        (record l {
          ballot = next_after b l.ballot.node l.ballot.boot;
          active = false;
          scout = None;
          commanders =
              empty;
        }) l) sent sent
    go true e =
        done (record l { ballot = next_after b l.ballot.node l.ballot.boot; active = false; scout = None; commanders = empty })
        (ap (λ (o : Option (Scouting C)). at_scout l m b [] l.proposals o) there ∙
        ap (λ (h : Hearing C). at_heard l l.proposals h.scout h.says) (heard true e) ∙
        ap (λ t. silently (cond t (record l { ballot = next_after b l.ballot.node l.ballot.boot; active = false; scout = None; commanders = empty }) l)) e)
        (subst (λ (h : Hearing C). AllowsAt l.proposals h.scout h.says l.proposals) (sym (heard true e)) tt)
    go false e =
        done l
        (ap (λ (o : Option (Scouting C)). at_scout l m b [] l.proposals o) there ∙
        ap (λ (h : Hearing C). at_heard l l.proposals h.scout h.says) (heard false e) ∙ as_it_was l s there)
        (subst (λ (h : Hearing C). AllowsAt l.proposals h.scout h.says l.proposals) (sym (heard false e)) tt)

-- the scout that stands gathers what is fresh of the report, and waits for more
pub waits_on : {C : Type 0} (l : Leading C) (m : ℕ) (report fresh : List (Pvalue C)) (sent : List (Letter C))
    (s : Scouting C) (after : Leading C) → l.scout ≡ Some s → IsScoutOf l s → is_member l.members m ≡ true
    → ¬ IsAdopting s m l.ballot → TakesFresh s m l.ballot report fresh
    → after ≡ record l { scout = Some (scouts.on_p1b s m l.ballot fresh).scout }
    → HearsP1b l m l.ballot report after sent sent
waits_on {C} l m report fresh sent s after there of member waits takes is =
    let same : is_same l.ballot l.ballot ≡ true = same_as_itself l.ballot in
    let heard = gathered l m l.ballot fresh s of member same in
    let not_yet : (scouts.on_p1b s m l.ballot fresh).says ≡ Adopted → ⊥ =
    λ e. waits (adopting (is_majority s.members (add s.heard m)) refl (sym (ap (λ (h : Hearing C). h.says) heard) ∙ e)) in
    let done = still_waits l m l.ballot fresh after.proposals s there of member same not_yet in
    record {
      fresh = fresh;
      hears = record {
        gathers = at_that (λ (t : Scouting C). TakesFresh t m l.ballot report fresh) l.scout s there takes;
        takes = takes_none l m l.ballot fresh after.proposals s there not_yet;
      };
      state = is ∙ sym (ap (λ (d : Done (Leading C) C). d.state) done);
      out = said_nothing sent l.members l.ballot.node _ (ap (λ (d : Done (Leading C) C). d.says) done);
    }
  where
    adopting : (t : Bool) → is_majority s.members (add s.heard m) ≡ t → cond t Adopted Wait ≡ Adopted → IsAdopting s m l.ballot
    adopting true e h = record { member = ap (λ ms. is_member ms m) of.members ∙ member; same = sym of.ballot; majority = e }
    adopting false e h = absurd (cc)

-- of the same pvalues the same is taken
takes_same : {C : Type 0} (old new : Slots C) (ps qs : List (Pvalue C)) → ((p : Pvalue C) → In p ps → In p qs)
    → ((p : Pvalue C) → In p qs → In p ps) → TakesGreatest old ps new → TakesGreatest old qs new
takes_same {C} old new ps qs to back takes s =
    elim (takes s) as (λ o. (IsOpen qs s × (get new s ≡ get old s)) ⊎ ((p : Pvalue C) × IsGreatest qs s p × (get new s ≡ Some p.value))) [
      | inl x ↦ inl (λ q i h. x.0 q (back q i) h, x.1)
      | inr x ↦ inr (x.0, record { within = to x.0 x.1.within; slot = x.1.slot; greatest = λ q i h. x.1.greatest q (back q i) h }, x.2)
    ]

-- the leader is adopted, and takes the greatest of what was gathered and reported
pub adopts : {C : Type 0} (l : Leading C) (m : ℕ) (report : List (Pvalue C)) (before now : List (Letter C))
    (s : Scouting C) (taken : Slots C) (after : Leading C)
    → ((p : Pvalue C) (ps : List (Pvalue C)) → In p ps ⊎ (In p ps → ⊥)) → l.scout ≡ Some s → IsAdopting s m l.ballot
    → TakesGreatest l.proposals (s.gathered ++ report) taken → after ≡ (adopted l taken).state
    → Sends l (adopted l taken).says before now → HearsP1b l m l.ballot report after before now
adopts {C} l m report before now s taken after decide there adopting greatest is sends =
    let f = some_fresh decide s.gathered report in
    let fresh = f.0 in
    let own : is_same l.ballot s.ballot ≡ true = subst (λ b. is_same l.ballot b ≡ true) adopting.same (same_as_itself l.ballot) in
    let heard : scouts.on_p1b s m l.ballot fresh ≡ gathers s m fresh =
    ap (λ t. cond t (cond (is_same l.ballot s.ballot) (gathers s m fresh)
    (cond (is_below s.ballot l.ballot) (unmoved s (Preempted l.ballot)) (unmoved s Wait))) (unmoved s Wait))
    adopting.member ∙
    ap (λ t. cond t (gathers s m fresh) (cond (is_below s.ballot l.ballot) (unmoved s (Preempted l.ballot)) (unmoved s Wait))) own in
    let says : (scouts.on_p1b s m l.ballot fresh).says ≡ Adopted =
    ap (λ (h : Hearing C). h.says) heard ∙ ap (λ t. cond t Adopted Wait) adopting.majority in
    let mine : taken ≡ after.proposals = sym (ap (λ (x : Leading C). x.proposals) is) in
    let takes : TakesGreatest l.proposals (scouts.on_p1b s m l.ballot fresh).scout.gathered taken =
    subst (λ (h : Hearing C). TakesGreatest l.proposals h.scout.gathered taken) (sym heard)
    (takes_same l.proposals taken (s.gathered ++ report) (s.gathered ++ fresh)
    (λ p i. ⊎_elim (λ (j : In p s.gathered). in_left p s.gathered fresh j)
    (λ (j : In p report). ⊎_elim (λ (k : In p s.gathered). in_left p s.gathered fresh k)
    (λ (k : In p fresh). in_right p s.gathered fresh k) (f.1.all p j)) (in_cases p s.gathered report i))
    (λ p i. ⊎_elim (λ (j : In p s.gathered). in_left p s.gathered report j)
    (λ (j : In p fresh). in_right p s.gathered report (f.1.part p j)) (in_cases p s.gathered fresh i)) greatest) in
    let done : on_p1b l m l.ballot fresh taken ≡ adopted l taken = is_adopted l m l.ballot fresh taken s there says in
    record {
      fresh = fresh;
      hears = record {
        gathers = at_that (λ (t : Scouting C). TakesFresh t m l.ballot report fresh) l.scout s there (λ promises. f.1);
        takes = subst (λ ps. MayTake l m l.ballot fresh ps) mine (may_take l m l.ballot fresh taken s there says takes);
      };
      state = is ∙ sym (ap (λ (d : Done (Leading C) C). d.state) done) ∙ ap (λ ps. (on_p1b l m l.ballot fresh ps).state) mine;
      out = sends ∙ ap (λ says. before ++ all_to_all l.members l.ballot.node says)
          (sym (ap (λ (d : Done (Leading C) C). d.says) done) ∙ ap (λ ps. (on_p1b l m l.ballot fresh ps).says) mine);
    }

-- the leader's own ballot is not above it
pub not_above : (a b : Numbers) → is_same b a ≡ true → is_below a b ≡ true → ⊥
not_above a b same above = grind (arith, nat_tests)

pub untold : (b : Bool) → false ≡ not b → b ≡ true
untold true h = refl
untold false h = cc
