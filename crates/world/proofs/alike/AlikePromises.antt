-- What leaders that are alike make of a P1b with alike reports.
use Rattle.std.proofs.Common.{◌≡◌, ⊎_elim, ℕ, Bool, true, false, cond, List, ◌++◌, Some, Option, refl, subst}
use Rattle.object.specs.Lists.{In}
use Rattle.object.specs.ListLaws.{In-cases}
use Rattle.ballot.specs.Ballots.{Numbers, is_below, is_same}
use Rattle.ballot.specs.Members.{is_member, is_majority, add}
use Rattle.ballot.specs.OrderLaws.{BallotLaws}
use Rattle.ballot.specs.Slots.{Slots}
use Rattle.ballot.specs.declared.pvalue.Pvalue.{Pvalue}
use Rattle.scout_commander.specs.Reports.{IsFresh}
use Rattle.scout_commander.specs.Scouts.{Scouting, Hearing, TakesFresh, gathers, unmoved}
use Rattle.scout_commander.specs.Scouts as scouts
use Rattle.scout_commander.specs.declared.scout.Heard.TheVariants.{Wait, Adopted}
use Rattle.leader.specs.Leaders.{Leading}
use Rattle.leader.specs.Adoptions.{TakesGreatest, adopted}
use Rattle.leader.specs.Promises.{at_heard, AllowsAt, Hears}
use Rattle.leader.specs.Promises as promises
use Rattle.world.specs.Alike.{IsAlikeReport, IsAlikeScout, IsAlikeLeader, no_scout, but_gathered, but_scout}
use Rattle.world.proofs.alike.AlikeReports.{gathers_alike, taken_alike}
use Rattle.world.proofs.alike.AlikeLeaders.{IsAlikeDone, done_itself, silent_alike, preempted_with}

-- each of these was asked for
abbrev pub WasAsked : {C : Type 0} → (Pvalue C → Type 0) → List (Pvalue C) → Type 0
WasAsked {C} asked ps = (p : Pvalue C) → In p ps → asked p

-- and so was what the leader's scout gathered
abbrev pub ScoutAsked : {C : Type 0} → (Pvalue C → Type 0) → Leading C → Type 0
ScoutAsked {C} asked l = (s : Scouting C) → l.scout ≡ Some s → WasAsked asked s.gathered

gathered_asked : {C : Type 0} (asked : Pvalue C → Type 0) (ps rs fs : List (Pvalue C)) → WasAsked asked ps
    → WasAsked asked rs → IsFresh ps rs fs → WasAsked asked (ps ++ fs)
gathered_asked asked ps rs fs old new f p i =
    ⊎_elim (λ (at : In p ps). old p at) (λ (at : In p fs). new p (f.part p at)) (In-cases p ps fs i)

module _ (laws : BallotLaws) {C : Type 0} (asked : Pvalue C → Type 0)
    (unique : (p q : Pvalue C) → asked p → asked q → p.ballot ≡ q.ballot → p.slot ≡ q.slot → p.value ≡ q.value) where
  -- two scouts that are one but for what they gathered hear m, and two leaders that are one but for those scouts
  module _ (l : Leading C) (s : Scouting C) (ps : List (Pvalue C)) (known : IsAlikeReport s.gathered ps) (u v : Slots C) where
    abbrev one : Leading C
    one = record l { scout = Some s }

    abbrev other : Leading C
    other = record l { scout = Some (record s { gathered = ps }) }

    abbrev AtHearing : Hearing C → Hearing C → Type 0
    AtHearing h k =
        AllowsAt l.proposals h.scout h.says u → AllowsAt l.proposals k.scout k.says v
        → IsAlikeDone (at_heard one u h.scout h.says) (at_heard other v k.scout k.says)

    hearing_if : (test : Bool) (h j k g : Hearing C) → (test ≡ true → AtHearing h k) → (test ≡ false → AtHearing j g)
        → AtHearing (cond test h j) (cond test k g)
    hearing_if true h j k g on off = on refl
    hearing_if false h j k g on off = off refl

    waits : AtHearing (unmoved s Wait) (unmoved (record s { gathered = ps }) Wait)
    waits a b = silent_alike l (Some s) (Some (record s { gathered = ps })) (but_gathered s ps known)

    adopted_alike : (fs gs : List (Pvalue C)) → WasAsked asked (s.gathered ++ fs) → WasAsked asked (ps ++ gs)
        → IsAlikeReport (s.gathered ++ fs) (ps ++ gs) → TakesGreatest l.proposals (s.gathered ++ fs) u
        → TakesGreatest l.proposals (ps ++ gs) v → IsAlikeDone (adopted one u) (adopted other v)
    adopted_alike fs gs asked_one asked_other alike a b =
        subst (λ (y : Slots C). IsAlikeDone (adopted one u) (adopted other y))
        (taken_alike laws (s.gathered ++ fs) (ps ++ gs) alike (λ p q i j. unique p q (asked_one p i) (asked_other q j)) l.proposals u v a b)
        (done_itself laws (adopted one u))

    gathers_with : (m : ℕ) (fs gs : List (Pvalue C)) → WasAsked asked (s.gathered ++ fs) → WasAsked asked (ps ++ gs)
        → IsAlikeReport (s.gathered ++ fs) (ps ++ gs)
        → AtHearing (gathers s m fs) (gathers (record s { gathered = ps }) m gs)
    gathers_with m fs gs asked_one asked_other alike = by_test (is_majority s.members (add s.heard m))
      where
        now : Scouting C
        now = record s { heard = add s.heard m; gathered = s.gathered ++ fs }

        then : Scouting C
        then = record s { heard = add s.heard m; gathered = ps ++ gs }

        by_test : (test : Bool) → AtHearing (record { scout = now; says = cond test Adopted Wait }) (record { scout = then; says = cond test Adopted Wait })
        by_test true a b = adopted_alike fs gs asked_one asked_other alike a b
        by_test false a b = silent_alike l (Some now) (Some then) (but_gathered now (ps ++ gs) alike)

    hears_with : (m : ℕ) (b : Numbers) (rs ts fs gs : List (Pvalue C)) → IsAlikeReport rs ts → WasAsked asked rs
        → WasAsked asked ts → WasAsked asked s.gathered → WasAsked asked ps → TakesFresh s m b rs fs
        → TakesFresh (record s { gathered = ps }) m b ts gs
        → AtHearing (scouts.on_p1b s m b fs) (scouts.on_p1b (record s { gathered = ps }) m b gs)
    hears_with m b rs ts fs gs alike asked_r asked_t asked_s asked_p takes takes_other =
        hearing_if (is_member s.members m) _ _ _ _
        (λ member. hearing_if (is_same b s.ballot) _ _ _ _
        (λ mine.
        let f : IsFresh s.gathered rs fs = takes (record { member = member; same = laws.same b s.ballot mine }) in
        let g : IsFresh ps ts gs = takes_other (record { member = member; same = laws.same b s.ballot mine }) in
        gathers_with m fs gs (gathered_asked asked s.gathered rs fs asked_s asked_r f)
        (gathered_asked asked ps ts gs asked_p asked_t g) (gathers_alike s.gathered ps rs ts fs gs known alike f g))
        (λ another. hearing_if (is_below s.ballot b) _ _ _ _
        (λ up x y. preempted_with laws l (Some s) (Some (record s { gathered = ps })) (but_gathered s ps known) b)
        (λ down. waits)))
        (λ stranger. waits)

  module _ (m : ℕ) (b : Numbers) (rs ts fs gs : List (Pvalue C)) (u v : Slots C) (alike : IsAlikeReport rs ts)
      (asked_r : WasAsked asked rs) (asked_t : WasAsked asked ts) where
    promise_with : (l : Leading C) (o p : Option (Scouting C)) → IsAlikeScout o p
        → ScoutAsked asked (record l { scout = o }) → ScoutAsked asked (record l { scout = p })
        → Hears (record l { scout = o }) m b rs fs u → Hears (record l { scout = p }) m b ts gs v
        → IsAlikeDone (promises.on_p1b (record l { scout = o }) m b fs u)
        (promises.on_p1b (record l { scout = p }) m b gs v)
    promise_with l o p no_scout asked_one asked_other a c = done_itself laws _
    promise_with l o p (but_gathered s ps known) asked_one asked_other a c =
        hears_with l s ps known u v m b rs ts fs gs alike asked_r asked_t (asked_one s refl) (asked_other (record s { gathered = ps }) refl)
        (a.gathers s refl) (c.gathers (record s { gathered = ps }) refl)
        (a.takes s refl) (c.takes (record s { gathered = ps }) refl)

    pub promise_alike : (l k : Leading C) → IsAlikeLeader l k → ScoutAsked asked l → ScoutAsked asked k
        → Hears l m b rs fs u → Hears k m b ts gs v
        → IsAlikeDone (promises.on_p1b l m b fs u) (promises.on_p1b k m b gs v)
    promise_alike l k (but_scout t o h) asked_one asked_other a c = promise_with t t.scout o h asked_one asked_other a c
