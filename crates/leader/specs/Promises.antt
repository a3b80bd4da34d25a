-- What a leader makes of a P1b (Paxos Made Moderately Complex, 2.3 and Figures 6 and 7).
use Rattle.std.specs.Prelude.{◌≡◌, ℕ, List, Option, None, Some, ⊤}
use Rattle.ballot.specs.Ballots.{Numbers}
use Rattle.ballot.specs.declared.letter.Letter.{Letter}
use Rattle.ballot.specs.declared.pvalue.Pvalue.{Pvalue}
use Rattle.scout_commander.specs.Scouts.{Scouting, TakesFresh}
use Rattle.scout_commander.specs.Scouts as scouts
use Rattle.scout_commander.specs.declared.scout.Heard.{Heard}
use Rattle.scout_commander.specs.declared.scout.Heard.TheVariants.{Wait, Adopted, Preempted}
use Rattle.ballot.specs.Slots.{Slots}
use Rattle.leader.specs.Leaders.{Leading, Done, silently, preempted, Sends}
use Rattle.leader.specs.Adoptions.{TakesGreatest, adopted}

-- by what the scout says; if it is adopted, with these proposals
abbrev pub at_heard : {C : Type 0} → Leading C → Slots C → Scouting C → Heard → Done (Leading C) C
at_heard l proposals s Wait = silently (record l { scout = Some s })
at_heard l proposals s Adopted = adopted l proposals
at_heard l proposals s (Preempted b) = silently (preempted l b)

-- by the scout that stands, if any
abbrev pub at_scout : {C : Type 0} → Leading C → ℕ → Numbers → List (Pvalue C) → Slots C → Option (Scouting C) → Done (Leading C) C
at_scout l m ballot fresh proposals None = silently l
at_scout l m ballot fresh proposals (Some s) =
    let h = scouts.on_p1b s m ballot fresh in at_heard l proposals h.scout h.says

-- A P1b of m; without a scout nothing is done. This is fresh of its report, and the proposals are those that the leader takes if
-- it is adopted.
abbrev pub on_p1b : {C : Type 0} → Leading C → ℕ → Numbers → List (Pvalue C) → Slots C → Done (Leading C) C
on_p1b l m ballot fresh proposals = at_scout l m ballot fresh proposals l.scout

-- what a scout says allows these proposals; only an adoption has a say in them
abbrev pub AllowsAt : {C : Type 0} → Slots C → Scouting C → Heard → Slots C → Type 0
AllowsAt old s Wait proposals = ⊤
AllowsAt old s Adopted proposals = TakesGreatest old s.gathered proposals
AllowsAt old s (Preempted b) proposals = ⊤

-- If this P1b adopts the leader, it may take these proposals.
abbrev pub MayTake : {C : Type 0} → Leading C → ℕ → Numbers → List (Pvalue C) → Slots C → Type 0
MayTake {C} l m ballot fresh proposals =
    (s : Scouting C) → l.scout ≡ Some s
    → let h = scouts.on_p1b s m ballot fresh in AllowsAt l.proposals h.scout h.says proposals

-- What a P1b leaves free: so much of its report is fresh to the scout that stands, and if it adopts the leader, the
-- leader takes these proposals.
pub record Hears {C : Type 0} (l : Leading C) (m : ℕ) (ballot : Numbers) (report fresh : List (Pvalue C)) (taken : Slots C) : Type 0 where
  pub gathers : (s : Scouting C) → l.scout ≡ Some s → TakesFresh s m ballot report fresh
  pub takes : MayTake l m ballot fresh taken

-- after a P1b the leader is this, and these letters were sent
pub record HearsP1b {C : Type 0} (l : Leading C) (m : ℕ) (ballot : Numbers) (report : List (Pvalue C))
    (after : Leading C) (before now : List (Letter C)) : Type 0 where
  pub fresh : List (Pvalue C)
  pub hears : Hears l m ballot report fresh after.proposals
  pub state : after ≡ (on_p1b l m ballot fresh after.proposals).state
  pub out : Sends l (on_p1b l m ballot fresh after.proposals).says before now
