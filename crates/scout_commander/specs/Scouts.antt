-- A scout (Paxos Made Moderately Complex, 2.3 and Figure 6): it gathers what acceptors report with their promises, each
-- pvalue once.
use Rattle.std.specs.Prelude.{◌≡◌, ℕ, Bool, true, List, [], ◌++◌, if◌then◌else◌}
use Rattle.ballot.specs.Ballots.{Numbers, is_below, is_same}
use Rattle.ballot.specs.Members.{is_member, nobody, add, is_majority}
use Rattle.ballot.specs.declared.pvalue.Pvalue.{Pvalue}
use Rattle.scout_commander.specs.Reports.{IsFresh, beyond}
use Rattle.scout_commander.specs.declared.scout.Heard.{Heard}
use Rattle.scout_commander.specs.declared.scout.Heard.TheVariants.{Wait, Adopted, Preempted}

-- its members and ballot, whom it heard, and what they reported
pub record Scouting (C : Type 0) : Type 0 where
  pub members : List ℕ
  pub ballot : Numbers
  pub heard : List Bool
  pub gathered : List (Pvalue C)

abbrev pub new_scout : {C : Type 0} → List ℕ → Numbers → Scouting C
new_scout members ballot = record { members = members; ballot = ballot; heard = nobody; gathered = [] }

-- what a P1b makes of a scout, and what it says then
pub record Hearing (C : Type 0) : Type 0 where
  pub scout : Scouting C
  pub says : Heard

abbrev pub unmoved : {C : Type 0} → Scouting C → Heard → Hearing C
unmoved s says = record { scout = s; says = says }

-- a member promised the scout's ballot, and this is fresh of its report
abbrev pub gathers : {C : Type 0} → Scouting C → ℕ → List (Pvalue C) → Hearing C
gathers s m fresh =
    let heard = add s.heard m in
    record {
      scout = record s { heard = heard; gathered = s.gathered ++ fresh };
      says = if is_majority s.members heard then Adopted else Wait;
    }

-- A P1b of m: its ballot is the scout's, or above it, or neither; and m may be no member.
-- Where it is the scout's, this is fresh of the report.
abbrev pub on_p1b : {C : Type 0} → Scouting C → ℕ → Numbers → List (Pvalue C) → Hearing C
on_p1b s m ballot fresh =
    if is_member s.members m
    then
    (if is_same ballot s.ballot
    then gathers s m fresh
    else (if is_below s.ballot ballot then unmoved s (Preempted ballot) else unmoved s Wait))
    else unmoved s Wait

-- a member has promised the scout's ballot, so that its report is gathered
pub record IsPromising {C : Type 0} (s : Scouting C) (m : ℕ) (ballot : Numbers) : Type 0 where
  pub member : is_member s.members m ≡ true
  pub same : ballot ≡ s.ballot

-- what a scout has gathered since
abbrev pub fresh_of : {C : Type 0} → Scouting C → Scouting C → List (Pvalue C)
fresh_of before after = beyond before.gathered after.gathered

-- of a promise of the scout's ballot nothing is asked but that this is fresh of its report
abbrev pub TakesFresh : {C : Type 0} → Scouting C → ℕ → Numbers → List (Pvalue C) → List (Pvalue C) → Type 0
TakesFresh s m ballot report fresh = IsPromising s m ballot → IsFresh s.gathered report fresh

-- a member has promised the scout's ballot, and with it those that did are a majority
pub record IsAdopting {C : Type 0} (s : Scouting C) (m : ℕ) (ballot : Numbers) : Type 0 where
  pub member : is_member s.members m ≡ true
  pub same : ballot ≡ s.ballot
  pub majority : is_majority s.members (add s.heard m) ≡ true

-- a member has promised a greater ballot
pub record IsPreempting (members : List ℕ) (own : Numbers) (m : ℕ) (ballot : Numbers) : Type 0 where
  pub member : is_member members m ≡ true
  pub above : is_below own ballot ≡ true
