-- A commander (Paxos Made Moderately Complex, 2.3 and Figure 6): it counts who accepted its pvalue.
use Rattle.std.specs.Prelude.{◌≡◌, ℕ, Bool, true, List, Option, None, Some, if◌then◌else◌}
use Rattle.ballot.specs.Ballots.{Numbers, is_below, is_same}
use Rattle.ballot.specs.Members.{is_member, nobody, add, is_majority}
use Rattle.ballot.specs.declared.pvalue.Pvalue.{Pvalue}
use Rattle.scout_commander.specs.declared.commander.Voted.{Voted}
use Rattle.scout_commander.specs.declared.commander.Voted.TheVariants.{Wait, Decided, Preempted}

-- its members and pvalue, and who accepted it
pub record Commanding (C : Type 0) : Type 0 where
  pub members : List ℕ
  pub pvalue : Pvalue C
  pub heard : List Bool

abbrev pub new_commander : {C : Type 0} → List ℕ → Pvalue C → Commanding C
new_commander members pvalue = record { members = members; pvalue = pvalue; heard = nobody }

-- what a P2b makes of a commander, and what it says then
pub record Voting (C : Type 0) : Type 0 where
  pub commander : Commanding C
  pub says : Voted

abbrev pub unmoved : {C : Type 0} → Commanding C → Voted → Voting C
unmoved s says = record { commander = s; says = says }

-- a member accepted the pvalue
abbrev pub counts : {C : Type 0} → Commanding C → ℕ → Voting C
counts s m =
    let heard = add s.heard m in
    record {
      commander = record s { heard = heard };
      says = if is_majority s.members heard then Decided else Wait;
    }

abbrev pub votes : {C : Type 0} → Commanding C → ℕ → Option Numbers → Voting C
votes s m None = unmoved s Wait
votes s m (Some ballot) =
    if is_same ballot s.pvalue.ballot
    then counts s m
    else (if is_below s.pvalue.ballot ballot then unmoved s (Preempted ballot) else unmoved s Wait)

-- a P2b of m: its ballot is the commander's, or above it, or neither; and m may be no member
abbrev pub on_p2b : {C : Type 0} → Commanding C → ℕ → Option Numbers → Voting C
on_p2b s m ballot = if is_member s.members m then votes s m ballot else unmoved s Wait

-- a member has accepted the pvalue, and with it those that did are a majority
pub record IsDeciding {C : Type 0} (s : Commanding C) (m : ℕ) (ballot : Option Numbers) : Type 0 where
  pub member : is_member s.members m ≡ true
  pub same : ballot ≡ Some s.pvalue.ballot
  pub majority : is_majority s.members (add s.heard m) ≡ true
