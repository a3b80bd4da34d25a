-- What is left of a leader from a base on.
use Rattle.std.specs.Prelude.{◌≡◌, ℕ, Some, filter_map, option_map}
use Rattle.std.specs.FinMap.{get}
use Rattle.ballot.specs.Rests.{kept_from, rest_of_body}
use Rattle.scout_commander.specs.Commanders.{Commanding}
use Rattle.scout_commander.specs.Rests.{rest_of_scout}
use Rattle.leader.specs.Leaders.{Leading, Done}

-- the proposals and commanders of the slots that are kept, and what is left of the scout
abbrev pub rest_of_leader : {C : Type 0} → ℕ → Leading C → Leading C
rest_of_leader base l = record l {
  proposals = kept_from base l.proposals;
  scout = option_map (rest_of_scout base) l.scout;
  commanders = kept_from base l.commanders;
}

-- what is left of what a leader becomes and says
abbrev pub rest_of_done : {C : Type 0} → ℕ → Done (Leading C) C → Done (Leading C) C
rest_of_done base d = record { state = rest_of_leader base d.state; says = filter_map (rest_of_body base) d.says }

-- each commander stands in the slot of its pvalue
abbrev pub StandInSlots : {C : Type 0} → Leading C → Type 0
StandInSlots {C} l = (s : ℕ) (c : Commanding C) → get l.commanders s ≡ Some c → c.pvalue.slot ≡ s
