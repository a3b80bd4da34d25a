-- What an adopted leader proposes (Paxos Made Moderately Complex, 2.3 and Figure 7).
use Rattle.std.specs.Prelude.{◌≡◌, ◌⊎◌, ℕ, true, false, List, map, None, Some}
use Rattle.std.specs.FinMap.{get, entries}
use Rattle.object.specs.Lists.{In}
use Rattle.ballot.specs.Ballots.{is_below}
use Rattle.ballot.specs.declared.pvalue.Pvalue.{Pvalue}
use Rattle.ballot.specs.declared.letter.LetterBody.{LetterBody}
use Rattle.ballot.specs.declared.letter.LetterBody.TheVariants.{P2a}
use Rattle.scout_commander.specs.Commanders.{Commanding, new_commander}
use Rattle.ballot.specs.Slots.{Slots, each_value}
use Rattle.leader.specs.Leaders.{Leading, Done, pvalue}

-- a pvalue of this slot that was gathered, and none of the slot has a greater ballot
pub record IsGreatest {C : Type 0} (gathered : List (Pvalue C)) (s : ℕ) (p : Pvalue C) : Type 0 where
  pub within : In p gathered
  pub slot : p.slot ≡ s
  pub greatest : (q : Pvalue C) → In q gathered → q.slot ≡ s → is_below p.ballot q.ballot ≡ false

-- no pvalue of this slot was gathered
abbrev pub IsOpen : {C : Type 0} → List (Pvalue C) → ℕ → Type 0
IsOpen {C} gathered s = (q : Pvalue C) → In q gathered → q.slot ≡ s → ⊥

-- At each slot with a gathered pvalue, one of the greatest ballot has replaced the proposal. Where several have it,
-- any one may.
abbrev pub TakesGreatest : {C : Type 0} → Slots C → List (Pvalue C) → Slots C → Type 0
TakesGreatest {C} old gathered new =
    (s : ℕ)
    → (IsOpen gathered s × (get new s ≡ get old s))
    ⊎ ((p : Pvalue C) × IsGreatest gathered s p × (get new s ≡ Some p.value))

-- a commander for each of these proposals
abbrev pub commanders_for : {C : Type 0} → Leading C → Slots C → Slots (Commanding C)
commanders_for l proposals = each_value (λ s c. new_commander l.members (pvalue l.ballot s c)) proposals

-- what they say
abbrev pub asks_acceptors : {C : Type 0} → Leading C → Slots C → List (LetterBody C)
asks_acceptors l proposals = map (λ e. P2a (pvalue l.ballot e.0 e.1)) (entries proposals)

-- Adopted: active with these proposals, and a commander for each
abbrev pub adopted : {C : Type 0} → Leading C → Slots C → Done (Leading C) C
adopted l proposals = record {
  state = record l { active = true; proposals = proposals; scout = None; commanders = commanders_for l proposals };
  says = asks_acceptors l proposals;
}
