-- What a leader makes of a P2b (Paxos Made Moderately Complex, 2.3 and Figures 6 and 7).
use Rattle.std.specs.Prelude.{ℕ, Bool, not, ◌&&◌, [], ◌∷◌, if◌then◌else◌, Option, None, Some}
use Rattle.std.specs.FinMap.{get, insert, remove}
use Rattle.ballot.specs.Ballots.{Numbers, is_same, is_promise}
use Rattle.ballot.specs.declared.letter.LetterBody.TheVariants.{Decision}
use Rattle.scout_commander.specs.Commanders.{Commanding}
use Rattle.scout_commander.specs.Commanders as commanders
use Rattle.scout_commander.specs.declared.commander.Voted.{Voted}
use Rattle.scout_commander.specs.declared.commander.Voted.TheVariants.{Wait, Decided, Preempted}
use Rattle.leader.specs.Leaders.{Leading, Done, silently, preempted}

-- by what the commander of slot s says
abbrev pub at_voted : {C : Type 0} → Leading C → ℕ → Commanding C → Voted → Done (Leading C) C
at_voted l s c Wait = silently (record l { commanders = insert l.commanders s c })
at_voted l s c Decided = record { state = record l { commanders = remove l.commanders s }; says = Decision s c.pvalue.value ∷ [] }
at_voted l s c (Preempted b) = silently (preempted l b)

-- by the commander that stands there, if any
abbrev pub at_commander : {C : Type 0} → Leading C → ℕ → Option Numbers → ℕ → Option (Commanding C) → Done (Leading C) C
at_commander l m ballot s None = silently l
at_commander l m ballot s (Some c) = let v = commanders.on_p2b c m ballot in at_voted l s v.commander v.says

-- The vote is of the leader's ballot, but answers a P2a of another one. In Paxos Made Moderately Complex each
-- commander has an address of its own, at which such a vote never comes; here a P2b tells which ballot it answers.
abbrev pub answers_another : {C : Type 0} → Leading C → Option Numbers → Numbers → Bool
answers_another l ballot asked = is_promise ballot l.ballot && not (is_same asked l.ballot)

-- a P2b of m for slot s that answers a P2a of the ballot `asked`; without a commander nothing is done
abbrev pub on_p2b : {C : Type 0} → Leading C → ℕ → Option Numbers → ℕ → Numbers → Done (Leading C) C
on_p2b l m ballot s asked =
    if answers_another l ballot asked then silently l else at_commander l m ballot s (get l.commanders s)
