-- What is left of a scout from a base on.
use Rattle.std.specs.Prelude.{ℕ}
use Rattle.ballot.specs.Rests.{pvalues_from}
use Rattle.scout_commander.specs.Scouts.{Scouting}

-- all but what was gathered of forgotten slots: who was heard stays heard
abbrev pub rest_of_scout : {C : Type 0} → ℕ → Scouting C → Scouting C
rest_of_scout base s = record s { gathered = pvalues_from base s.gathered }
