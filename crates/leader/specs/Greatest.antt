-- How the greatest ballots and their values are found, one pvalue after another.
use Rattle.std.specs.Prelude.{not, ◌&&◌, List, [], ◌∷◌, Some, if◌then◌else◌}
use Rattle.std.specs.FinMap.{get, contains_key, insert}
use Rattle.ballot.specs.Ballots.{Numbers, is_promise, is_promise_below}
use Rattle.ballot.specs.Slots.{Slots}
use Rattle.ballot.specs.declared.pvalue.Pvalue.{Pvalue}

-- the greatest ballot of the pvalue's slot is raised to its own, where that is above
abbrev pub raised : {C : Type 0} → Slots Numbers → Pvalue C → Slots Numbers
raised greatest p =
    if is_promise_below (get greatest p.slot) (Some p.ballot) then insert greatest p.slot p.ballot else greatest

abbrev pub all_raised : {C : Type 0} → Slots Numbers → List (Pvalue C) → Slots Numbers
all_raised greatest [] = greatest
all_raised greatest (p ∷ ps) = all_raised (raised greatest p) ps

-- the pvalue's value is taken for its slot, where its ballot is that greatest one and no value is taken yet
abbrev pub value_taken : {C : Type 0} → Slots Numbers → Slots C → Pvalue C → Slots C
value_taken greatest taken p =
    if is_promise (get greatest p.slot) p.ballot && not (contains_key taken p.slot)
    then insert taken p.slot p.value
    else taken

abbrev pub all_taken : {C : Type 0} → Slots Numbers → Slots C → List (Pvalue C) → Slots C
all_taken greatest taken [] = taken
all_taken greatest taken (p ∷ ps) = all_taken greatest (value_taken greatest taken p) ps
