-- Parts of accepted sets that are enough to know (Paxos Made Moderately Complex, 4.1: only the pvalue of the
-- highest ballot of each slot matters).
use Rattle.std.specs.Prelude.{◌≡◌, false, List}
use Rattle.object.specs.Lists.{In}
use Rattle.ballot.specs.Ballots.{is_below}
use Rattle.ballot.specs.declared.pvalue.Pvalue.{Pvalue}

-- a part of what was accepted that has, for each slot with an accepted pvalue, one of the greatest ballot
pub record IsReport {C : Type 0} (accepted report : List (Pvalue C)) : Type 0 where
  pub part : (p : Pvalue C) → In p report → In p accepted
  pub greatest : (p : Pvalue C) → In p accepted → (q : Pvalue C) × In q report × (q.slot ≡ p.slot) × (is_below q.ballot p.ballot ≡ false)
