-- Where the pvalues of a slot and a ballot can stand among those that were gathered.
use Rattle.std.specs.Prelude.{ℕ, List, take, length, min, IsSome}
use Rattle.std.specs.Option.{unwrap_or}
use Rattle.std.specs.Ordering.{nat_cmp, ordering_then}
use Rattle.std.specs.declared.cmp.Ordering.{Ordering}
use Rattle.std.specs.BTreeMap.{BTreeMap, get}
use Rattle.object.specs.Lists.{In}
use Rattle.ballot.specs.Ballots.{Numbers}
use Rattle.ballot.specs.BallotOrder.{ballot_cmp}
use Rattle.ballot.specs.declared.pvalue.Pvalue.{Pvalue}

-- by slot, and then by ballot
abbrev pub place_cmp : ℕ × Numbers → ℕ × Numbers → Ordering
place_cmp a b = ordering_then (nat_cmp a.0 b.0) (ballot_cmp a.1 b.1)

-- The index that is kept for the slot and ballot, among so many pvalues. Where none is kept, or it is beyond the end,
-- it is the end.
abbrev pub start : BTreeMap (ℕ × Numbers) ℕ → ℕ × Numbers → ℕ → ℕ
start starts place n = min (unwrap_or (get place_cmp starts place) n) n

-- an index is kept for the slot and ballot of each of the pvalues
abbrev pub HasStarts : {C : Type 0} → BTreeMap (ℕ × Numbers) ℕ → List (Pvalue C) → Type 0
HasStarts {C} starts pvalues = (p : Pvalue C) → In p pvalues → IsSome (get place_cmp starts (p.slot, p.ballot))

-- before the index that is kept for its slot and ballot no pvalue stands
abbrev pub IsIndexOf : {C : Type 0} → BTreeMap (ℕ × Numbers) ℕ → List (Pvalue C) → Type 0
IsIndexOf {C} starts pvalues =
    (p : Pvalue C) → In p (take (start starts (p.slot, p.ballot) (length pvalues)) pvalues) → ⊥
