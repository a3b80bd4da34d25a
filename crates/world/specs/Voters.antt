-- Which slots have a command by the votes of a majority.
use Rattle.std.specs.Prelude.{◌≡◌, ℕ, ◌≤◌, ◌^◌, Bool, true, false, List}
use Rattle.object.specs.Lists.{In}
use Rattle.ballot.specs.Ballots.{Numbers}
use Rattle.ballot.specs.Members.{is_majority}
use Rattle.ballot.specs.declared.pvalue.Pvalue.{Pvalue}
use Rattle.agreement.specs.Nodes.{Cluster}
use Rattle.agreement.specs.Voters.{voters_of}

-- a majority did
abbrev pub is_voted : {C : Type 0} → Cluster C → Numbers → ℕ → Bool
is_voted k b s = is_majority k.members (voters_of k b s)

-- one of these pvalues has this slot and value, and the votes of a majority; no slot is greater than 2^62
pub record HasVoted {C : Type 0} (k : Cluster C) (ps : List (Pvalue C)) (s : ℕ) (c : C) : Type 0 where
  pub pvalue : Pvalue C
  pub among : In pvalue ps
  pub slot : pvalue.slot ≡ s
  pub value : pvalue.value ≡ c
  pub voted : is_voted k pvalue.ballot pvalue.slot ≡ true
  pub low : s ≤ 2 ^ 62

-- none of them has this slot and the votes of a majority
abbrev pub HasNoneVoted : {C : Type 0} → Cluster C → List (Pvalue C) → ℕ → Type 0
HasNoneVoted {C} k ps s = (p : Pvalue C) → In p ps → p.slot ≡ s → is_voted k p.ballot p.slot ≡ false
