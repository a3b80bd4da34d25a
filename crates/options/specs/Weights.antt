-- Members as the options give them: by their number or by their weights.
use Rattle.std.specs.Prelude.{◌≡◌, ◌≢◌, ◌≤◌, ℕ, List, map, replicate, decimal, Option, None, Some}
use Rattle.std.specs.List.{join_with_byte}
use Rattle.ballot.specs.Members.{IsMembers}
use Rattle.options.specs.Numbers.{IsNumberOr}

-- numbers without leading zeros, parted by commas
abbrev pub weights_text : List ℕ → List ℕ
weights_text weights = join_with_byte 44 (map decimal weights)

-- these are the weights that the text writes, or it writes none of members
abbrev pub AreWeightsIn : List ℕ → Option (List ℕ) → Type 0
AreWeightsIn text (Some weights) = IsMembers weights × (weights_text weights ≡ text)
AreWeightsIn text None = (weights : List ℕ) → IsMembers weights → weights_text weights ≢ text

-- the members that the texts of both options ask for, or none where the weights are outside their rule or stand beside a number
abbrev pub AreMembersOf : Option (List ℕ) → Option (List ℕ) → Option (List ℕ) → Type 0
AreMembersOf number None members = (nodes : ℕ) × IsNumberOr 3 1 7 number nodes × (1 ≤ nodes) × (nodes ≤ 7) × (members ≡ Some (replicate nodes 1))
AreMembersOf None (Some weights) members = AreWeightsIn weights members
AreMembersOf (Some number) (Some weights) members = members ≡ None
