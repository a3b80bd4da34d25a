-- Members are the nodes 1, 2, .. with a weight each. A set of members is a row of seven tests, the first for node 1.
use Rattle.std.specs.Prelude.{◌≡◌, ℕ, zero, suc, ◌+◌, ◌/◌, ◌<◌, ◌≤◌, Bool, true, false, nat_le, ◌==◌, ◌&&◌}
use Rattle.std.specs.Prelude.{if◌then◌else◌, List, [], ◌∷◌, length, slice_get, slice_index_or, slice_set, replicate}
use Rattle.std.specs.Prelude.{sum, Option, None}
use Rattle.std.specs.List.{list_all, range_with_len}

-- node m is a member
abbrev pub is_member : List ℕ → ℕ → Bool
is_member weights m = nat_le 1 m && nat_le m (length weights)

-- what a member can weigh
abbrev pub is_weight : ℕ → Bool
is_weight w = nat_le 1 w && nat_le w 1000

-- there are 1 to 7 members, of a weight of 1 to 1000 each
pub record IsMembers (weights : List ℕ) : Type 0 where
  pub some : 0 < length weights
  pub few : length weights ≤ 7
  pub each : list_all is_weight weights ≡ true

-- each member weighs 1
abbrev pub is_unweighted : List ℕ → Bool
is_unweighted weights = list_all (λ w. w == 1) weights

-- what node m weighs
abbrev pub weight_of : List ℕ → ℕ → Option ℕ
weight_of weights zero = None
weight_of weights (suc i) = slice_get weights i

-- the members, in rising number
abbrev pub numbers : List ℕ → List ℕ
numbers weights = range_with_len 1 (length weights)

abbrev pub nobody : List Bool
nobody = replicate 7 false

-- node m is in the set
abbrev pub has : List Bool → ℕ → Bool
has set zero = false
has set (suc i) = slice_index_or set i false

-- the set with node m
abbrev pub add : List Bool → ℕ → List Bool
add set zero = set
add set (suc i) = slice_set set i true

-- the weight of the members in the set
abbrev pub weigh : List ℕ → List Bool → ℕ
weigh [] set = 0
weigh (w ∷ ws) [] = 0
weigh (w ∷ ws) (b ∷ bs) = (if b then w else 0) + weigh ws bs

-- the least weight above half of the whole
abbrev pub majority : List ℕ → ℕ
majority weights = sum weights / 2 + 1

-- the set weighs at least that
abbrev pub is_majority : List ℕ → List Bool → Bool
is_majority weights set = nat_le (majority weights) (weigh weights set)
