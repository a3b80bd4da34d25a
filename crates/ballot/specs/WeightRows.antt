-- The weights of members in a row of seven, with 0 where there is no member.
use Rattle.std.proofs.Common.{◌≡◌, ℕ, ◌-◌, ◌++◌, List, length, replicate, take, ap, ap₂, sym, ◌∙◌}
use Rattle.ballot.specs.Members.{IsMembers}
use Rattle.ballot.specs.declared.members.Members.TheInside.{Inside}

-- the row has the weights of so many members
pub record IsWeightRow (count : ℕ) (row : List ℕ) : Type 0 where
  pub members : IsMembers (take count row)
  pub length : length (take count row) ≡ count
  pub rest : row ≡ take count row ++ replicate (7 - count) 0

-- the row, from the weights
pub row_back : (m : Inside) → IsWeightRow m.count m.row
    → record {
      count = length {A = ℕ} (take m.count m.row);
      row =
          take m.count m.row ++ replicate (7 - length {A = ℕ} (take m.count m.row)) 0;
    } ≡ m
row_back m h = ap₂ (λ count row. record { count = count; row = row }) h.length (ap (λ n. take m.count m.row ++ replicate (7 - n) 0) h.length ∙ sym h.rest)
