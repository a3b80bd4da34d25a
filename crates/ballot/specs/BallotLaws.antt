-- What the crate of ballots promises of their order and of majorities, put together.
use Rattle.std.specs.Prelude.{◌≡◌, ◌⊎◌, ℕ, List, Bool, true, false}
use Rattle.ballot.specs.Ballots.{Numbers, is_below, is_same}
use Rattle.ballot.specs.Members.{is_member, has, is_majority}

-- the order of ballots is total, a ballot is its numbers, and two majorities share a member
pub record BallotLaws : Type 0 where
  pub itself : (a : Numbers) → is_below a a ≡ false
  pub through : (a b c : Numbers) → is_below a b ≡ true → is_below b c ≡ true → is_below a c ≡ true
  pub total : (a b : Numbers) → (is_below a b ≡ true) ⊎ ((a ≡ b) ⊎ (is_below b a ≡ true))
  pub same : (a b : Numbers) → is_same a b ≡ true → a ≡ b
  pub share : (members : List ℕ) (a b : List Bool) → is_majority members a ≡ true → is_majority members b ≡ true
      → (m : ℕ) × (has a m ≡ true) × (has b m ≡ true) × (is_member members m ≡ true)
