-- The order of ballots, from what the crate `ballot` promises.
use Rattle.std.proofs.Common.{◌≡◌, ◌⊎◌, ⊎_elim, ◌≤◌, Option, None, Some, true, false, true≢false, Bool, refl, sym, ◌∙◌, subst, arith}
use Rattle.std.proofs.lemmas.Bool.Decides.{nat_tests}
use Rattle.ballot.specs.Ballots.{Numbers, is_below, is_same}
pub use Rattle.ballot.specs.BallotLaws.{BallotLaws}

-- the ballot is no more than what was promised
abbrev pub IsUpto : Numbers → Option Numbers → Type 0
IsUpto b None = ⊥
IsUpto b (Some x) = is_below x b ≡ false

-- the ballot is less than what was promised
abbrev pub IsUnder : Numbers → Option Numbers → Type 0
IsUnder b None = ⊥
IsUnder b (Some x) = is_below b x ≡ true

pub below_round : (a b : Numbers) → is_below a b ≡ true → a.round ≤ b.round
below_round a b h = grind (arith, nat_tests)

pub same_itself : (a : Numbers) → is_same a a ≡ true
same_itself a = grind (arith, nat_tests)

not_false : (x : Bool) → (x ≡ true → ⊥) → x ≡ false
not_false true h = absurd (h refl)
not_false false h = refl

pub not_both : {P : Type 0} {x : Bool} → x ≡ true → x ≡ false → P
not_both p q = absurd (true≢false (sym p ∙ q))

module _ (laws : BallotLaws) where
  -- b ≤ a is written is_below a b ≡ false
  pub below_upto : (a b : Numbers) → is_below a b ≡ true → is_below b a ≡ false
  below_upto a b h = not_false _ (λ k. not_both (laws.through a b a h k) (laws.itself a))

  -- a < b ≤ c
  pub below_then_upto : (a b c : Numbers) → is_below a b ≡ true → is_below c b ≡ false → is_below a c ≡ true
  below_then_upto a b c h k =
      ⊎_elim
      (λ (x : is_below b c ≡ true). laws.through a b c h x)
      (λ (r : (b ≡ c) ⊎ (is_below c b ≡ true)). ⊎_elim (λ (e : b ≡ c). subst (λ z. is_below a z ≡ true) e h) (λ (x : is_below c b ≡ true). not_both x k) r)
      (laws.total b c)

  -- a ≤ b ≤ c
  pub upto_trans : (a b c : Numbers) → is_below b a ≡ false → is_below c b ≡ false → is_below c a ≡ false
  upto_trans a b c h k = not_false _ (λ x. not_both (below_then_upto c a b x h) k)
