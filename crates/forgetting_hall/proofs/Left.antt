-- What is left of letters.
use Rattle.std.proofs.Common.{◌≡◌, inl, inr, ℕ, Bool, true, false, cond, List, [], ◌∷◌, Some, None, Option, refl, sym, ap, ◌∙◌, subst, arith}
use Rattle.std.specs.Prelude.{nat_le, option_map}
use Rattle.std.specs.List.{cons_option}
use Rattle.object.specs.Lists.{In}
use Rattle.ballot.specs.declared.letter.Letter.{Letter}
use Rattle.ballot.specs.declared.letter.LetterBody.{LetterBody}
use Rattle.ballot.specs.declared.letter.LetterBody.TheVariants.{P1a, P1b, P2a, P2b, Propose, Decision, Ask}
use Rattle.ballot.specs.Rests.{if_from, rest_of_body, rest_of_letter, rests}
use Rattle.forgetting.proofs.Bases.{pvalues_twice}

module _ {C : Type 0} (base : ℕ) where
  -- the rest of a rest is the rest
  above_again : (s : ℕ) (b k : LetterBody C) → (test : Bool) → nat_le base s ≡ test
      → rest_of_body base b ≡ cond test (Some b) None → cond test (Some b) None ≡ Some k → rest_of_body base k ≡ Some k
  above_again s b k true e f g = let same : b ≡ k = cc in subst (λ q. rest_of_body base q ≡ Some q) same f
  above_again s b k false e f g = absurd (cc)

  same_body : (b k : LetterBody C) → Some b ≡ Some k → b ≡ k
  same_body b k e = cc

  at_slot : (s : ℕ) (b k : LetterBody C) → rest_of_body base b ≡ if_from base s b → rest_of_body base b ≡ Some k → rest_of_body base k ≡ Some k
  at_slot s b k e f = above_again s b k (nat_le base s) refl e (sym e ∙ f)

  pub rest_again : (b k : LetterBody C) → rest_of_body base b ≡ Some k → rest_of_body base k ≡ Some k
  rest_again (P1a b) k e = subst (λ q. rest_of_body base q ≡ Some q) (same_body _ _ e) refl
  rest_again (P1b b report) k e =
      subst (λ q. rest_of_body base q ≡ Some q) (same_body _ _ e)
      (ap (λ ps. Some (P1b b ps)) (pvalues_twice base base (omega arith) report))
  rest_again (P2a p) k e = at_slot p.slot (P2a p) k refl e
  rest_again (P2b o s by) k e = at_slot s (P2b o s by) k refl e
  rest_again (Propose s c) k e = at_slot s (Propose s c) k refl e
  rest_again (Decision s c) k e = at_slot s (Decision s c) k refl e
  rest_again (Ask s) k e = subst (λ q. rest_of_body base q ≡ Some q) (same_body _ _ e) refl

  -- a rest is of a letter
  pub record IsRestOf (l m : Letter C) : Type 0 where
    pub sender : l.«from» ≡ m.«from»
    pub receiver : l.to ≡ m.to
    pub body : rest_of_body base m.body ≡ Some l.body

  of_letter : (m l : Letter C) (o : Option (LetterBody C)) → rest_of_body base m.body ≡ o → option_map (λ b. record m { body = b }) o ≡ Some l → IsRestOf l m
  of_letter m l None e f = absurd (cc)
  of_letter m l (Some b) e f =
      let same : record m { body = b } ≡ l = cc in
      subst (λ q. IsRestOf q m) same (record { sender = refl; receiver = refl; body = e })

  rests_step : (l m : Letter C) (ms : List (Letter C)) (o : Option (Letter C)) → rest_of_letter base m ≡ o
      → In l (cons_option o (rests base ms)) → (In l (rests base ms) → (q : Letter C) × In q ms × IsRestOf l q)
      → (q : Letter C) × In q (m ∷ ms) × IsRestOf l q
  rests_step l m ms None e i more = let r = more i in (r.0, inr r.1, r.2)
  rests_step l m ms (Some k) e (inl same) more = (m, inl refl, of_letter m l (rest_of_body base m.body) refl (e ∙ ap (λ q. Some q) (sym same)))
  rests_step l m ms (Some k) e (inr i) more = let r = more i in (r.0, inr r.1, r.2)

  pub rests_In : (l : Letter C) (ms : List (Letter C)) → In l (rests base ms) → (m : Letter C) × In m ms × IsRestOf l m
  rests_In l [] i = absurd i
  rests_In l (m ∷ ms) i = rests_step l m ms (rest_of_letter base m) refl i (rests_In l ms)
