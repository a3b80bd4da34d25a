-- What is stored may be written anew from a higher base on, also while records are behind it.
use Rattle.std.proofs.Common.{◌≡◌, ◌≤◌, ℕ, max, cond, List, [], ◌∷◌, refl, sym, ap, ◌∙◌, subst, arith}
use Rattle.std.specs.Prelude.{nat_le}
use Rattle.object.specs.declared.command.Command.{Command}
use Rattle.ballot.specs.OrderLaws.{BallotLaws}
use Rattle.ballot.specs.declared.letter.LetterBody.{LetterBody}
use Rattle.ballot.specs.declared.letter.LetterBody.TheVariants.{P1a, P1b, P2a, P2b, Propose, Decision, Ask}
use Rattle.ballot.specs.declared.pvalue.Pvalue.{Pvalue}
use Rattle.acceptor.specs.Acceptors.{Acceptances, Keeps, after_p1a, after_p2a}
use Rattle.acceptor.specs.Rests.{rest_of_acceptor}
use Rattle.node.proofs.Keeping.{keeps_all}
use Rattle.forgetting.proofs.Bases.{pvalues_twice, rest_keeps}
use Rattle.cluster.specs.Envelopes.{Envelope}
use Rattle.cluster.specs.Storing.{Stored, IsWrittenAnew, stored_after}
use Rattle.host.specs.Storing.{IsAsGood, stored_from, stored_on}
use Rattle.host.proofs.Storing.{accepted_left}

rest_twice : {C : Type 0} (low high : ℕ) → low ≤ high → (a : Acceptances C)
    → rest_of_acceptor high (rest_of_acceptor low a) ≡ rest_of_acceptor high a
rest_twice low high h a = ap (λ ps. record { promised = a.promised; accepted = ps }) (pvalues_twice low high h a.accepted)

-- what is left of it is written anew
pub left_anew : (laws : BallotLaws) {Op : Type 0} (d : Stored Op) (base : ℕ) → d.base ≤ base
    → IsWrittenAnew base d (stored_from base d)
left_anew laws d base low = record {
  base = omega (arith, low);
  acceptor = keeps_all laws (rest_of_acceptor base d.acceptor);
  boot = refl;
}

module _ {Op : Type 0} (base : ℕ) where
  abbrev left : Acceptances (Command Op) → Acceptances (Command Op)
  left = rest_of_acceptor base

  -- the same is left of both, though y may be of a lower base
  record SameLeft (x y : Stored Op) : Type 0 where
    above : x.base ≡ base
    below : y.base ≤ base
    acceptor : left x.acceptor ≡ left y.acceptor
    boot : x.boot ≡ y.boot

  accepted_both : (a b : Acceptances (Command Op)) (p : Pvalue (Command Op)) → left a ≡ left b
      → left (after_p2a a p) ≡ left (after_p2a b p)
  accepted_both a b p e =
      accepted_left base p a (nat_le base p.slot) refl
      ∙ ap (λ (c : Acceptances (Command Op)). record c { accepted = cond (nat_le base p.slot) (after_p2a c p).accepted c.accepted }) e
      ∙ sym (accepted_left base p b (nat_le base p.slot) refl)

  same_after : (x y : Stored Op) (body : LetterBody (Command Op)) → SameLeft x y
      → SameLeft (stored_after x body) (stored_after y body)
  same_after x y (P1a b) s = record {
    above = s.above;
    below = s.below;
    acceptor = ap (λ (c : Acceptances (Command Op)). after_p1a c b) s.acceptor;
    boot = s.boot;
  }
  same_after x y (P1b b report) s = s
  same_after x y (P2a p) s = record {
    above = s.above;
    below = s.below;
    acceptor = accepted_both x.acceptor y.acceptor p s.acceptor;
    boot = s.boot;
  }
  same_after x y (P2b o s1 by) s = s
  same_after x y (Propose s1 c) s = s
  same_after x y (Decision s1 c) s = s
  same_after x y (Ask s1) s = s

  same_on : (x y : Stored Op) (ps : List (Envelope (Command Op))) → SameLeft x y
      → SameLeft (stored_on x ps) (stored_on y ps)
  same_on x y [] s = s
  same_on x y (p ∷ ps) s =
      same_on (stored_after x p.letter.body) (stored_after y p.letter.body) ps (same_after x y p.letter.body s)

  good_left : (x y e : Stored Op) → SameLeft x y → IsAsGood y e → IsAsGood x (stored_from base e)
  good_left x y e s is =
      let high : max e.base base ≡ base = omega (arith, is.base, s.below) in
      record {
        base = high ∙ sym s.above;
        acceptor = subst (λ b. Keeps (rest_of_acceptor b x.acceptor) (rest_of_acceptor b (left e.acceptor))) (sym s.above)
            (subst (λ a. Keeps a (left (left e.acceptor))) (sym s.acceptor)
            (subst (λ a. Keeps (left y.acceptor) a) (sym (rest_twice base base (omega arith) e.acceptor))
            (subst (λ a. Keeps a (left e.acceptor)) (rest_twice y.base base s.below y.acceptor)
            (subst (λ a. Keeps (left (rest_of_acceptor y.base y.acceptor)) a) (rest_twice y.base base s.below e.acceptor)
            (rest_keeps base (rest_of_acceptor y.base y.acceptor) (rest_of_acceptor y.base e.acceptor) is.acceptor)))));
        boot = is.boot ∙ sym s.boot;
      }

  -- of what is as good as d with these records behind it, what is left is as good as what is left of d with them
  pub good_from : (d e : Stored Op) (ps : List (Envelope (Command Op))) → d.base ≤ base → IsAsGood (stored_on d ps) e
      → IsAsGood (stored_on (stored_from base d) ps) (stored_from base e)
  good_from d e ps low is =
      good_left (stored_on (stored_from base d) ps) (stored_on d ps) e
      (same_on (stored_from base d) d ps (record {
        above = omega (arith, low);
        below = low;
        acceptor = rest_twice base base (omega arith) d.acceptor;
        boot = refl;
      })) is
