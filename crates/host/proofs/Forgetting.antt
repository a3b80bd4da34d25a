-- What a host forgets leaves what it put aside as it is.
use Rattle.std.proofs.Common.{◌≡◌, ◌≤◌, ℕ, true, cond, List, [], ◌∷◌, Some, None, refl, ap, arith}
use Rattle.std.specs.Prelude.{nat_le}
use Rattle.std.proofs.lemmas.Bool.Decides.{nat_tests}
use Rattle.object.specs.ListLaws.{Each}
use Rattle.ballot.specs.Rests.{rest_of_body}
use Rattle.ballot.specs.declared.letter.LetterBody.{LetterBody}
use Rattle.ballot.specs.declared.letter.LetterBody.TheVariants.{P1a, P1b, P2a, P2b, Propose, Decision, Ask}
use Rattle.cluster.specs.Envelopes.{Envelope}
use Rattle.host.specs.Forgetting.{no_later_than, lowest_asked}
use Rattle.host.specs.Receiving.{AsksForVote, AwaitsVote}

module _ {C : Type 0} where
  no_later : (slot : ℕ) (body : LetterBody C) → no_later_than slot body ≤ slot
  no_later slot (P1a b) = omega arith
  no_later slot (P1b b report) = omega arith
  no_later slot (P2a p) = omega arith
  no_later slot (P2b o s b) = omega arith
  no_later slot (Propose s c) = omega arith
  no_later slot (Decision s c) = omega arith
  no_later slot (Ask s) = omega arith

  pub lowest_within : (slot : ℕ) (ps : List (Envelope C)) → lowest_asked slot ps ≤ slot
  lowest_within slot [] = omega arith
  lowest_within slot (p ∷ ps) =
      let first = no_later slot p.letter.body in
      let rest = lowest_within (no_later_than slot p.letter.body) ps in
      omega (arith, first, rest)

  -- nothing that asks for a vote is left out from there on
  whole_from : (slot low : ℕ) (body : LetterBody C) → AsksForVote body → low ≤ no_later_than slot body
      → rest_of_body low body ≡ Some body
  whole_from slot low (P1a b) asks h = refl
  whole_from slot low (P1b b report) asks h = absurd asks
  whole_from slot low (P2a p) asks h =
      let within : nat_le low p.slot ≡ true = grind (arith, nat_tests, h) in
      ap (λ t. cond t (Some (P2a p)) None) within
  whole_from slot low (P2b o s b) asks h = absurd asks
  whole_from slot low (Propose s c) asks h = absurd asks
  whole_from slot low (Decision s c) asks h = absurd asks
  whole_from slot low (Ask s) asks h = absurd asks

  pub awaits_from : (n base slot : ℕ) (ps : List (Envelope C)) → Each (AwaitsVote n base) ps
      → Each (AwaitsVote n (lowest_asked slot ps)) ps
  awaits_from n base slot [] all = tt
  awaits_from n base slot (p ∷ ps) all = (
    record {
      to = all.0.to;
      asks = all.0.asks;
      whole = whole_from slot (lowest_asked (no_later_than slot p.letter.body) ps) p.letter.body all.0.asks
          (lowest_within (no_later_than slot p.letter.body) ps);
    },
    awaits_from n base (no_later_than slot p.letter.body) ps all.1,
  )
