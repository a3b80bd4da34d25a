-- What is stored as records are heard.
use Rattle.std.proofs.Common.{◌≡◌, ℕ, Bool, true, false, cond, List, [], ◌∷◌, ◌++◌, append-nil, None, Some, is_none, refl, sym, ap, ◌∙◌, subst}
use Rattle.std.specs.Prelude.{nat_le}
use Rattle.std.proofs.lemmas.List.Elements.{filter-append}
use Rattle.std.proofs.lemmas.Option.{same_Some}
use Rattle.object.specs.declared.command.Command.{Command}
use Rattle.ballot.specs.Ballots.{Numbers, is_promise}
use Rattle.ballot.specs.OrderLaws.{BallotLaws}
use Rattle.ballot.specs.Rests.{rest_of_body, pvalues_from}
use Rattle.ballot.specs.declared.letter.LetterBody.{LetterBody}
use Rattle.ballot.specs.declared.letter.LetterBody.TheVariants.{P1a, P1b, P2a, P2b, Propose, Decision, Ask}
use Rattle.ballot.specs.declared.pvalue.Pvalue.{Pvalue}
use Rattle.acceptor.specs.Acceptors.{Acceptances, Keeps, after_p1a, after_p2a}
use Rattle.acceptor.specs.Rests.{rest_of_acceptor}
use Rattle.node.proofs.Keeping.{keeps_all, keeps_p1a, keeps_p2a, reports}
use Rattle.forgetting.proofs.Bases.{rest_keeps}
use Rattle.cluster.specs.Envelopes.{Envelope}
use Rattle.cluster.specs.Storing.{Stored, stored_after}
use Rattle.host.specs.Receiving.{AsksForVote}
use Rattle.host.specs.Storing.{IsAsGood, stored_on}

module _ {C : Type 0} where
  pub if_left : (t : Bool) (b left : LetterBody C) → cond t (Some b) None ≡ Some left → b ≡ left
  if_left true b left e = same_Some b left e
  if_left false b left e = absurd (cc)

  -- where what is left asks for a vote, the whole does
  asks_whole : (base : ℕ) (body left : LetterBody C) → rest_of_body base body ≡ Some left → AsksForVote left → AsksForVote body
  asks_whole base (P1a b) left e a = tt
  asks_whole base (P1b b report) left e a = subst AsksForVote (sym (same_Some _ left e)) a
  asks_whole base (P2a p) left e a = tt
  asks_whole base (P2b o s by) left e a = subst AsksForVote (sym (if_left _ (P2b o s by) left e)) a
  asks_whole base (Propose s c) left e a = subst AsksForVote (sym (if_left _ (Propose s c) left e)) a
  asks_whole base (Decision s c) left e a = subst AsksForVote (sym (if_left _ (Decision s c) left e)) a
  asks_whole base (Ask s) left e a = subst AsksForVote (sym (same_Some _ left e)) a

-- what is no P1a and no P2a asks for no vote
pub asks_neither : {C : Type 0} (body : LetterBody C) → ((b : Numbers) → body ≡ P1a b → ⊥)
    → ((p : Pvalue C) → body ≡ P2a p → ⊥) → AsksForVote body → ⊥
asks_neither (P1a b) no_p1a no_p2a asks = no_p1a b refl
asks_neither (P1b b report) no_p1a no_p2a asks = asks
asks_neither (P2a p) no_p1a no_p2a asks = no_p2a p refl
asks_neither (P2b o s by) no_p1a no_p2a asks = asks
asks_neither (Propose s c) no_p1a no_p2a asks = asks
asks_neither (Decision s c) no_p1a no_p2a asks = asks
asks_neither (Ask s) no_p1a no_p2a asks = asks

-- what asks for a vote is left whole, if at all
pub asked_whole : {C : Type 0} (base : ℕ) (body : LetterBody C) → AsksForVote body
    → is_none (rest_of_body base body) ≡ false → rest_of_body base body ≡ Some body
asked_whole base (P1a b) asks some = refl
asked_whole base (P1b b report) asks some = absurd asks
asked_whole {C} base (P2a p) asks some = by_test (nat_le base p.slot) some
  where
    by_test : (t : Bool) → is_none (cond t (Some (P2a p)) None) ≡ false → cond t (Some (P2a p)) None ≡ Some (P2a p)
    by_test true e = refl
    by_test false e = absurd (cc)
asked_whole base (P2b o s by) asks some = absurd asks
asked_whole base (Propose s c) asks some = absurd asks
asked_whole base (Decision s c) asks some = absurd asks
asked_whole base (Ask s) asks some = absurd asks

module _ {Op : Type 0} where
  pub unasked : (d : Stored Op) (left : LetterBody (Command Op)) → (AsksForVote left → ⊥) → stored_after d left ≡ d
  unasked d (P1a b) none = absurd (none tt)
  unasked d (P1b b report) none = refl
  unasked d (P2a p) none = absurd (none tt)
  unasked d (P2b o s by) none = refl
  unasked d (Propose s c) none = refl
  unasked d (Decision s c) none = refl
  unasked d (Ask s) none = refl

  -- what asks for no vote isn't stored
  pub stored_no_vote : (d : Stored Op) (base : ℕ) (body left : LetterBody (Command Op)) → rest_of_body base body ≡ Some left
      → (AsksForVote body → ⊥) → stored_after d left ≡ d
  stored_no_vote d base body left e none = unasked d left (λ a. none (asks_whole base body left e a))

  -- a record behind others
  pub stored_behind : (d : Stored Op) (ps : List (Envelope (Command Op))) (p : Envelope (Command Op))
      → stored_on d (ps ++ (p ∷ [])) ≡ stored_after (stored_on d ps) p.letter.body
  stored_behind d [] p = refl
  stored_behind d (q ∷ ps) p = stored_behind (stored_after d q.letter.body) ps p

-- what is left of it once one more is accepted
module _ {C : Type 0} (base : ℕ) (p : Pvalue C) where
  one_left : (t : Bool) → nat_le base p.slot ≡ t → pvalues_from base (p ∷ []) ≡ cond t (p ∷ []) []
  one_left t e = ap (λ b. cond b (p ∷ []) []) e

  more_left : (ps : List (Pvalue C)) (promised t : Bool) → nat_le base p.slot ≡ t
      → pvalues_from base (cond promised (ps ++ (p ∷ [])) ps)
      ≡ cond t (cond promised (pvalues_from base ps ++ (p ∷ [])) (pvalues_from base ps)) (pvalues_from base ps)
  more_left ps true true e =
      filter-append (λ (q : Pvalue C). nat_le base q.slot) ps (p ∷ []) ∙ ap (λ qs. pvalues_from base ps ++ qs) (one_left true e)
  more_left ps true false e =
      filter-append (λ (q : Pvalue C). nat_le base q.slot) ps (p ∷ [])
      ∙ ap (λ qs. pvalues_from base ps ++ qs) (one_left false e) ∙ append-nil (pvalues_from base ps)
  more_left ps false true e = refl
  more_left ps false false e = refl

  pub accepted_left : (a : Acceptances C) (t : Bool) → nat_le base p.slot ≡ t
      → rest_of_acceptor base (after_p2a a p)
      ≡ record (rest_of_acceptor base a) {
        accepted = cond t (after_p2a (rest_of_acceptor base a) p).accepted (rest_of_acceptor base a).accepted;
      }
  accepted_left a t e =
      ap (λ qs. record { promised = a.promised; accepted = qs }) (more_left a.accepted (is_promise a.promised p.ballot) t e)

module _ (laws : BallotLaws) where
  -- what is kept of what is kept
  pub keeps_both : {C : Type 0} (a b c : Acceptances C) → Keeps a b → Keeps b c → Keeps a c
  keeps_both a b c h g = record {
    promised = g.promised ∙ h.promised;
    accepted = reports laws a b c.accepted h g.accepted;
  }

  module _ {Op : Type 0} (d e f : Stored Op) (is : IsAsGood d e) where
    abbrev left : Acceptances (Command Op) → Acceptances (Command Op)
    left = rest_of_acceptor d.base

    at_base : (a : Acceptances (Command Op)) → Keeps (rest_of_acceptor e.base a) (rest_of_acceptor e.base f.acceptor)
        → Keeps (left a) (left f.acceptor)
    at_base a h = subst (λ b. Keeps (rest_of_acceptor b a) (rest_of_acceptor b f.acceptor)) is.base h

    -- nothing more is stored
    same_record : IsAsGood e f → IsAsGood d f
    same_record h = record {
      base = h.base ∙ is.base;
      acceptor = keeps_both (left d.acceptor) (left e.acceptor) (left f.acceptor) is.acceptor (at_base e.acceptor h.acceptor);
      boot = h.boot ∙ is.boot;
    }

    pvalue_record : (p : Pvalue (Command Op)) (t : Bool) → nat_le d.base p.slot ≡ t
        → Keeps (left (after_p2a e.acceptor p)) (left f.acceptor) → Keeps (left (after_p2a d.acceptor p)) (left f.acceptor)
    pvalue_record p true low h =
        subst (λ a. Keeps a (left f.acceptor)) (sym (accepted_left d.base p d.acceptor true low))
        (keeps_p2a laws (left d.acceptor) (left e.acceptor) (left f.acceptor) p is.acceptor
        (subst (λ a. Keeps a (left f.acceptor)) (accepted_left d.base p e.acceptor true low) h))
    pvalue_record p false low h =
        subst (λ a. Keeps a (left f.acceptor)) (sym (accepted_left d.base p d.acceptor false low))
        (keeps_both (left d.acceptor) (left e.acceptor) (left f.acceptor) is.acceptor
        (subst (λ a. Keeps a (left f.acceptor)) (accepted_left d.base p e.acceptor false low) h))

    -- a record more
    pub good_record : (body : LetterBody (Command Op)) → IsAsGood (stored_after e body) f → IsAsGood (stored_after d body) f
    good_record (P1a b) h = record {
      base = h.base ∙ is.base;
      acceptor = keeps_both (after_p1a (left d.acceptor) b) (after_p1a (left e.acceptor) b) (left f.acceptor)
          (keeps_p1a (left d.acceptor) (left e.acceptor) b is.acceptor) (at_base (after_p1a e.acceptor b) h.acceptor);
      boot = h.boot ∙ is.boot;
    }
    good_record (P1b b report) h = same_record h
    good_record (P2a p) h = record {
      base = h.base ∙ is.base;
      acceptor = pvalue_record p (nat_le d.base p.slot) refl (at_base (after_p2a e.acceptor p) h.acceptor);
      boot = h.boot ∙ is.boot;
    }
    good_record (P2b o s by) h = same_record h
    good_record (Propose s c) h = same_record h
    good_record (Decision s c) h = same_record h
    good_record (Ask s) h = same_record h

  -- an acceptance is kept
  pub good_pvalue : {Op : Type 0} (d : Stored Op) (p : Pvalue (Command Op)) (new : Acceptances (Command Op))
      → Keeps (after_p2a d.acceptor p) new → IsAsGood (stored_after d (P2a p)) (record d { acceptor = new })
  good_pvalue d p new is = record {
    base = refl;
    acceptor = rest_keeps d.base (after_p2a d.acceptor p) new is;
    boot = refl;
  }

  -- as it is
  pub good_itself : {Op : Type 0} (d : Stored Op) → IsAsGood d d
  good_itself d = record { base = refl; acceptor = keeps_all laws (rest_of_acceptor d.base d.acceptor); boot = refl }
