-- Letters to node 1 of one kind: those that propose something for a slot, or those that tell what is decided there.
use Rattle.std.proofs.Common.{◌≡◌, ⊎_elim, ℕ, ◌+◌, ◌<◌, Bool, true, false, true≢false, List, length, refl, sym, ap, ◌∙◌, subst, arith}
use Rattle.std.specs.Prelude.{◌==◌, slice_index_or}
use Rattle.std.proofs.lemmas.Bool.{and_parts, cases_eq, eq-eqb, eqb-true}
use Rattle.std.proofs.lemmas.Option.{slice_get_read, slice_get_within}
use Rattle.ballot.specs.declared.letter.Letter.{Letter}
use Rattle.ballot.specs.declared.letter.LetterBody.{LetterBody}
use Rattle.ballot.specs.declared.letter.LetterBody.TheVariants.{P1a, P1b, P2a, P2b, Propose, Decision, Ask}
use Rattle.agreement.proofs.chosen.LeaderRows.{some_same}
use Rattle.world.specs.WaysOut.{IsToFirst, proposes_to, is_proposal, decides_to, is_decision}

-- the test tells letters of this kind for a slot from all others, and no letter is for two slots
pub record IsTestOf {C : Type 0} (kind : ℕ → C → LetterBody C) (test : ℕ → Letter C → Bool) : Type 0 where
  pub finds : (slot : ℕ) (l : Letter C) → test slot l ≡ true → (c : C) × (l.to ≡ 1) × (l.body ≡ kind slot c)
  pub passes : (slot : ℕ) (c : C) (l : Letter C) → l.to ≡ 1 → l.body ≡ kind slot c → test slot l ≡ true
  pub one : (s t : ℕ) (c d : C) → kind s c ≡ kind t d → s ≡ t

module _ {C : Type 0} (slot to : ℕ) where
  proposes_is : (body : LetterBody C) → proposes_to slot to body ≡ true → (c : C) × (to ≡ 1) × (body ≡ Propose slot c)
  proposes_is (P1a b) e = absurd (cc)
  proposes_is (P1b b report) e = absurd (cc)
  proposes_is (P2a p) e = absurd (cc)
  proposes_is (P2b o s by) e = absurd (cc)
  proposes_is (Propose s c) e = let h = and_parts (to == 1) (s == slot) e in (c, eqb-true to 1 h.0, ap (λ t. Propose t c) (eqb-true s slot h.1))
  proposes_is (Decision s c) e = absurd (cc)
  proposes_is (Ask s) e = absurd (cc)

  decides_is : (body : LetterBody C) → decides_to slot to body ≡ true → (c : C) × (to ≡ 1) × (body ≡ Decision slot c)
  decides_is (P1a b) e = absurd (cc)
  decides_is (P1b b report) e = absurd (cc)
  decides_is (P2a p) e = absurd (cc)
  decides_is (P2b o s by) e = absurd (cc)
  decides_is (Propose s c) e = absurd (cc)
  decides_is (Decision s c) e = let h = and_parts (to == 1) (s == slot) e in (c, eqb-true to 1 h.0, ap (λ t. Decision t c) (eqb-true s slot h.1))
  decides_is (Ask s) e = absurd (cc)

pub tests_proposals : {C : Type 0} → IsTestOf {C = C} Propose is_proposal
tests_proposals = record {
  finds = λ slot l e. proposes_is slot l.to l.body e;
  passes = λ slot c l to body. ap (λ n. proposes_to slot n l.body) to ∙ ap (proposes_to slot 1) body ∙ eq-eqb slot slot refl;
  one = λ s t c d e. cc;
}

pub tests_decisions : {C : Type 0} → IsTestOf {C = C} Decision is_decision
tests_decisions = record {
  finds = λ slot l e. decides_is slot l.to l.body e;
  passes = λ slot c l to body. ap (λ n. decides_to slot n l.body) to ∙ ap (decides_to slot 1) body ∙ eq-eqb slot slot refl;
  one = λ s t c d e. cc;
}

module _ {C : Type 0} {kind : ℕ → C → LetterBody C} where
  pub is_sent : {letters : List (Letter C)} {j slot : ℕ} → IsToFirst kind letters j slot → j < length letters
  is_sent {letters = letters} {j = j} h = slice_get_within letters j h.letter h.at

  -- a test of the letter at a place
  module _ {test : ℕ → Letter C → Bool} (tests : IsTestOf kind test) {letters : List (Letter C)} {j : ℕ} (slot : ℕ) {l : Letter C}
      (within : j < length letters) (at : l ≡ slice_index_or letters j l) where
    pub letter_at : test slot l ≡ true → IsToFirst kind letters j slot
    letter_at e =
        let h = tests.finds slot l e in
        record { letter = l; command = h.0; at = slice_get_read letters (length letters) j l refl within at; to = h.1; body = h.2 }

    pub no_letter : test slot l ≡ false → IsToFirst kind letters j slot → ⊥
    no_letter e h =
        let same : h.letter ≡ l = some_same (sym h.at ∙ slice_get_read letters (length letters) j l refl within at) in
        true≢false (sym (tests.passes slot h.command h.letter h.to h.body) ∙ ap (test slot) same ∙ e)

-- none so far, and none at the next place
pub none_more : (P : ℕ → Type 0) (j : ℕ) → ((k : ℕ) → k < j → P k → ⊥) → (P j → ⊥) → (k : ℕ) → k < j + 1 → P k → ⊥
none_more P j before here k low h = ⊎_elim
    (λ (e : k ≡ j). here (subst P e h))
    (λ (apart : k ≡ j → ⊥). before k (omega arith) h)
    (cases_eq k j)
