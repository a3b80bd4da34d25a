-- Places of letters, one letter more at a time.
use Rattle.std.proofs.Common.{◌≡◌, ◌≢◌, ⊎_elim, ℕ, zero, suc, ◌+◌, ◌<◌, ◌≤◌, Bool, true, false, List, [], ◌∷◌, ◌++◌, length}
use Rattle.std.proofs.Common.{Option, None, Some, refl, sym, ap, ◌∙◌, subst, arith}
use Rattle.std.specs.Prelude.{IsSome, IfSome, IfNone, slice_get, slice_index_or}
use Rattle.std.specs.FinMap.{empty, get, insert}
use Rattle.std.proofs.lemmas.Bool.{cases_eq, false≢true}
use Rattle.object.specs.Lists.{IsBeginning}
use Rattle.ballot.specs.Slots.{Slots}
use Rattle.ballot.specs.declared.letter.Letter.{Letter}
use Rattle.ballot.specs.declared.letter.LetterBody.{LetterBody}
use Rattle.node.specs.SlotLaws.{get_insert_cases, get_insert_same, none_in_empty}
use Rattle.agreement.proofs.books.LeadingSlots.{is_there}
use Rattle.agreement.proofs.chosen.LeaderRows.{some_same}
use Rattle.world.specs.declared.letter_places.LetterPlaces.{LetterPlaces}
use Rattle.world.specs.WaysOut.{ArePlaces, ArePlacesOf, IsToFirst, noted_place}
use Rattle.world.proofs.ways.LetterTests.{IsTestOf, is_sent, letter_at, no_letter}

pub where_none : {X P Q : Type 0} (o : Option X) → (P → Q) → IfNone o P → IfNone o Q
where_none None f h = f h
where_none (Some x) f h = tt

module _ {C : Type 0} {kind : ℕ → C → LetterBody C} {letters : List (Letter C)} {place : ℕ} {m : Slots ℕ} (h : ArePlacesOf kind letters place m) where
  finds_more : (o : Option ℕ) → ((s : ℕ) → o ≡ Some s → IsToFirst kind letters place s)
      → ((s : ℕ) → IsToFirst kind letters place s → o ≡ Some s) → ArePlacesOf kind letters (place + 1) (noted_place m o place)
  finds_more None here only = record {
    sound = h.sound;
    whole = λ j s low there. ⊎_elim
        (λ (e : j ≡ place). absurd (cc (only s (subst (λ k. IsToFirst kind letters k s) e there))))
        (λ (apart : j ≢ place). h.whole j s (omega arith) there)
        (cases_eq j place);
  }
  finds_more (Some t) here only = record {
    sound = λ s j e. ⊎_elim
        (λ (same : (s ≡ t) × (get (insert m t place) s ≡ Some place)). subst (λ k. IsToFirst kind letters k s)
        (some_same (sym same.1 ∙ e)) (subst (IsToFirst kind letters place) (sym same.0) (here t refl)))
        (λ (other : (s ≢ t) × (get (insert m t place) s ≡ get m s)). h.sound s j (sym other.1 ∙ e))
        (get_insert_cases m t place s);
    whole = λ j s low there. ⊎_elim
        (λ (e : j ≡ place). let same = some_same (only s (subst (λ k. IsToFirst kind letters k s) e there)) in
        subst (λ k. IsSome (get (insert m t place) k)) same (is_there (get (insert m t place) t) place (get_insert_same m t place)))
        (λ (apart : j ≢ place). still s (h.whole j s (omega arith) there))
        (cases_eq j place);
  }
    where
      still : (s : ℕ) → IsSome (get m s) → IsSome (get (insert m t place) s)
      still s some = ⊎_elim
          (λ (same : (s ≡ t) × (get (insert m t place) s ≡ Some place)). is_there (get (insert m t place) s) place same.1)
          (λ (other : (s ≢ t) × (get (insert m t place) s ≡ get m s)). subst IsSome (sym other.1) some)
          (get_insert_cases m t place s)

  -- the letter at the next place is read
  pub places_more : {test : ℕ → Letter C → Bool} → IsTestOf kind test → {l : Letter C} → place < length letters
      → l ≡ slice_index_or letters place l → (o : Option ℕ) → IfSome o (λ s. test s l ≡ true)
      → IfNone o ((s : ℕ) → test s l ≡ false) → ArePlacesOf kind letters (place + 1) (noted_place m o place)
  places_more tests within at None some none =
      finds_more None (λ s e. absurd (cc)) (λ s there. absurd (no_letter tests s within at (none s) there))
  places_more tests within at (Some t) some none =
      let own = letter_at tests t within at some in
      finds_more (Some t) (λ s e. subst (IsToFirst kind letters place) (some_same e) own)
      (λ s there. let same : own.letter ≡ there.letter = some_same (sym own.at ∙ there.at) in
      ap (λ x. Some x) (tests.one t s own.command there.command (sym own.body ∙ ap (λ l. l.body) same ∙ there.body)))

  -- where all letters were read and none was found, there is none
  pub not_found : (s : ℕ) (o : Option ℕ) → o ≡ get m s → IfNone o ((j : ℕ) → j < place → IsToFirst kind letters j s → ⊥)
  not_found s None e = λ j low there. false≢true (subst IsSome (sym e) (h.whole j s low there))
  not_found s (Some j) e = tt

  pub finds_fewer : {fewer : ℕ} → fewer ≤ place → ArePlacesOf kind letters fewer m
  finds_fewer low = record { sound = h.sound; whole = λ j s under there. h.whole j s (omega arith) there }

finds_none : {C : Type 0} (kind : ℕ → C → LetterBody C) (letters : List (Letter C)) (read : ℕ) (m : Slots ℕ)
    → read ≡ 0 → m ≡ empty → ArePlacesOf kind letters read m
finds_none kind letters read m none nothing = record {
  sound = λ s j e. none_in_empty s j (ap (λ (places : Slots ℕ). get places s) (sym nothing) ∙ e);
  whole = λ j s low there. absurd (omega arith);
}

pub places_none : {C : Type 0} (letters : List (Letter C)) (places : LetterPlaces) → places.read ≡ 0 → places.proposals ≡ empty
    → places.decisions ≡ empty → ArePlaces letters places.read places
places_none letters places none no_proposal no_decision = record {
  of_proposals = finds_none _ letters places.read places.proposals none no_proposal;
  of_decisions = finds_none _ letters places.read places.decisions none no_decision;
}

front_at : {A : Type 0} (xs ys : List A) (j : ℕ) → j < length xs → slice_get (xs ++ ys) j ≡ slice_get xs j
front_at [] ys j low = absurd (omega arith)
front_at (x ∷ xs) ys zero low = refl
front_at (x ∷ xs) ys (suc j) low = front_at xs ys j (omega arith)

-- what was found among the first letters is found where others follow them
module _ {C : Type 0} {old new : List (Letter C)} (begins : IsBeginning old new) {read : ℕ} (within : read ≤ length old) where
  finds_further : {kind : ℕ → C → LetterBody C} {m : Slots ℕ} → ArePlacesOf kind old read m → ArePlacesOf kind new read m
  finds_further {kind = kind} h = record { sound = λ s j e. on (h.sound s j e); whole = λ j s low p. h.whole j s low (back (omega arith) p) }
    where
      same_at : (j : ℕ) → j < length old → slice_get new j ≡ slice_get old j
      same_at j low = ap (λ ls. slice_get ls j) begins.1 ∙ front_at old begins.0 j low

      on : {j s : ℕ} → IsToFirst kind old j s → IsToFirst kind new j s
      on {j = j} p = record { letter = p.letter; command = p.command; at = same_at j (is_sent p) ∙ p.at; to = p.to; body = p.body }

      back : {j s : ℕ} → j < length old → IsToFirst kind new j s → IsToFirst kind old j s
      back {j = j} low p = record { letter = p.letter; command = p.command; at = sym (same_at j low) ∙ p.at; to = p.to; body = p.body }

  pub places_further : {places : LetterPlaces} → ArePlaces old read places → ArePlaces new read places
  places_further h = record { of_proposals = finds_further h.of_proposals; of_decisions = finds_further h.of_decisions }
