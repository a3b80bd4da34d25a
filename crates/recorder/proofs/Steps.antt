-- Records that grow step by step, and stay kept.
use Rattle.std.proofs.Common.{◌≡◌, ◌+◌, ◌<◌, ◌≤◌, ℕ, ⊎_elim, Bool, true, false, cond, ◌||◌, List, [], ◌∷◌, ◌++◌, length}
use Rattle.std.proofs.Common.{map, set, get_or, Option, None, Some, refl, sym, ap, ap₂, subst, ◌∙◌, arith}
use Rattle.std.proofs.lemmas.Bool.{false≢true, false_from_ne_true}
use Rattle.std.proofs.lemmas.List.{map-append, length-append}
use Rattle.object.specs.Lists.{In}
use Rattle.object.specs.ListLaws.{In-left, In-cases}
use Rattle.object.specs.Keys.{same_key, stands, place_of}
use Rattle.object.specs.Answers.{answered_key}
use Rattle.object.specs.Happenings.{submitted_key, is_submitted, ComeInOrder}
use Rattle.object.specs.declared.command.Answer.{Answer}
use Rattle.object.specs.declared.command.Key.{Key}
use Rattle.object.specs.declared.command.Submission.{Submission}
use Rattle.recorder.specs.Records.{IsRecord, EndsOpen, record_of, own_key}
use Rattle.recorder.specs.Fates.{fate_at}
use Rattle.recorder.specs.declared.fate.Fate.{Fate}
use Rattle.object.specs.KeyLaws.{same_is, same_itself}
use Rattle.recorder.proofs.Onces.{lacks, lacked}
use Rattle.recorder.proofs.Places.{place_more, place_none, stands_more, once_more, once_less, or_nil}
use Rattle.recorder.proofs.Counts.{no_more}
use Rattle.recorder.proofs.Rows.{row_at, row_set}
use Rattle.recorder.proofs.Times.{order_more, within_more}

or_true : (b : Bool) → (b || true) ≡ true
or_true true = refl
or_true false = refl

or_either : (a b : Bool) → (a || b) ≡ true → b ≡ false → a ≡ true
or_either true b h g = refl
or_either false b h g = absurd (false≢true (sym g ∙ h))

-- an item's key is another than one that does not stand
other : {X : Type 0} (key_of : X → Key) (k : Key) (xs : List X) (y : X) → stands key_of k xs ≡ false → In y xs → same_key k (key_of y) ≡ false
other key_of k xs y none i = false_from_ne_true (same_key k (key_of y)) (λ t. lacked key_of k xs none y i (sym (same_is k (key_of y) t)))

module _ {Op : Type 0} where
  -- a key stays submitted
  still : (k : Key) (S : List (Submission Op)) (s : Submission Op) → is_submitted k S ≡ true → is_submitted k (S ++ s ∷ []) ≡ true
  still k S s h = stands_more submitted_key k S s ∙ ap (λ b. b || same_key (submitted_key s) k) h

  -- submissions before the last
  ordered_less : (S : List (Submission Op)) (s : Submission Op) → ComeInOrder (S ++ s ∷ []) → ComeInOrder S
  ordered_less [] s h = tt
  ordered_less (t ∷ S) s h = ((λ u i. h.0 u (In-left u S (s ∷ []) i)), ordered_less S s h.1)

module _ {Op Reply : Type 0} where
  -- a key that was not submitted has no answer, and no place
  pub no_answer : (S : List (Submission Op)) (A : List (Answer Reply)) (O : List Key) (k : Key)
      → IsRecord (record_of S A O) → is_submitted k S ≡ false → stands answered_key k A ≡ false
  no_answer S A O k told new =
      lacks answered_key k A (λ a i e. false≢true (sym new ∙ ap (λ q. is_submitted q S) (sym e) ∙ told.answered_known a i))

  pub no_place : (S : List (Submission Op)) (A : List (Answer Reply)) (O : List Key) (k : Key)
      → IsRecord (record_of S A O) → is_submitted k S ≡ false → stands own_key k O ≡ false
  no_place S A O k told new =
      lacks own_key k O (λ q i e. false≢true (sym new ∙ ap (λ j. is_submitted j S) (sym e) ∙ told.placed_known q i))

  -- a submission is added
  pub submitted_told : (S : List (Submission Op)) (A : List (Answer Reply)) (O : List Key) (s : Submission Op) →
      IsRecord (record_of S A O) → is_submitted (submitted_key s) S ≡ false → s.after ≡ length A → IsRecord (record_of (S ++ s ∷ []) A O)
  submitted_told S A O s told new after = record {
    timeline = record {
      ordered = order_more S s told.timeline.ordered (λ t i. subst (λ n. t.after ≤ n) (sym after) (told.timeline.within t i));
      within = within_more S s (length A) told.timeline.within after;
    };
    submitted_once = once_more submitted_key S s told.submitted_once new;
    answered_once = told.answered_once;
    placed_once = told.placed_once;
    answered_known = λ a i. still a.to S s (told.answered_known a i);
    placed_known = λ k i. still k S s (told.placed_known k i);
  }

  pub submitted_fates : (S : List (Submission Op)) (A : List (Answer Reply)) (O : List Key) (fates : List Fate) (s : Submission Op) →
      IsRecord (record_of S A O) → is_submitted (submitted_key s) S ≡ false → fates ≡ map (λ t. fate_at (record_of S A O) (submitted_key t)) S →
      fates ++ record { answer = None; is_placed = false } ∷ [] ≡ map (λ t. fate_at (record_of S A O) (submitted_key t)) (S ++ s ∷ [])
  submitted_fates S A O fates s told new fated =
      let k = submitted_key s in
      let F : Key → Fate = fate_at (record_of S A O) in
      ap₂ (λ fs (f : Fate). fs ++ f ∷ []) fated
      (sym (ap₂ (λ a p. record { answer = a; is_placed = p }) (place_none answered_key k A (no_answer S A O k told new)) (no_place S A O k told new)))
      ∙ sym (map-append (λ (t : Submission Op). F (submitted_key t)) S (s ∷ []))

  -- nothing followed from it yet
  pub submitted_open : (S : List (Submission Op)) (A : List (Answer Reply)) (O : List Key) (s : Submission Op) →
      IsRecord (record_of S A O) → is_submitted (submitted_key s) S ≡ false → EndsOpen (record_of (S ++ s ∷ []) A O)
  submitted_open S A O s told new = record {
    before = S;
    last = s;
    ends = refl;
    unanswered = no_answer S A O (submitted_key s) told new;
    unplaced = no_place S A O (submitted_key s) told new;
  }

  -- an answer is added
  pub answered_told : (S : List (Submission Op)) (A : List (Answer Reply)) (O : List Key) (a : Answer Reply) →
      IsRecord (record_of S A O) → is_submitted a.to S ≡ true → stands answered_key a.to A ≡ false → IsRecord (record_of S (A ++ a ∷ []) O)
  answered_told S A O a told known new = record {
    timeline = record {
      ordered = told.timeline.ordered;
      within = λ s i. let before : s.after ≤ length A =
          told.timeline.within s i in let longer : length (A ++ a ∷ []) ≡ length A + 1 =
          length-append A (a ∷ []) in omega arith;
    };
    submitted_once = told.submitted_once;
    answered_once = once_more answered_key A a told.answered_once new;
    placed_once = told.placed_once;
    answered_known = λ b i. ⊎_elim (λ j. told.answered_known b j)
        (⊎_elim (λ e. ap (λ (c : Answer Reply). is_submitted c.to S) e ∙ known) (λ j. absurd j))
        (In-cases b A (a ∷ []) i);
    placed_known = told.placed_known;
  }

  pub answers_room : (S : List (Submission Op)) (A : List (Answer Reply)) (O : List Key) (a : Answer Reply) →
      IsRecord (record_of S A O) → is_submitted a.to S ≡ true → stands answered_key a.to A ≡ false → length A < length S
  answers_room S A O a told known new =
      let all = answered_told S A O a told known new in
      let more : length (A ++ a ∷ []) ≤ length S = no_more submitted_key answered_key (A ++ a ∷ []) S all.answered_once all.answered_known in
      let longer : length (A ++ a ∷ []) ≡ length A + 1 = length-append A (a ∷ []) in omega arith

  pub answered_fates : (S : List (Submission Op)) (A : List (Answer Reply)) (O : List Key) (fates : List Fate)
      (a : Answer Reply) (i n : ℕ) (d : Fate) (p : Bool) →
      IsRecord (record_of S A O) → fates ≡ map (λ t. fate_at (record_of S A O) (submitted_key t)) S
      → place_of submitted_key a.to S ≡ Some i → stands answered_key a.to A ≡ false →
      n ≡ length A → p ≡ (get_or fates i d).is_placed →
      set fates i (record { answer = Some n; is_placed = p }) ≡ map (λ t. fate_at (record_of S (A ++ a ∷ []) O) (submitted_key t)) S
  answered_fates S A O fates a i n d p told fated at new count same =
      let F : Key → Fate = fate_at (record_of S A O) in
      let G : Key → Fate = fate_at (record_of S (A ++ a ∷ []) O) in
      let placed : p ≡ stands own_key a.to O =
      same ∙ ap (λ (fs : List Fate). (get_or fs i d).is_placed) fated ∙ ap (λ (f : Fate). f.is_placed)
      (row_at submitted_key F a.to S i d at) in
      let place : Some n ≡ place_of answered_key a.to (A ++ a ∷ []) =
      ap Some count ∙ sym (place_more answered_key a a.to A new ∙ ap
      (λ b. cond b (Some (length A)) (place_of answered_key a.to A)) (same_itself a.to)) in
      ap₂ (λ fs (f : Fate). set fs i f) fated (ap₂ (λ o b. record { answer = o; is_placed = b }) place placed)
      ∙ row_set submitted_key F G a.to S i told.submitted_once at
      (λ q other. ap (λ o. record { answer = o; is_placed = stands own_key q O })
      (sym (place_more answered_key a q A new ∙ ap
      (λ b. cond b (Some (length A)) (place_of answered_key q A)) other)))

  -- a place is added
  pub placed_told : (S : List (Submission Op)) (A : List (Answer Reply)) (O : List Key) (k : Key) →
      IsRecord (record_of S A O) → is_submitted k S ≡ true → stands own_key k O ≡ false → IsRecord (record_of S A (O ++ k ∷ []))
  placed_told S A O k told known new = record {
    timeline = told.timeline;
    submitted_once = told.submitted_once;
    answered_once = told.answered_once;
    placed_once = once_more own_key O k told.placed_once new;
    answered_known = told.answered_known;
    placed_known = λ q i. ⊎_elim (λ j. told.placed_known q j) (⊎_elim (λ e. ap (λ j. is_submitted j S) e ∙ known) (λ j. absurd j)) (In-cases q O (k ∷ []) i);
  }

  pub places_room : (S : List (Submission Op)) (A : List (Answer Reply)) (O : List Key) (k : Key) →
      IsRecord (record_of S A O) → is_submitted k S ≡ true → stands own_key k O ≡ false → length O < length S
  places_room S A O k told known new =
      let all = placed_told S A O k told known new in
      let more : length (O ++ k ∷ []) ≤ length S = no_more submitted_key own_key (O ++ k ∷ []) S all.placed_once all.placed_known in
      let longer : length (O ++ k ∷ []) ≡ length O + 1 = length-append O (k ∷ []) in omega arith

  pub placed_fates : (S : List (Submission Op)) (A : List (Answer Reply)) (O : List Key) (fates : List Fate) (k : Key) (i : ℕ) (d : Fate) (o : Option ℕ) →
      IsRecord (record_of S A O) → fates ≡ map (λ t. fate_at (record_of S A O) (submitted_key t)) S → place_of submitted_key k S ≡ Some i →
      o ≡ (get_or fates i d).answer →
      set fates i (record { answer = o; is_placed = true }) ≡ map (λ t. fate_at (record_of S A (O ++ k ∷ [])) (submitted_key t)) S
  placed_fates S A O fates k i d o told fated at same =
      let F : Key → Fate = fate_at (record_of S A O) in
      let G : Key → Fate = fate_at (record_of S A (O ++ k ∷ [])) in
      let answer : o ≡ place_of answered_key k A =
      same ∙ ap (λ (fs : List Fate). (get_or fs i d).answer) fated ∙ ap (λ (f : Fate). f.answer)
      (row_at submitted_key F k S i d at) in
      let placed : true ≡ stands own_key k (O ++ k ∷ []) =
      sym (stands_more own_key k O k ∙ ap (λ b. stands own_key k O || b) (same_itself k) ∙ or_true
      (stands own_key k O)) in
      ap₂ (λ fs (f : Fate). set fs i f) fated (ap₂ (λ a b. record { answer = a; is_placed = b }) answer placed)
      ∙ row_set submitted_key F G k S i told.submitted_once at
      (λ q other. ap (λ b. record { answer = place_of answered_key q A; is_placed = b })
      (sym (stands_more own_key q O k ∙ ap (λ b. stands own_key q O || b) other ∙ or_nil (stands own_key q O))))

  -- the last submission is taken back
  pub withdrawn_told : (S : List (Submission Op)) (A : List (Answer Reply)) (O : List Key) (s : Submission Op) →
      IsRecord (record_of (S ++ s ∷ []) A O) → stands answered_key (submitted_key s) A ≡ false
      → stands own_key (submitted_key s) O ≡ false → IsRecord (record_of S A O)
  withdrawn_told S A O s told unanswered unplaced = record {
    timeline = record {
      ordered = ordered_less S s told.timeline.ordered;
      within = λ t i. told.timeline.within t (In-left t S (s ∷ []) i);
    };
    submitted_once = (once_less submitted_key S s told.submitted_once).0;
    answered_once = told.answered_once;
    placed_once = told.placed_once;
    answered_known = λ a i. or_either (is_submitted a.to S) (same_key (submitted_key s) a.to)
        (sym (stands_more submitted_key a.to S s) ∙ told.answered_known a i)
        (other answered_key (submitted_key s) A a unanswered i);
    placed_known = λ k i. or_either (is_submitted k S) (same_key (submitted_key s) k)
        (sym (stands_more submitted_key k S s) ∙ told.placed_known k i)
        (other own_key (submitted_key s) O k unplaced i);
  }
