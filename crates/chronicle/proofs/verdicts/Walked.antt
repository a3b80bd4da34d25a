-- What happened, line by line.
use Rattle.std.proofs.Common.{◌≡◌, ◌≢◌, ℕ, zero, suc, ◌+◌, ◌-◌, ◌<◌, ◌≤◌, max, leb, true, false, inl, inr, ◌⊎◌, List}
use Rattle.std.proofs.Common.{[], ◌∷◌, ◌++◌, map, length, take, drop, get_or, Some, refl, sym, ap, ap₂, subst, ◌∙◌}
use Rattle.std.proofs.Common.{arith, append_assoc, length-drop}
use Rattle.std.proofs.Math.Seq.{take-append_seam}
use Rattle.std.proofs.lemmas.Bool.Decides.{nat_tests}
use Rattle.std.proofs.lemmas.List.{length-append, take_more, take_all}
use Rattle.std.specs.BTreeMap.{get}
use Rattle.std.specs.Option.{option_map}
use Rattle.std.specs.Prelude.{slice_get}
use Rattle.object.specs.Answers.{AnswersOnce}
use Rattle.object.specs.Happenings.{submitted_key, ComeInOrder}
use Rattle.object.specs.KeyLaws.{same_when}
use Rattle.object.specs.Keys.{key_cmp, same_key, place_of}
use Rattle.object.specs.ListLaws.{In-cases, In-left, In-right}
use Rattle.object.specs.Lists.{In}
use Rattle.object.specs.Replays.{Placed}
use Rattle.object.specs.declared.command.Answer.{Answer}
use Rattle.object.specs.declared.command.Command.{Command}
use Rattle.object.specs.declared.command.Key.{Key}
use Rattle.object.specs.declared.command.Submission.{Submission}
use Rattle.bean_queue.specs.Places.{queue_replay, HasDistinctKeys}
use Rattle.bean_words.specs.declared.op.Op.{Op}
use Rattle.bean_words.specs.declared.reply.Reply.{Reply}
use Rattle.chronicle.specs.CheckFaults.{IsWrongLine, IsWrongHappening}
use Rattle.chronicle.specs.Checking.{IsGivenBy, IsFirstOfKey, IsPlacedLater, IsRightLine, AreRightPlaces, AreRightLines, ordered_commands}
use Rattle.recorder.specs.Chronicles.{Chronicle, IsChronicle}
use Rattle.chronicle_text.specs.Dump.{first_line}
use Rattle.chronicle_text.specs.Happenings.{Happening, happenings, happenings_from}
use Rattle.chronicle_text.specs.Happenings.Happening.{Submitted, Answered}
use Rattle.chronicle.proofs.verdicts.Legal.{rising, distinct, split}
use Rattle.chronicle.specs.Replaying.{placed}
use Rattle.chronicle.specs.Walks.{IsReplayed, HasPassed, HasReach, HasSeen, HasWalked, IsMisplaced, IsNotGiven, NoneIsDue, seen}
use Rattle.chronicle.specs.declared.check_fault.What.{What}
use Rattle.chronicle.specs.declared.check_fault.What.TheVariants.{NotSubmitted, NotKept, SubmittedTwice, PlacedTooEarly, NotTheQueuesAnswer}
use Rattle.chronicle.specs.declared.walk.Replayed.{Replayed}
use Rattle.chronicle.specs.declared.walk.Walk.{Walk}
use Rattle.chronicle.proofs.verdicts.Answered.{one_place_each, answers}
use Rattle.recorder.proofs.Between.{drop_item}
use Rattle.chronicle.proofs.verdicts.EndCuts.{no_lines, more_lines}
use Rattle.chronicle.proofs.verdicts.FirstPlaces.{first_at}
use Rattle.chronicle.proofs.verdicts.HappeningCounts.{happenings_count}
use Rattle.chronicle_text.proofs.texts.InTime.{comes, answers_first}

-- ---- lists

-- what was looked through is a beginning
front_is : {X : Type 0} (n : ℕ) (all front back : List X) → all ≡ front ++ back → length front ≡ n → take n all ≡ front
front_is n all front back cut count = ap₂ take (sym count) cut ∙ take-append_seam front back

in_take : {X : Type 0} (xs : List X) (i n : ℕ) (x : X) → slice_get xs i ≡ Some x → i < n → In x (take n xs)
in_take [] i n x at less = absurd (cc)
in_take (y ∷ xs) zero zero x at less = absurd (omega arith)
in_take (y ∷ xs) zero (suc n) x at less = inl (cc)
in_take (y ∷ xs) (suc i) zero x at less = absurd (omega arith)
in_take (y ∷ xs) (suc i) (suc n) x at less = inr (in_take xs i n x at (omega arith))

-- the key of an item has a place, and none later
record HasPlace {X : Type 0} (key_of : X → Key) (k : Key) (xs : List X) (i : ℕ) : Type 0 where
  place : ℕ
  is : place_of key_of k xs ≡ Some place
  least : place ≤ i

has_place : {X : Type 0} (key_of : X → Key) (k : Key) (xs : List X) (i : ℕ) (x : X) → slice_get xs i ≡ Some x → key_of x ≡ k → HasPlace key_of k xs i
has_place key_of k [] i x at has = absurd (cc)
has_place key_of k (y ∷ xs) zero x at has =
    let same : y ≡ x = cc in
    record { place = 0; is = rw (same_when (key_of y) k (ap key_of same ∙ has)) refl; least = omega arith }
has_place key_of k (y ∷ xs) (suc i) x at has =
    elim (same_key (key_of y) k) as (λ b. same_key (key_of y) k ≡ b → HasPlace key_of k (y ∷ xs) (suc i)) [
      | true ↦ λ same. record { place = 0; is = rw same refl; least = omega arith }
      | false ↦ λ other.
          let r = has_place key_of k xs i x at has in
          let few = r.least in
          record { place = suc r.place; is = rw other (ap (option_map suc) r.is); least = omega arith }
    ] refl

-- the item at an index
at_within : {X : Type 0} (xs : List X) (i : ℕ) (x : X) → slice_get xs i ≡ Some x → i < length xs
at_within [] i x at = absurd (cc)
at_within (y ∷ xs) zero x at = omega arith
at_within (y ∷ xs) (suc i) x at = let less = at_within xs i x at in omega arith

at_read : {X : Type 0} (xs : List X) (i : ℕ) (x : X) → slice_get xs i ≡ Some x → x ≡ get_or xs i x
at_read [] i x at = refl
at_read (y ∷ xs) zero x at = cc
at_read (y ∷ xs) (suc i) x at = at_read xs i x at

drop_at : {X : Type 0} (xs : List X) (i : ℕ) (x : X) → slice_get xs i ≡ Some x → drop i xs ≡ x ∷ drop (i + 1) xs
drop_at xs i x at = drop_item xs i x (at_within xs i x at) (at_read xs i x at)

take_at : {X : Type 0} (xs : List X) (i : ℕ) (x : X) → slice_get xs i ≡ Some x → take (i + 1) xs ≡ take i xs ++ (x ∷ [])
take_at xs i x at = take_more xs i x (at_within xs i x at) ∙ ap (λ y. take i xs ++ (y ∷ [])) (sym (at_read xs i x at))

In-drop : {X : Type 0} (x : X) (i : ℕ) (xs : List X) → In x (drop i xs) → In x xs
In-drop x zero xs j = j
In-drop x (suc i) [] j = j
In-drop x (suc i) (y ∷ xs) j = inr (In-drop x i xs j)

-- the first of what is left came first
pub first_left : (submitted : List (Submission Op)) (i : ℕ) (s : Submission Op) → ComeInOrder submitted
    → slice_get submitted i ≡ Some s → (t : Submission Op) → In t (drop i submitted) → s.after ≤ t.after
first_left [] i s order at t j = absurd (cc)
first_left (u ∷ submitted) zero s order at t (inl same) = let e : u ≡ s =
    cc in subst (λ (v : Submission Op). s.after ≤ v.after) (sym same)
    (subst (λ (v : Submission Op). s.after ≤ v.after) (sym e) (omega arith))
first_left (u ∷ submitted) zero s order at t (inr more) = let e : u ≡ s = cc in subst (λ (v : Submission Op). v.after ≤ t.after) e (order.0 t more)
first_left (u ∷ submitted) (suc i) s order at t j = first_left submitted i s order.1 at t j

-- ---- one line more

step_cut : {X : Type 0} (all front : List X) (x : X) (back : List X) → all ≡ front ++ (x ∷ back) → all ≡ (front ++ (x ∷ [])) ++ back
step_cut all front x back cut = cut ∙ sym (append_assoc front (x ∷ []) back)

later_drop : (submitted : List (Submission Op)) (i : ℕ) (s : Submission Op) (rest : List (Submission Op))
    → drop i submitted ≡ s ∷ rest → (t : Submission Op) → In t rest → In t (drop i submitted)
later_drop submitted i s rest is t more = subst (In t) (sym is) (inr more)

no_answer : (a : Answer Reply) (d : Command Op) → Answered a ≡ Submitted d → ⊥
no_answer a d same = cc

module _ (c : Chronicle Op Reply) where
  -- a submission is next
  submission_cut : (n m : ℕ) (earlier : List (Happening Op Reply)) → HasPassed c n m earlier → (s : Submission Op)
      → drop n c.submitted ≡ s ∷ drop (n + 1) c.submitted → s.after ≤ m →
      happenings c.submitted c.answers ≡ earlier ++ (Submitted s.command ∷ happenings_from m (drop (n + 1) c.submitted) (drop m c.answers))
  submission_cut n m earlier h s is due =
      let least = h.later s (subst (In s) (sym is) (inl refl)) in
      let now : s.after ≡ m = omega arith in
      h.cut ∙ ap (λ t. earlier ++ t)
      (ap (λ xs. happenings_from m xs (drop m c.answers)) is ∙ subst
      (λ k. happenings_from k (s ∷ drop (n + 1) c.submitted) (drop m c.answers)
      ≡ Submitted s.command ∷ happenings_from k (drop (n + 1) c.submitted) (drop m c.answers)) now
      (comes s (drop (n + 1) c.submitted) (drop m c.answers)))

  -- an answer is next
  answer_cut : (n m : ℕ) (earlier : List (Happening Op Reply)) → HasPassed c n m earlier → (a : Answer Reply)
      → drop m c.answers ≡ a ∷ drop (m + 1) c.answers
      → ((s : Submission Op) → In s (drop n c.submitted) → m < s.after) →
      happenings c.submitted c.answers ≡ earlier ++ (Answered a ∷ happenings_from (m + 1) (drop n c.submitted) (drop (m + 1) c.answers))
  answer_cut n m earlier h a is later =
      h.cut ∙ ap (λ t. earlier ++ t)
      (ap (λ xs. happenings_from m (drop n c.submitted) xs) is ∙ answers_first 1 m (drop n c.submitted)
      (a ∷ drop (m + 1) c.answers) (λ s i. let l = later s i in omega arith) (omega arith))

  passed_submission : (n m : ℕ) (earlier : List (Happening Op Reply)) → HasPassed c n m earlier → (s : Submission Op)
      → drop n c.submitted ≡ s ∷ drop (n + 1) c.submitted → take (n + 1) c.submitted ≡ take n c.submitted ++ (s ∷ [])
      → n < length c.submitted → s.after ≤ m → HasPassed c (n + 1) m (earlier ++ (Submitted s.command ∷ []))
  passed_submission n m earlier h s is more inside due = record {
    cut = step_cut (happenings c.submitted c.answers) earlier (Submitted s.command) _ (submission_cut n m earlier h s is due);
    count = length-append earlier (Submitted s.command ∷ []) ∙ (let k = h.count in omega arith);
    some = omega arith;
    few = h.few;
    later = λ t i. h.later t (later_drop c.submitted n s (drop (n + 1) c.submitted) is t i);
    said = λ d i. elim (In-cases (Submitted d) earlier (Submitted s.command ∷ []) i) as (λ v. (t : Submission Op)
        × In t (take (n + 1) c.submitted) × (t.command ≡ d)) [
          | inl j ↦ let r = h.said d j in (r.0, subst (In r.0) (sym more) (In-left r.0 (take n c.submitted) (s ∷ []) r.1), r.2)
          | inr (inl same) ↦ (s, subst (In s) (sym more) (In-right s (take n c.submitted) (s ∷ []) (inl refl)), cc)
          | inr (inr none) ↦ absurd none
        ];
    heard = λ t i. elim (In-cases t (take n c.submitted) (s ∷ []) (subst (In t) more i)) as (λ v. In
        (Submitted t.command) (earlier ++ (Submitted s.command ∷ []))) [
          | inl j ↦ In-left (Submitted t.command) earlier (Submitted s.command ∷ []) (h.heard t j)
          | inr (inl same) ↦ In-right (Submitted t.command) earlier (Submitted s.command ∷ []) (inl (ap (λ (u : Submission Op). Submitted u.command) same))
          | inr (inr none) ↦ absurd none
        ];
  }

  passed_answer : (n m : ℕ) (earlier : List (Happening Op Reply)) → HasPassed c n m earlier → (a : Answer Reply)
      → drop m c.answers ≡ a ∷ drop (m + 1) c.answers → m < length c.answers
      → ((s : Submission Op) → In s (drop n c.submitted) → m < s.after)
      → HasPassed c n (m + 1) (earlier ++ (Answered a ∷ []))
  passed_answer n m earlier h a is inside later = record {
    cut = step_cut (happenings c.submitted c.answers) earlier (Answered a) _ (answer_cut n m earlier h a is later);
    count = length-append earlier (Answered a ∷ []) ∙ (let k = h.count in omega arith);
    some = h.some;
    few = omega arith;
    later = λ s i. let l = later s i in omega arith;
    said = λ d i. elim (In-cases (Submitted d) earlier (Answered a ∷ []) i) as (λ v. (t : Submission Op) × In t (take n c.submitted) × (t.command ≡ d)) [
      | inl j ↦ h.said d j
      | inr (inl same) ↦ absurd (no_answer a d (sym same))
      | inr (inr none) ↦ absurd none
    ];
    heard = λ t i. In-left (Submitted t.command) earlier (Answered a ∷ []) (h.heard t i);
  }

  -- ---- the reach

  reach_submission : (reach : ℕ) (earlier : List (Happening Op Reply)) (d : Command Op) → HasReach c reach earlier
      → HasReach c reach (earlier ++ (Submitted d ∷ []))
  reach_submission reach earlier d h = record {
    below = λ a i. elim (In-cases (Answered a) earlier (Submitted d ∷ []) i) as (λ v. (place : ℕ) → IsGivenBy c place a → place < reach) [
      | inl j ↦ h.below a j
      | inr (inl same) ↦ absurd (no_answer a d same)
      | inr (inr none) ↦ absurd none
    ];
    met = elim h.met as (λ v. (reach ≡ 0)
        ⊎ ((a : Answer Reply) × In (Answered a) (earlier ++ (Submitted d ∷ []))
        × ((place : ℕ) × IsGivenBy c place a × (reach ≡ suc place)))) [
          | inl none ↦ inl none
          | inr r ↦ inr (r.0, In-left (Answered r.0) earlier (Submitted d ∷ []) r.1, r.2)
        ];
  }

  reach_answer : (reach : ℕ) (earlier : List (Happening Op Reply)) (b : Answer Reply) (m : ℕ)
      → ((place : ℕ) → IsGivenBy c place b → place ≡ m) → IsGivenBy c m b → HasReach c reach earlier
      → HasReach c (max reach (m + 1)) (earlier ++ (Answered b ∷ []))
  reach_answer reach earlier b m one given h = record {
    below = λ a i. elim (In-cases (Answered a) earlier (Answered b ∷ []) i) as (λ v. (place : ℕ) → IsGivenBy c place a → place < max reach (m + 1)) [
      | inl j ↦ λ place g. let l = h.below a j place g in omega arith
      | inr (inl same) ↦ λ place g.
          let is : a ≡ b = cc in
          let here = one place (subst (IsGivenBy c place) is g) in omega arith
      | inr (inr none) ↦ absurd none
    ];
    met = elim (leb (m + 1) reach) as (λ t. leb (m + 1) reach ≡ t → (max reach (m + 1) ≡ 0)
        ⊎ ((a : Answer Reply) × In (Answered a) (earlier ++ (Answered b ∷ []))
        × ((place : ℕ) × IsGivenBy c place a × (max reach (m + 1) ≡ suc place)))) [
          | true ↦ λ low.
              let under : m + 1 ≤ reach = grind (arith, nat_tests) in
              let same : reach ≡ max reach (m + 1) = omega arith in
              elim h.met as (λ v. (max reach (m + 1) ≡ 0)
              ⊎ ((a : Answer Reply) × In (Answered a) (earlier ++ (Answered b ∷ []))
              × ((place : ℕ) × IsGivenBy c place a × (max reach (m + 1) ≡ suc place)))) [
                | inl none ↦ inl (sym same ∙ none)
                | inr r ↦ inr (r.0, In-left (Answered r.0) earlier (Answered b ∷ []) r.1, (r.2.0, r.2.1, sym same ∙ r.2.2))
              ]
          | false ↦ λ high.
              let over : reach < m + 1 = grind (arith, nat_tests) in
              inr (b, In-right (Answered b) earlier (Answered b ∷ []) (inl refl), (m, given, omega arith))
        ] refl;
  }

  -- ---- a submission that is looked up

  module _ (r : Replayed) (told : IsReplayed c r) (n m reach : ℕ) (earlier : List (Happening Op Reply))
      (passed : HasPassed c n m earlier) (reached : HasReach c reach earlier) (s : Submission Op)
      (at : slice_get c.submitted n ≡ Some s) where
    is_first : get key_cmp r.firsts s.command.key ≡ Some n → IsFirstOfKey s.command earlier
    is_first is d i same =
        let first = first_at submitted_key s.command.key c.submitted n (sym (told.firsts s.command.key) ∙ is) in
        let t = passed.said d i in
        first.before t.0 t.1 (ap (λ (e : Command Op). e.key) t.2 ∙ same)

    not_first : get key_cmp r.firsts s.command.key ≢ Some n → IsFirstOfKey s.command earlier → ⊥
    not_first other first =
        let p = has_place submitted_key s.command.key c.submitted n s at refl in
        let here = first_at submitted_key s.command.key c.submitted p.place p.is in
        let differs : p.place ≢ n = λ same. other (told.firsts s.command.key ∙ p.is ∙ ap Some same) in
        let least = p.least in
        let less : p.place < n = omega arith in
        first here.item.command (passed.heard here.item (in_take c.submitted p.place n here.item here.at less)) here.has

    is_later : ((p : ℕ) → get key_cmp r.places s.command.key ≡ Some p → reach ≤ p) → IsPlacedLater c s.command earlier
    is_later later a i p q given stands =
        let place = has_place (λ (k : Key). k) s.command.key c.order q s.command.key stands refl in
        let over = later place.place (told.places s.command.key ∙ place.is) in
        let under = reached.below a i p given in
        let least = place.least in omega arith

    not_later : (p : ℕ) → get key_cmp r.places s.command.key ≡ Some p → p < reach → IsPlacedLater c s.command earlier → ⊥
    not_later p is low later =
        let here = first_at (λ (k : Key). k) s.command.key c.order p (sym (told.places s.command.key) ∙ is) in
        let stands : slice_get c.order p ≡ Some s.command.key = here.at ∙ ap Some here.has in
        elim reached.met as (λ v. ⊥) [
          | inl none ↦ absurd (omega arith)
          | inr g ↦ let over = later g.0 g.1 g.2.0 p g.2.1 stands in let top = g.2.2 in absurd (omega arith)
        ]

    pub right_submission : get key_cmp r.firsts s.command.key ≡ Some n
        → ((p : ℕ) → get key_cmp r.places s.command.key ≡ Some p → reach ≤ p)
        → IsRightLine c earlier (Submitted s.command)
    right_submission first later = (is_first first, is_later later)

    pub wrong_submission : (what : What) → IsMisplaced r n s.command.key reach what → IsWrongLine c earlier (Submitted s.command) what
    wrong_submission NotSubmitted h = absurd h
    wrong_submission NotKept h = absurd h
    wrong_submission SubmittedTwice h = not_first h
    wrong_submission PlacedTooEarly h = (is_first h.0, not_later h.1.0 h.1.1 h.1.2)
    wrong_submission NotTheQueuesAnswer h = absurd h

  -- ---- an answer that is looked up

  module _ (r : Replayed) (told : IsReplayed c r)
      (once : AnswersOnce (map (λ (p : Placed Reply). p.answer) (queue_replay (ordered_commands c))))
      (a : Answer Reply) where
    pub given_at : (place : ℕ) → In (record { place = place; answer = a }) (map placed r.given.items) → IsGivenBy c place a
    given_at place i = subst (In (record { place = place; answer = a })) told.given i

    pub one_place : (place : ℕ) → IsGivenBy c place a → (other : ℕ) → IsGivenBy c other a → other ≡ place
    one_place place g other h = ap (λ (p : Placed Reply). p.place)
        (one_place_each (queue_replay (ordered_commands c)) once (record { place = other; answer = a })
        (record { place = place; answer = a }) h g refl)

    pub not_given : (what : What) → IsNotGiven r a what → IsWrongLine c [] (Answered a) NotTheQueuesAnswer
    not_given what h place g =
        let first = answers r.given.items (record { place = place; answer = a }) (subst (In (record { place = place; answer = a })) (sym told.given) g) in
        let same = one_place_each (queue_replay (ordered_commands c)) once (placed first.first)
        (record { place = place; answer = a })
        (subst (In (placed first.first)) told.given first.among) g first.to in
        h.1 first.first first.found_it (ap (λ (p : Placed Reply). p.answer) same)

  -- ---- a line more is looked through

  module _ (w : Walk) (walked : HasWalked c w) where
    -- a wrong line is the fault
    fault : (h : Happening Op Reply) (later : List (Happening Op Reply)) (what : What) → AreRightPlaces c c.order
        → happenings c.submitted c.answers ≡ seen c w ++ (h ∷ later) → IsWrongLine c (seen c w) h what
        → IsWrongHappening c (first_line c + (w.submitted + w.answered)) what
    fault h later what order cut wrong = record {
      earlier = seen c w;
      happening = h;
      later = later;
      cut = cut;
      line = ap (λ n. first_line c + n) (sym walked.passed.count);
      order = order;
      before = walked.right;
      wrong = wrong;
    }

    -- and a right one is passed
    next_seen : (next : Walk) (h : Happening Op Reply) → HasPassed c next.submitted next.answered (seen c w ++ (h ∷ []))
        → HasReach c next.reach (seen c w ++ (h ∷ [])) → IsRightLine c (seen c w) h → HasWalked c next
    next_seen next h passed reach right =
        let is : seen c next ≡ seen c w ++ (h ∷ []) =
        front_is (next.submitted + next.answered) (happenings c.submitted c.answers) (seen c w ++ (h ∷ []))
        (happenings_from next.answered (drop next.submitted c.submitted) (drop next.answered c.answers)) passed.cut
        passed.count in
        subst (HasSeen c next) (sym is) (record { passed = passed; reach = reach; right = more_lines c (seen c w) h walked.right right })

    module _ (r : Replayed) (told : IsReplayed c r) (s : Submission Op) (at : slice_get c.submitted w.submitted ≡ Some s) (due : s.after ≤ w.answered) where
      pub submission_passed : get key_cmp r.firsts s.command.key ≡ Some w.submitted
          → ((p : ℕ) → get key_cmp r.places s.command.key ≡ Some p → w.reach ≤ p)
          → HasWalked c (record w { submitted = w.submitted + 1 })
      submission_passed first later =
          next_seen (record w { submitted = w.submitted + 1 }) (Submitted s.command)
          (passed_submission w.submitted w.answered (seen c w) walked.passed s (drop_at c.submitted w.submitted s at)
          (take_at c.submitted w.submitted s at) (at_within c.submitted w.submitted s at) due)
          (reach_submission w.reach (seen c w) s.command walked.reach)
          (right_submission r told w.submitted w.answered w.reach (seen c w) walked.passed walked.reach s at first later)

      pub submission_fault : (what : What) → AreRightPlaces c c.order
          → IsMisplaced r w.submitted s.command.key w.reach what
          → IsWrongHappening c (first_line c + (w.submitted + w.answered)) what
      submission_fault what order wrong =
          fault (Submitted s.command) _ what order (submission_cut w.submitted w.answered (seen c w) walked.passed s (drop_at c.submitted w.submitted s at) due)
          (wrong_submission r told w.submitted w.answered w.reach (seen c w) walked.passed walked.reach s at what wrong)

    module _ (r : Replayed) (told : IsReplayed c r)
        (once : AnswersOnce (map (λ (p : Placed Reply). p.answer) (queue_replay (ordered_commands c))))
        (a : Answer Reply) (inside : w.answered < length c.answers) (at : a ≡ get_or c.answers w.answered a)
        (later : NoneIsDue c w) where
      pub answer_passed : (place : ℕ) → In (record { place = place; answer = a }) (map placed r.given.items)
          → HasWalked c (record w { answered = w.answered + 1; reach = max w.reach (place + 1) })
      answer_passed place i =
          let given = given_at r told once a place i in
          next_seen (record w { answered = w.answered + 1; reach = max w.reach (place + 1) }) (Answered a)
          (passed_answer w.submitted w.answered (seen c w) walked.passed a (drop_item c.answers w.answered a inside at) inside later)
          (reach_answer w.reach (seen c w) a place (one_place r told once a place given) given walked.reach)
          (place, given)

      pub answer_fault : (what : What) → AreRightPlaces c c.order → IsNotGiven r a what → IsWrongHappening c (first_line c + (w.submitted + w.answered)) what
      answer_fault what order wrong =
          subst (IsWrongHappening c (first_line c + (w.submitted + w.answered))) (sym wrong.0)
          (fault (Answered a) _ NotTheQueuesAnswer order
          (answer_cut w.submitted w.answered (seen c w) walked.passed a
          (drop_item c.answers w.answered a inside at) later) (not_given r told once a what wrong))

-- an answer is left where no submission is due
pub answer_left : (c : Chronicle Op Reply) (w : Walk) → HasWalked c w → IsChronicle c → NoneIsDue c w
    → w.submitted + w.answered < length c.submitted + length c.answers → w.answered < length c.answers
answer_left c w walked is none more = left (drop w.submitted c.submitted) refl
  where
    left : (rest : List (Submission Op)) → drop w.submitted c.submitted ≡ rest → w.answered < length c.answers
    left [] empty =
        let long : length c.submitted - w.submitted ≡ 0 = sym (length-drop w.submitted c.submitted) ∙ ap length empty in omega arith
    left (s ∷ rest) here =
        let after = none s (subst (In s) (sym here) (inl refl)) in
        let within = is.timeline.within s (In-drop s w.submitted c.submitted (subst (In s) (sym here) (inl refl))) in omega arith

-- nothing is looked through yet
pub walk_starts : (c : Chronicle Op Reply) → HasWalked c (record { submitted = 0; answered = 0; reach = 0 })
walk_starts c = record {
  passed = record {
    cut = refl;
    count = refl;
    some = omega arith;
    few = omega arith;
    later = λ s i. omega arith;
    said = λ d i. absurd i;
    heard = λ s i. absurd i;
  };
  reach = record { below = λ a i. absurd i; met = inl refl };
  right = no_lines c;
}

-- all is looked through
pub walk_ends : (c : Chronicle Op Reply) (w : Walk) → IsChronicle c → HasWalked c w
    → length c.submitted + length c.answers ≡ w.submitted + w.answered
    → AreRightLines c (happenings c.submitted c.answers)
walk_ends c w is walked all =
    let long = happenings_count c.submitted c.answers is.timeline in
    subst (AreRightLines c) (take_all (w.submitted + w.answered) (happenings c.submitted c.answers) (omega arith)) walked.right

-- the keys of a right order are distinct
pub order_distinct : (c : Chronicle Op Reply) → AreRightPlaces c c.order → HasDistinctKeys (ordered_commands c)
order_distinct c right =
    distinct (ordered_commands c) (rising c c.order
    (λ key i. let cut = split key c.order i in let here = right cut.before key cut.after cut.is in here.submitted)
    (λ before key after cut. let here = right before key after cut in here.kept))
