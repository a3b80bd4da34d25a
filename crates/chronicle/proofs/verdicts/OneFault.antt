-- A chronicle has one fault at most, and none where each line is right.
use Rattle.std.proofs.Common.{◌≡◌, ℕ, ◌+◌, ◌⊎◌, inl, inr, List, [], ◌∷◌, ◌++◌, length, refl, sym, ap, subst, ◌∙◌}
use Rattle.std.proofs.lemmas.Bool.{false≢true}
use Rattle.object.specs.declared.command.Key.{Key}
use Rattle.bean_words.specs.declared.op.Op.{Op}
use Rattle.bean_words.specs.declared.reply.Reply.{Reply}
use Rattle.chronicle.specs.declared.check_fault.What.{What}
use Rattle.chronicle.specs.declared.check_fault.What.TheVariants.{NotSubmitted, NotKept, SubmittedTwice, PlacedTooEarly, NotTheQueuesAnswer}
use Rattle.chronicle.specs.Checking.{IsRightPlace, IsRightLine, AreRightPlaces, IsFaultless}
use Rattle.chronicle.specs.CheckFaults.{IsWrongPlace, IsWrongLine, IsWrongOrder, IsWrongHappening, IsFaultAt}
use Rattle.recorder.specs.Chronicles.{Chronicle}
use Rattle.chronicle_text.specs.Dump.{first_line}
use Rattle.chronicle_text.specs.Happenings.{Happening, happenings}
use Rattle.chronicle_text.specs.Happenings.Happening.{Submitted, Answered}

-- ---- two cuts of one list

pub record Same {X : Type 0} (a b : List X) (x y : X) : Type 0 where
  pub front : a ≡ b
  pub item : x ≡ y

pub record Before {X : Type 0} (a b : List X) (x : X) : Type 0 where
  pub more : List X
  pub is : b ≡ a ++ (x ∷ more)

heads : {X : Type 0} (x y : X) (xs ys : List X) → x ∷ xs ≡ y ∷ ys → (x ≡ y) × (xs ≡ ys)
heads x y xs ys same = let first : x ≡ y = cc in let rest : xs ≡ ys = cc in (first, rest)

pub cuts : {X : Type 0} (a b : List X) (x y : X) (c d : List X) → a ++ (x ∷ c) ≡ b ++ (y ∷ d) → Same a b x y ⊎ Before a b x ⊎ Before b a y
cuts [] [] x y c d same = inl (record { front = refl; item = (heads x y c d same).0 })
cuts [] (z ∷ b) x y c d same = inr (inl (record { more = b; is = ap (λ u. u ∷ b) (sym (heads x z c (b ++ (y ∷ d)) same).0) }))
cuts (z ∷ a) [] x y c d same = inr (inr (record { more = a; is = ap (λ u. u ∷ a) (heads z y (a ++ (x ∷ c)) d same).0 }))
cuts (z ∷ a) (w ∷ b) x y c d same =
    let parts = heads z w (a ++ (x ∷ c)) (b ++ (y ∷ d)) same in
    let first : z ≡ w = parts.0 in
    elim (cuts a b x y c d parts.1) as (λ v. Same (z ∷ a) (w ∷ b) x y ⊎ Before (z ∷ a) (w ∷ b) x ⊎ Before (w ∷ b) (z ∷ a) y) [
      | inl s ↦ let front = s.front in inl (record { front = cc; item = s.item })
      | inr (inl s) ↦ let is = s.is in inr (inl (record { more = s.more; is = cc }))
      | inr (inr s) ↦ let is = s.is in inr (inr (record { more = s.more; is = cc }))
    ]

-- ---- a line is not both right and wrong

right_place : (c : Chronicle Op Reply) (earlier : List Key) (key : Key) (what : What) → IsRightPlace c earlier key → IsWrongPlace c earlier key what → ⊥
right_place c earlier key NotSubmitted right wrong = false≢true (sym wrong ∙ right.submitted)
right_place c earlier key NotKept right wrong = wrong.1 right.kept
right_place c earlier key SubmittedTwice right wrong = wrong
right_place c earlier key PlacedTooEarly right wrong = wrong
right_place c earlier key NotTheQueuesAnswer right wrong = wrong

right_line : (c : Chronicle Op Reply) (earlier : List (Happening Op Reply)) (h : Happening Op Reply) (what : What)
    → IsRightLine c earlier h → IsWrongLine c earlier h what → ⊥
right_line c earlier (Submitted s) NotSubmitted right wrong = wrong
right_line c earlier (Submitted s) NotKept right wrong = wrong
right_line c earlier (Submitted s) SubmittedTwice right wrong = wrong right.0
right_line c earlier (Submitted s) PlacedTooEarly right wrong = wrong.1 right.1
right_line c earlier (Submitted s) NotTheQueuesAnswer right wrong = wrong
right_line c earlier (Answered a) NotSubmitted right wrong = wrong
right_line c earlier (Answered a) NotKept right wrong = wrong
right_line c earlier (Answered a) SubmittedTwice right wrong = wrong
right_line c earlier (Answered a) PlacedTooEarly right wrong = wrong
right_line c earlier (Answered a) NotTheQueuesAnswer right wrong = wrong right.0 right.1

ordered_so : (c : Chronicle Op Reply) (n : ℕ) (what : What) → AreRightPlaces c c.order → IsWrongOrder c n what → ⊥
ordered_so c n what right w = right_place c w.earlier w.key what (right w.earlier w.key w.later w.cut) w.wrong

pub faultless : (c : Chronicle Op Reply) (n : ℕ) (what : What) → IsFaultless c → IsFaultAt c n what → ⊥
faultless c n what h (inl w) = ordered_so c n what h.order w
faultless c n what h (inr w) = right_line c w.earlier w.happening what (h.happened w.earlier w.happening w.later w.cut) w.wrong

-- ---- one fault is told

one_place : (c : Chronicle Op Reply) (earlier : List Key) (key : Key) (v w : What) → IsWrongPlace c earlier key v → IsWrongPlace c earlier key w → v ≡ w
one_place c earlier key NotSubmitted NotSubmitted h k = refl
one_place c earlier key NotSubmitted NotKept h k = absurd (false≢true (sym h ∙ k.0))
one_place c earlier key NotKept NotSubmitted h k = absurd (false≢true (sym k ∙ h.0))
one_place c earlier key NotKept NotKept h k = refl
one_place c earlier key SubmittedTwice w h k = absurd h
one_place c earlier key PlacedTooEarly w h k = absurd h
one_place c earlier key NotTheQueuesAnswer w h k = absurd h
one_place c earlier key v SubmittedTwice h k = absurd k
one_place c earlier key v PlacedTooEarly h k = absurd k
one_place c earlier key v NotTheQueuesAnswer h k = absurd k

one_line : (c : Chronicle Op Reply) (earlier : List (Happening Op Reply)) (x : Happening Op Reply) (v w : What)
    → IsWrongLine c earlier x v → IsWrongLine c earlier x w → v ≡ w
one_line c earlier (Submitted s) SubmittedTwice SubmittedTwice h k = refl
one_line c earlier (Submitted s) SubmittedTwice PlacedTooEarly h k = absurd (h k.0)
one_line c earlier (Submitted s) PlacedTooEarly SubmittedTwice h k = absurd (k h.0)
one_line c earlier (Submitted s) PlacedTooEarly PlacedTooEarly h k = refl
one_line c earlier (Answered a) NotTheQueuesAnswer NotTheQueuesAnswer h k = refl
one_line c earlier (Submitted s) NotSubmitted w h k = absurd h
one_line c earlier (Submitted s) NotKept w h k = absurd h
one_line c earlier (Submitted s) NotTheQueuesAnswer w h k = absurd h
one_line c earlier (Submitted s) v NotSubmitted h k = absurd k
one_line c earlier (Submitted s) v NotKept h k = absurd k
one_line c earlier (Submitted s) v NotTheQueuesAnswer h k = absurd k
one_line c earlier (Answered a) NotSubmitted w h k = absurd h
one_line c earlier (Answered a) NotKept w h k = absurd h
one_line c earlier (Answered a) SubmittedTwice w h k = absurd h
one_line c earlier (Answered a) PlacedTooEarly w h k = absurd h
one_line c earlier (Answered a) v NotSubmitted h k = absurd k
one_line c earlier (Answered a) v NotKept h k = absurd k
one_line c earlier (Answered a) v SubmittedTwice h k = absurd k
one_line c earlier (Answered a) v PlacedTooEarly h k = absurd k

one_order : (c : Chronicle Op Reply) (n m : ℕ) (v w : What) → IsWrongOrder c n v → IsWrongOrder c m w → (n ≡ m) × (v ≡ w)
one_order c n m v w h k =
    elim (cuts h.earlier k.earlier h.key k.key h.later k.later (sym h.cut ∙ k.cut)) as (λ r. (n ≡ m) × (v ≡ w)) [
      | inl s ↦ (
        h.line ∙ ap (λ (e : List Key). first_line c + length (happenings c.submitted c.answers) + length e) s.front ∙ sym k.line,
        one_place c k.earlier k.key v w
            (subst (λ (x : Key). IsWrongPlace c k.earlier x v) s.item
            (subst (λ (e : List Key). IsWrongPlace c e h.key v) s.front h.wrong)) k.wrong,
      )
      | inr (inl s) ↦ absurd (right_place c h.earlier h.key v (k.before h.earlier h.key s.more s.is) h.wrong)
      | inr (inr s) ↦ absurd (right_place c k.earlier k.key w (h.before k.earlier k.key s.more s.is) k.wrong)
    ]

one_happening : (c : Chronicle Op Reply) (n m : ℕ) (v w : What) → IsWrongHappening c n v → IsWrongHappening c m w → (n ≡ m) × (v ≡ w)
one_happening c n m v w h k =
    elim (cuts h.earlier k.earlier h.happening k.happening h.later k.later (sym h.cut ∙ k.cut)) as (λ r. (n ≡ m) × (v ≡ w)) [
      | inl s ↦ (
        h.line ∙ ap (λ (e : List (Happening Op Reply)). first_line c + length e) s.front ∙ sym k.line,
        one_line c k.earlier k.happening v w
            (subst (λ (x : Happening Op Reply). IsWrongLine c k.earlier x v) s.item
            (subst (λ (e : List (Happening Op Reply)). IsWrongLine c e h.happening v) s.front h.wrong)) k.wrong,
      )
      | inr (inl s) ↦ absurd (right_line c h.earlier h.happening v (k.before h.earlier h.happening s.more s.is) h.wrong)
      | inr (inr s) ↦ absurd (right_line c k.earlier k.happening w (h.before k.earlier k.happening s.more s.is) k.wrong)
    ]

pub one_fault : (c : Chronicle Op Reply) (n m : ℕ) (v w : What) → IsFaultAt c n v → IsFaultAt c m w → (n ≡ m) × (v ≡ w)
one_fault c n m v w (inl h) (inl k) = one_order c n m v w h k
one_fault c n m v w (inl h) (inr k) = absurd (ordered_so c n v k.order h)
one_fault c n m v w (inr h) (inl k) = absurd (ordered_so c m w h.order k)
one_fault c n m v w (inr h) (inr k) = one_happening c n m v w h k
