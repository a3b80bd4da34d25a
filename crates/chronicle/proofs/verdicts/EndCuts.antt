-- Cuts of a list that has one item more at its end.
use Rattle.std.proofs.Common.{◌≡◌, ◌+◌, inl, inr, List, [], ◌∷◌, ◌++◌, length, ap, subst, ◌∙◌, arith}
use Rattle.std.proofs.lemmas.List.{length-append}
use Rattle.bean_words.specs.declared.op.Op.{Op}
use Rattle.bean_words.specs.declared.reply.Reply.{Reply}
use Rattle.object.specs.declared.command.Key.{Key}
use Rattle.chronicle.specs.Checking.{IsRightPlace, IsRightLine, AreRightPlaces, AreRightLines}
use Rattle.recorder.specs.Chronicles.{Chronicle}
use Rattle.chronicle_text.specs.Happenings.{Happening}
use Rattle.chronicle.proofs.verdicts.OneFault.{cuts}

-- what holds of each cut of a list, and of the cut at its end, holds of each cut of the longer one
pub more_cuts : {X : Type 0} (P : List X → X → Type 0) (xs : List X) (x : X) → ((a : List X) (y : X) (b : List X) → xs ≡ a ++ (y ∷ b) → P a y) → P xs x →
    (a : List X) (y : X) (b : List X) → xs ++ (x ∷ []) ≡ a ++ (y ∷ b) → P a y
more_cuts P xs x earlier last a y b cut =
    elim (cuts xs a x y [] b cut) as (λ v. P a y) [
      | inl s ↦ subst (λ a. P a y) s.front (subst (P xs) s.item last)
      | inr (inl s) ↦
          let one : length (xs ++ (x ∷ [])) ≡ length xs + 1 = length-append xs (x ∷ []) in
          let two : length (a ++ (y ∷ b)) ≡ length a + length (y ∷ b) = length-append a (y ∷ b) in
          let front : length a ≡ length xs + length (x ∷ s.more) = ap length s.is ∙ length-append xs (x ∷ s.more) in
          let same = ap length cut in absurd (omega arith)
      | inr (inr s) ↦ earlier a y s.more s.is
    ]

no_cut : {X : Type 0} (a : List X) (y : X) (b : List X) → [] ≡ a ++ (y ∷ b) → ⊥
no_cut [] y b e = absurd (cc)
no_cut (x ∷ a) y b e = absurd (cc)

pub no_places : (c : Chronicle Op Reply) → AreRightPlaces c []
no_places c earlier key later cut = absurd (no_cut earlier key later cut)

pub no_lines : (c : Chronicle Op Reply) → AreRightLines c []
no_lines c earlier h later cut = absurd (no_cut earlier h later cut)

pub more_places : (c : Chronicle Op Reply) (done : List Key) (key : Key) → AreRightPlaces c done
    → IsRightPlace c done key → AreRightPlaces c (done ++ (key ∷ []))
more_places c done key right last = more_cuts (IsRightPlace c) done key right last

pub more_lines : (c : Chronicle Op Reply) (done : List (Happening Op Reply)) (h : Happening Op Reply)
    → AreRightLines c done → IsRightLine c done h → AreRightLines c (done ++ (h ∷ []))
more_lines c done h right last = more_cuts (IsRightLine c) done h right last
