-- Submissions that come in order, none before so many answers and none after so many.
use Rattle.std.proofs.Common.{◌≡◌, ℕ, suc, ◌+◌, ◌<◌, ◌≤◌, List, [], ◌∷◌, length, get_or, drop, drop-cons, add-one, inl, inr, refl, sym, ap, subst, ◌∙◌, arith}
use Rattle.object.specs.Lists.{In}
use Rattle.object.specs.declared.command.Submission.{Submission}
use Rattle.object.specs.Happenings.{ComeInOrder, Happenings, IsTimeline}

-- none comes after more answers than these
abbrev pub ComeWithin : {Op : Type 0} → ℕ → List (Submission Op) → Type 0
ComeWithin {Op} given submitted = (s : Submission Op) → In s submitted → s.after ≤ given

pub record ComeBetween {Op : Type 0} (low high : ℕ) (submitted : List (Submission Op)) : Type 0 where
  pub above : (s : Submission Op) → In s submitted → low ≤ s.after
  pub within : ComeWithin high submitted
  pub ordered : ComeInOrder submitted

pub between_timeline : {Op Reply : Type 0} (h : Happenings Op Reply) → IsTimeline h → ComeBetween 0 (length h.answers) h.submitted
between_timeline h t = record { above = λ s i. omega arith; within = t.within; ordered = t.ordered }

pub timeline_between : {Op Reply : Type 0} (h : Happenings Op Reply) → ComeBetween 0 (length h.answers) h.submitted → IsTimeline h
timeline_between h b = record { ordered = b.ordered; within = b.within }

pub between_none : {Op : Type 0} (low high : ℕ) → ComeBetween {Op = Op} low high []
between_none low high = record { above = λ s i. absurd i; within = λ s i. absurd i; ordered = tt }

pub between_rest : {Op : Type 0} (low high : ℕ) (s : Submission Op) (rest : List (Submission Op))
    → ComeBetween low high (s ∷ rest) → ComeBetween s.after high rest
between_rest low high s rest b = record { above = b.ordered.0; within = λ t i. b.within t (inr i); ordered = b.ordered.1 }

above_first : {Op : Type 0} (low : ℕ) (s : Submission Op) (rest : List (Submission Op)) → low ≤ s.after
    → ((t : Submission Op) → In t rest → s.after ≤ t.after) → (t : Submission Op) → In t (s ∷ rest) → low ≤ t.after
above_first low s rest first later t (inl same) = subst (λ (u : Submission _). low ≤ u.after) (sym same) first
above_first low s rest first later t (inr more) = let h = later t more in omega arith

within_first : {Op : Type 0} (high : ℕ) (s : Submission Op) (rest : List (Submission Op)) → s.after ≤ high → ComeWithin high rest → ComeWithin high (s ∷ rest)
within_first high s rest first later t (inl same) = subst (λ (u : Submission _). u.after ≤ high) (sym same) first
within_first high s rest first later t (inr more) = later t more

pub between_first : {Op : Type 0} (low high : ℕ) (s : Submission Op) (rest : List (Submission Op)) → low ≤ s.after
    → s.after ≤ high → ComeBetween s.after high rest → ComeBetween low high (s ∷ rest)
between_first low high s rest least most b = record {
  above = above_first low s rest least b.above;
  within = within_first high s rest most b.within;
  ordered = (b.above, b.ordered);
}

-- the item at a place, and what follows it
pub drop_item : {A : Type 0} (xs : List A) (i : ℕ) (x : A) → i < length xs → x ≡ get_or xs i x → drop i xs ≡ x ∷ drop (i + 1) xs
drop_item xs i x inside same = drop-cons xs i x inside ∙ ap (λ y. y ∷ drop (suc i) xs) (sym same) ∙ ap (λ n. x ∷ drop n xs) (sym (add-one i))

-- no other comes before the first
pub after_first : {Op : Type 0} (low high : ℕ) (s : Submission Op) (rest : List (Submission Op))
    → ComeBetween low high (s ∷ rest) → (t : Submission Op) → In t (s ∷ rest) → s.after ≤ t.after
after_first low high s rest b t (inl same) = subst (λ (u : Submission _). s.after ≤ u.after) (sym same) (omega arith)
after_first low high s rest b t (inr more) = b.ordered.0 t more

-- the rest from a place on, by its first submission
pub from_item : {Op : Type 0} (low high : ℕ) (submitted : List (Submission Op)) (i : ℕ) (s : Submission Op)
    → i < length submitted → s ≡ get_or submitted i s → ComeBetween low high (drop i submitted)
    → ComeBetween low high (s ∷ drop (i + 1) submitted)
from_item low high submitted i s inside same b = subst (ComeBetween low high) (drop_item submitted i s inside same) b

-- the same, the other way
pub to_item : {Op : Type 0} (low high : ℕ) (submitted : List (Submission Op)) (i : ℕ) (s : Submission Op)
    → i < length submitted → s ≡ get_or submitted i s → ComeBetween low high (s ∷ drop (i + 1) submitted)
    → ComeBetween low high (drop i submitted)
to_item low high submitted i s inside same b = subst (ComeBetween low high) (sym (drop_item submitted i s inside same)) b

pub least : {Op : Type 0} (low high : ℕ) (s : Submission Op) (rest : List (Submission Op)) → ComeBetween low high (s ∷ rest) → low ≤ s.after
least low high s rest b = b.above s (inl refl)

pub most : {Op : Type 0} (low high : ℕ) (s : Submission Op) (rest : List (Submission Op)) → ComeBetween low high (s ∷ rest) → s.after ≤ high
most low high s rest b = b.within s (inl refl)
