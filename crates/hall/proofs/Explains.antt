-- What happened, told once, is legal for the order so far, and no answer that the order brings is missing.
use Rattle.std.proofs.Common.{◌≡◌, inl, inr, ℕ, List, [], ◌∷◌, map, take, length, refl, sym, ap, ◌∙◌, subst}
use Rattle.std.proofs.Math.Seq.{take-append_seam}
use Rattle.std.proofs.lemmas.List.{take-append-drop}
use Rattle.std.specs.Prelude.{drop}
use Rattle.object.specs.declared.command.Answer.{Answer}
use Rattle.object.specs.declared.command.Command.{Command}
use Rattle.object.specs.declared.command.Submission.{Submission}
use Rattle.object.specs.Answers.{answered_key}
use Rattle.object.specs.Happenings.{Happenings}
use Rattle.object.specs.Legal.{IsLegal, IsGivenAt, WasSubmitted, StandsAt, given_before}
use Rattle.object.specs.Lists.{In}
use Rattle.object.specs.ListLaws.{In-map}
use Rattle.object.specs.Objects.{Rules}
use Rattle.object.specs.Replays.{Placed, kept, replay}
use Rattle.recorder.specs.Firsts.{firsts}
use Rattle.agreement.specs.Worlds.{World}
use Rattle.agreement.specs.Runs.{IsWorld}
use Rattle.hall.specs.Recorded.{RecordedState}
use Rattle.hall.specs.Shows.{Shows, told_once}
use Rattle.hall.specs.Explained.{IsExplained}
use Rattle.hall.specs.HallLaws.{HallLaws}
use Rattle.hall.proofs.Told.{once_one, first_of, told_at, firsts_begin, firsts_in}

-- of a mapped list's elements
pub mapped_from : {A B : Type 0} (f : A → B) (y : B) (xs : List A) → In y (map f xs) → (x : A) × In x xs × (y ≡ f x)
mapped_from f y [] i = absurd i
mapped_from f y (x ∷ xs) (inl e) = (x, inl refl, e)
mapped_from f y (x ∷ xs) (inr i) = let r = mapped_from f y xs i in (r.0, inr r.1, r.2)

module _ {O Op Reply : Type 0} (rules : Rules O Op Reply) (h : Happenings Op Reply) (order : List (Command Op)) (legal : IsLegal rules h order) where
  submitted_once : (c : Command Op) → WasSubmitted c h.submitted → WasSubmitted c (told_once h).submitted
  submitted_once c was = (told_at h.answers was.0, In-map (told_at h.answers) was.0 h.submitted was.1, was.2)

  -- the first answers so far are those of the answers so far
  before_at : (n : ℕ) → take (length (firsts answered_key (take n h.answers))) (firsts answered_key h.answers) ≡ firsts answered_key (take n h.answers)
  before_at n =
      let more = firsts_begin answered_key (take n h.answers) (drop n h.answers) in
      ap (λ xs. take (length (firsts answered_key (take n h.answers))) xs) (ap (firsts answered_key) (sym (take-append-drop n h.answers)) ∙ more.1)
      ∙ take-append_seam (firsts answered_key (take n h.answers)) more.0

  pub legal_once : IsLegal rules (told_once h) order
  legal_once = record {
    submitted = λ c i. submitted_once c (legal.submitted c i);
    rising = legal.rising;
    answered = λ a i. legal.answered a (firsts_in answered_key a h.answers i);
    once = legal.once;
    later = λ s i a j m n given stands.
        let was = mapped_from (told_at h.answers) s h.submitted i in
        let t : Submission Op = was.0 in
        let old : In a (given_before (told_at h.answers t) (firsts answered_key h.answers)) =
        subst (λ (q : Submission Op). In a (given_before q (firsts answered_key h.answers))) was.2 j in
        legal.later t was.1 a (firsts_in answered_key a (take t.after h.answers) (subst (In a) (before_at t.after) old)) m n given
        (subst (λ (q : Submission Op). StandsAt q.command.key order n) was.2 stands);
  }

  -- the first answer to a key is the only one that the order brings
  pub told_first : ((place : ℕ) (a : Answer Reply) → IsGivenAt rules order place a → In a h.answers)
      → (place : ℕ) (a : Answer Reply) → IsGivenAt rules order place a → In a (firsts answered_key h.answers)
  told_first told place a given =
      let first = first_of answered_key a h.answers (told place a given) in
      let own = legal.answered first.0 (firsts_in answered_key first.0 h.answers first.1) in
      let placed = replay rules.fresh rules.after rules.answers order in
      let one : first.0 ≡ a = once_one answered_key (map (λ (p : Placed Reply). p.answer) placed) legal.once first.0 a
      (In-map (λ (p : Placed Reply). p.answer) (record { place = own.0; answer = first.0 }) placed own.1)
      (In-map (λ (p : Placed Reply). p.answer) (record { place = place; answer = a }) placed given)
      first.2 in
      subst (λ (b : Answer Reply). In b (firsts answered_key h.answers)) one first.1

-- what a hall shows is explained
pub explains : {O Op Reply : Type 0} (rules : Rules O Op Reply) (laws : HallLaws rules)
    (promise : List (Command Op) → Type 0) → ((cs : List (Command Op)) → promise cs)
    → (k : RecordedState Op Reply) (w : World Op Reply) → IsWorld rules w → Shows k w → IsExplained rules promise k.past
explains {Op = Op} {Reply = Reply} rules laws promise promises k w i s = record {
  order = kept s.order.0;
  keys = s.order.2;
  legal = subst (λ h. IsLegal rules h (kept s.order.0)) (sym s.happenings)
      (legal_once rules w.happenings (kept s.order.0) (laws.legal_so_far w i s.order.0 s.order.1));
  told = λ place a given.
      subst (λ (h : Happenings Op Reply). In a h.answers) (sym s.happenings)
      (told_first rules w.happenings (kept s.order.0) (laws.legal_so_far w i s.order.0 s.order.1) (laws.told w i s.order.0 s.order.1) place a given);
  promised = promises (kept s.order.0);
}
