-- Orders only grow, and so do happenings.
use Rattle.std.proofs.Common.{◌≡◌, ℕ, ◌+◌, ◌≤◌, Bool, true, false, cond, List, [], ◌∷◌, ◌++◌, length, length-append}
use Rattle.std.proofs.Common.{Option, Some, None, refl, sym, ap, ap₂, ◌∙◌, append-nil, append_assoc, arith, ⊎_elim}
use Rattle.object.specs.Lists.{In, IsBeginning}
use Rattle.object.specs.declared.command.Command.{Command}
use Rattle.object.specs.declared.command.Submission.{Submission}
use Rattle.object.specs.Replays.{kept_after, kept}
use Rattle.slot_log.specs.Decisions.{next_decided}
use Rattle.agreement.specs.declared.event.Event.{Event}
use Rattle.object.specs.Objects.{Rules}
use Rattle.slot_log.specs.Histories.{history}
use Rattle.object.specs.Obeying.{answers_after}
use Rattle.agreement.specs.Nodes.{Cluster, node}
use Rattle.object.specs.Happenings.{Happenings, is_submitted}
use Rattle.agreement.specs.Worlds.{World}
use Rattle.agreement.specs.Steps.{Step, submit, deliver, wake, nudge, propose, perform, restart, after_performing}
use Rattle.agreement.specs.Runs.{Leads, at_once, after, IsReachable}
use Rattle.agreement.specs.Chosen.{IsChosenFrom, IsOrder}
use Rattle.object.specs.Legal.{GoesOn}
use Rattle.object.specs.ListLaws.{In-cases}
use Rattle.ballot.specs.OrderLaws.{BallotLaws}
use Rattle.agreement.proofs.chosen.Invariants.{IsSound, agree}
use Rattle.agreement.proofs.chosen.Grows.{Grows, chosen_stays}
use Rattle.agreement.proofs.chosen.Turns.{Kept}
use Rattle.agreement.proofs.chosen.Reach.{leads_sound, reachable_sound}
use Rattle.object.specs.ReplayLaws.{seen_by, kept_after-append}

-- what is kept of a beginning is a beginning of what is kept
pub kept_beginning : {Op : Type 0} (xs ys : List (Command Op)) → IsBeginning xs ys → IsBeginning (kept xs) (kept ys)
kept_beginning xs ys h = (kept_after (seen_by [] xs) h.0, ap (λ zs. kept zs) h.1 ∙ kept_after-append [] xs h.0)

pub same_beginning : {A : Type 0} (xs ys : List A) → xs ≡ ys → IsBeginning xs ys
same_beginning xs ys e = ([], sym (append-nil xs ∙ e))

pub beginning_trans : {A : Type 0} (xs ys zs : List A) → IsBeginning xs ys → IsBeginning ys zs → IsBeginning xs zs
beginning_trans xs ys zs a b = (a.0 ++ b.0, b.1 ∙ ap (λ l. l ++ b.0) a.1 ∙ append_assoc xs a.0 b.0)

module _ (laws : BallotLaws) {C : Type 0} (k z : Cluster C) (g : Grows k z) (i : IsSound z) where
  -- the chosen commands of an earlier cluster are a beginning of those of a later one
  pub chosen_beginning : (s : ℕ) (cs ds : List C) → IsChosenFrom k s cs → IsChosenFrom z s ds → IsBeginning cs ds
  chosen_beginning s [] ds h f = (ds, refl)
  chosen_beginning s (c ∷ cs) [] h f = absurd (f c (chosen_stays k z g s c h.0))
  chosen_beginning s (c ∷ cs) (d ∷ ds) h f =
      let p = chosen_beginning (s + 1) cs ds h.1 f.1 in
      (p.0, ap₂ (λ x xs. x ∷ xs) (sym (agree laws z i s c d (chosen_stays k z g s c h.0) f.0)) p.1)

-- a cluster has no two lists of chosen commands
pub one_list : (laws : BallotLaws) {C : Type 0} (k : Cluster C) → IsSound k → (s : ℕ) (cs ds : List C) → IsChosenFrom k s cs → IsChosenFrom k s ds → cs ≡ ds
one_list laws k i s [] [] h f = refl
one_list laws k i s [] (d ∷ ds) h f = absurd (h d f.0)
one_list laws k i s (c ∷ cs) [] h f = absurd (f c h.0)
one_list laws k i s (c ∷ cs) (d ∷ ds) h f = ap₂ (λ x xs. x ∷ xs) (agree laws k i s c d h.0 f.0) (one_list laws k i (s + 1) cs ds h.1 f.1)

submissions_go_on : {Op Reply : Type 0} (h : Happenings Op Reply) (c : Command Op) (test : Bool)
    → GoesOn h (cond test h (record h {
      submitted =
          h.submitted ++ (record { command = c; after = length h.answers } ∷ []);
    }))
submissions_go_on h c true = record { answers = ([], sym (append-nil h.answers)); submitted = ([], sym (append-nil h.submitted), λ s i. absurd i) }
submissions_go_on h c false = record {
  answers = ([], sym (append-nil h.answers));
  submitted = (
    record { command = c; after = length h.answers } ∷ [],
    refl,
    λ s i. ⊎_elim
        (λ (e : s ≡ record { command = c; after = length h.answers }). let f = ap (λ y. y.after) e in omega arith)
        (λ (never : ⊥). absurd never) i,
  );
}

pub goes_on_itself : {Op Reply : Type 0} (h : Happenings Op Reply) → GoesOn h h
goes_on_itself h = record { answers = ([], sym (append-nil h.answers)); submitted = ([], sym (append-nil h.submitted), λ s i. absurd i) }

pub goes_on_trans : {Op Reply : Type 0} (f g h : Happenings Op Reply) → GoesOn f g → GoesOn g h → GoesOn f h
goes_on_trans f g h a b = record {
  answers = beginning_trans f.answers g.answers h.answers a.answers b.answers;
  submitted = (
    a.submitted.0 ++ b.submitted.0,
    b.submitted.1 ∙ ap
        (λ l. l ++ b.submitted.0) a.submitted.1 ∙ append_assoc f.submitted a.submitted.0 b.submitted.0,
    more,
  );
}
  where
    fewer : length f.answers ≤ length g.answers
    fewer = let e = ap length a.answers.1 ∙ length-append f.answers a.answers.0 in omega arith

    more : (s : Submission _) → In s (a.submitted.0 ++ b.submitted.0) → length f.answers ≤ s.after
    more s i = ⊎_elim (λ (x : In s a.submitted.0). a.submitted.2 s x)
        (λ (y : In s b.submitted.0). let l = b.submitted.2 s y in let m = fewer in omega arith)
        (In-cases s a.submitted.0 b.submitted.0 i)

module _ {O Op Reply : Type 0} (rules : Rules O Op Reply) where
  performs_on : (w : World Op Reply) (n : ℕ) (o : Option (Command Op))
      → GoesOn w.happenings (after_performing rules w n (node w.cluster n).replica o).happenings
  performs_on w n None = goes_on_itself w.happenings
  performs_on w n (Some c) = record {
    answers =
        (answers_after rules (history (node w.cluster n).replica) c, refl);
    submitted =
        ([], sym (append-nil w.happenings.submitted), λ s i. absurd i);
  }

  pub step_goes_on : (w : World Op Reply) (e : Event Op) (u : World Op Reply) → Step rules w e u → GoesOn w.happenings u.happenings
  step_goes_on w e u (submit n c member own) = submissions_go_on w.happenings c (is_submitted c.key w.happenings.submitted)
  step_goes_on w e u (deliver j l x out at receives) = goes_on_itself w.happenings
  step_goes_on w e u (wake n member) = goes_on_itself w.happenings
  step_goes_on w e u (nudge n member) = goes_on_itself w.happenings
  step_goes_on w e u (propose n member) = goes_on_itself w.happenings
  step_goes_on w e u (perform n member) = performs_on w n (next_decided (node w.cluster n).replica)
  step_goes_on w e u (restart n member) = goes_on_itself w.happenings

  -- the happenings of a world go on in every later one
  pub happenings_go_on : (w u : World Op Reply) (es : List (Event Op)) → Leads rules w es u → GoesOn w.happenings u.happenings
  happenings_go_on w u es at_once = goes_on_itself w.happenings
  happenings_go_on w u es (after {es = before} {v = v} e u' l s) =
      goes_on_trans w.happenings v.happenings u.happenings (happenings_go_on w v before l) (step_goes_on v e u s)

module _ (laws : BallotLaws) {O Op Reply : Type 0} (rules : Rules O Op Reply) where
  -- the order of a world is a beginning of the order of every later one
  pub order_grows : (w u : World Op Reply) (es : List (Event Op)) → IsReachable rules w → Leads rules w es u
      → (cs ds : List (Command Op)) → IsOrder w.cluster cs → IsOrder u.cluster ds → IsBeginning cs ds
  order_grows w u es r l cs ds h f =
      let now : Kept w.cluster u.cluster = leads_sound laws rules w u es (reachable_sound laws rules w r) l in
      let b : IsBeginning (kept h.0) (kept f.0) = kept_beginning h.0 f.0 (chosen_beginning laws w.cluster u.cluster now.grows now.sound 1 h.0 f.0 h.1 f.1) in
      (b.0, f.2 ∙ b.1 ∙ ap (λ l. l ++ b.0) (sym h.2))

  -- a reachable world has no two orders
  pub one_order : (w : World Op Reply) → IsReachable rules w → (cs ds : List (Command Op)) → IsOrder w.cluster cs → IsOrder w.cluster ds → cs ≡ ds
  one_order w r cs ds h f = h.2 ∙ ap (λ l. kept l) (one_list laws w.cluster (reachable_sound laws rules w r) 1 h.0 f.0 h.1 f.1) ∙ sym f.2
