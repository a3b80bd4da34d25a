-- Submissions and answers are one list in time.
use Rattle.std.proofs.Common.{◌≡◌, ◌≢◌, inl, inr, ⊎_elim, ℕ, ◌≤◌, Bool, true, false, cond, List, [], ◌∷◌, ◌++◌, length}
use Rattle.std.proofs.Common.{length-append, Option, Some, None, refl, sym, ap, ◌∙◌, subst, arith}
use Rattle.object.specs.Lists.{In}
use Rattle.object.specs.declared.command.Answer.{Answer}
use Rattle.object.specs.declared.command.Command.{Command}
use Rattle.object.specs.declared.command.Submission.{Submission}
use Rattle.slot_log.specs.Decisions.{next_decided}
use Rattle.agreement.specs.declared.event.Event.{Event}
use Rattle.object.specs.Objects.{Rules}
use Rattle.slot_log.specs.Histories.{history}
use Rattle.object.specs.Obeying.{answers_after}
use Rattle.agreement.specs.Nodes.{node}
use Rattle.object.specs.Happenings.{Happenings, is_submitted, with_submission, with_answers, SubmittedOnce, ComeInOrder}
use Rattle.agreement.specs.Worlds.{World, opening}
use Rattle.object.specs.Keys.{same_key}
use Rattle.agreement.specs.Steps.{Step, submit, deliver, wake, nudge, propose, perform, restart, after_performing}
use Rattle.agreement.specs.Runs.{Leads, at_once, after, IsReachable}
use Rattle.object.specs.ListLaws.{In-cases}
use Rattle.object.specs.KeyLaws.{same_when}
use Rattle.ballot.specs.OrderLaws.{not_both}
use Rattle.agreement.proofs.order.Deciding.{any_from}

-- no key is submitted twice, and submissions and answers are one list in time
pub record IsInTime {Op Reply : Type 0} (h : Happenings Op Reply) : Type 0 where
  pub once : SubmittedOnce h.submitted
  pub ordered : ComeInOrder h.submitted
  pub within : (s : Submission Op) → In s h.submitted → s.after ≤ length h.answers

-- a list with a key that it doesn't have yet
once_push : {Op : Type 0} (submitted : List (Submission Op)) (new : Submission Op) → SubmittedOnce submitted
    → ((s : Submission Op) → In s submitted → new.command.key ≢ s.command.key) → SubmittedOnce (submitted ++ (new ∷ []))
once_push [] new once other = (λ t i. absurd i, tt)
once_push {Op} (s ∷ more) new once other = (
  λ t i. ⊎_elim
      (λ (old : In t more). once.0 t old)
      (λ (last : In t (new ∷ [])). ⊎_elim
      (λ (e : t ≡ new) (f : t.command.key ≡ s.command.key). other s (inl refl)
      (ap (λ (x : Submission Op). x.command.key) (sym e) ∙ f)) (λ (never : ⊥). absurd never) last)
      (In-cases t more (new ∷ []) i),
  once_push more new once.1 (λ t i. other t (inr i)),
)

ordered_push : {Op : Type 0} (submitted : List (Submission Op)) (new : Submission Op) → ComeInOrder submitted
    → ((s : Submission Op) → In s submitted → s.after ≤ new.after) → ComeInOrder (submitted ++ (new ∷ []))
ordered_push [] new ordered last = (λ t i. absurd i, tt)
ordered_push {Op} (s ∷ more) new ordered last = (
  λ t i. ⊎_elim
      (λ (old : In t more). ordered.0 t old)
      (λ (there : In t (new ∷ [])). ⊎_elim
      (λ (e : t ≡ new). subst (λ (x : Submission Op). s.after ≤ x.after) (sym e) (last s (inl refl)))
      (λ (never : ⊥). absurd never) there)
      (In-cases t more (new ∷ []) i),
  ordered_push more new ordered.1 (λ t i. last t (inr i)),
)

with_one_more : {Op Reply : Type 0} (c : Command Op) (h : Happenings Op Reply) → IsInTime h → IsInTime (with_submission c h)
with_one_more {Op} {Reply} c h t = at (is_submitted c.key h.submitted) refl
  where
    new : Submission Op
    new = record { command = c; after = length h.answers }

    other : is_submitted c.key h.submitted ≡ false → (s : Submission Op) → In s h.submitted → c.key ≢ s.command.key
    other e s i same = not_both (any_from (λ s. same_key s.command.key c.key) s h.submitted i (same_when s.command.key c.key (sym same))) e

    at : (test : Bool) → is_submitted c.key h.submitted ≡ test → IsInTime (cond test h (record h { submitted = h.submitted ++ (new ∷ []) }))
    at true e = t
    at false e = record {
      once = once_push h.submitted new t.once (other e);
      ordered = ordered_push h.submitted new t.ordered t.within;
      within = λ s i. ⊎_elim
          (λ (old : In s h.submitted). t.within s old)
          (λ (there : In s (new ∷ [])). ⊎_elim
          (λ (f : s ≡ new). let g = ap (λ (x : Submission Op). x.after) f in omega arith)
          (λ (never : ⊥). absurd never) there)
          (In-cases s h.submitted (new ∷ []) i);
    }

with_more_answers : {Op Reply : Type 0} (given : List (Answer Reply)) (h : Happenings Op Reply) → IsInTime h → IsInTime (with_answers given h)
with_more_answers given h t = record {
  once = t.once;
  ordered = t.ordered;
  within = λ s i. let l = t.within s i in let e = length-append h.answers given in omega arith;
}

module _ {O Op Reply : Type 0} (rules : Rules O Op Reply) where
  performs_timely : (w : World Op Reply) (n : ℕ) (o : Option (Command Op)) → IsInTime w.happenings
      → IsInTime (after_performing rules w n (node w.cluster n).replica o).happenings
  performs_timely w n None t = t
  performs_timely w n (Some c) t = with_more_answers (answers_after rules (history (node w.cluster n).replica) c) w.happenings t

  step_timely : (w : World Op Reply) (e : Event Op) (u : World Op Reply) → Step rules w e u → IsInTime w.happenings → IsInTime u.happenings
  step_timely w e u (submit n c member own) t = with_one_more c w.happenings t
  step_timely w e u (deliver j l x out at receives) t = t
  step_timely w e u (wake n member) t = t
  step_timely w e u (nudge n member) t = t
  step_timely w e u (propose n member) t = t
  step_timely w e u (perform n member) t = performs_timely w n (next_decided (node w.cluster n).replica) t
  step_timely w e u (restart n member) t = t

  leads_timely : (w u : World Op Reply) (es : List (Event Op)) → Leads rules w es u → IsInTime w.happenings → IsInTime u.happenings
  leads_timely w u es at_once t = t
  leads_timely w u es (after {es = before} {v = v} e u' l s) t = step_timely v e u s (leads_timely w v before l t)

  -- the happenings of a reachable world are one list in time
  pub reachable_timeline : (w : World Op Reply) → IsReachable rules w → IsInTime w.happenings
  reachable_timeline w r = leads_timely (opening w.cluster.members) w r.0 r.1 (record { once = tt; ordered = tt; within = λ s i. absurd i })
