-- A turn in which a node does nothing leaves the work of all nodes as it is.
use Rattle.std.proofs.Common.{◌≡◌, ℕ, false, Option, Some, None, refl, sym, ap, ◌∙◌}
use Rattle.std.specs.Prelude.{not, ◌&&◌, is_some, Result, Ok, Err, IfOk, OnOk}
use Rattle.object.specs.Objects.{Rules}
use Rattle.object.specs.OnceOnly.{Filtered}
use Rattle.object.specs.declared.command.Command.{Command}
use Rattle.ballot.specs.Members.{is_member}
use Rattle.ballot.specs.Rests.{rest_of_body}
use Rattle.ballot.specs.declared.letter.Letter.{Letter}
use Rattle.ballot.specs.declared.letter.LetterBody.{LetterBody}
use Rattle.slot_log.specs.Decisions.{next_decided}
use Rattle.slot_log.specs.Proposals.{next_proposal}
use Rattle.node.specs.Deeds.{done_if}
use Rattle.node.specs.Holding.{Holding, outcome_held, performing_held, performs_held}
use Rattle.node.specs.Nodes.{NodeState}
use Rattle.node.specs.declared.deed.Deed.{Deed}
use Rattle.node.specs.declared.deed.Deed.TheVariants as deeds
use Rattle.node.specs.declared.deed.Outcome.{Outcome}
use Rattle.node.specs.declared.deed.Outcome.TheVariants.{Idle}
use Rattle.network.specs.Networks.{NetworkState, node_of, front, has_mail, turned_net}
use Rattle.lean_network.specs.LeanNetworks.{states, object_of, lean_mail_of, lean_node_of}
use Rattle.lean_network.specs.Receipts.{receipt_of, receipt_of_rest}
use Rattle.lean_network.specs.declared.receipt.Receipt.{Receipt}
use Rattle.lean_network.specs.declared.receipt.Receipt.TheVariants as receipts
use Rattle.hall.specs.declared.error.HallError.{HallError}
use Rattle.hall.specs.Refusals.{RefusesOrIdles}
use Rattle.lean_network.proofs.States.{state_at}
use Rattle.turns.proofs.Idle.{net_work, no_proposal, still_net}
use Rattle.forgetting_hall.specs.Halls.{ForgettingState, rest_of_hall}
use Rattle.forgetting_hall.specs.Refusing.{is_foreign, refusal_of_event}
use Rattle.forgetting_hall.specs.Rests.{HallRest, IsGoingOn, IsReceivedRest, done_rest, lost_rest, outcome_rest}
use Rattle.forgetting_hall.specs.Shown.{acted_net_held, holder}
use Rattle.forgetting_hall.specs.Working.{lean_work_of}
use Rattle.forgetting_hall.proofs.Following.{event_member}
use Rattle.forgetting_hall.proofs.Told.{not_refused}
use Rattle.forgetting_hall.proofs.Turning.{outcome_is}

module _ {O Op Reply : Type 0} (rules : Rules O Op Reply) where
  work_is : (h : ForgettingState Op O Reply) → lean_work_of rules h ≡ net_work (states h.network)
  work_is h = λ i n. record {
    mail = not (not (is_member h.network.members n)) && has_mail (states h.network) n;
    request = not (not (is_member h.network.members n)) && is_some (next_proposal (sym (state_at rules h.network n) i).replica);
    decision = not (not (is_member h.network.members n)) && is_some (next_decided (sym (state_at rules h.network n) i).replica);
  }

  pub same_work : (h z : ForgettingState Op O Reply) → states z.network ≡ states h.network → lean_work_of rules z ≡ lean_work_of rules h
  same_work h z same = work_is z ∙ ap net_work same ∙ sym (work_is h)

  module _ (k : NetworkState (Command Op)) (objects : ℕ → Filtered O) (n : ℕ) where
    no_proposal_held : next_proposal (node_of k n).replica ≡ None → acted_net_held rules k objects n deeds.Propose ≡ k
    no_proposal_held none = no_proposal rules k n none

    no_decision_held : next_decided (node_of k n).replica ≡ None → acted_net_held rules k objects n deeds.Perform ≡ k
    no_decision_held none =
        (λ i. turned_net k n (performing_held rules (holder k objects n) (none i)).state.state (performing_held rules (holder k objects n) (none i)).sent)
        ∙ still_net k n

  none_done : {X : Type 0} (o : Option X) → Idle ≡ done_if o → o ≡ None
  none_done None e = refl
  none_done (Some x) e = absurd (cc)

  none_performed : (x : Holding Op O) (o : Option (Command Op)) → Idle ≡ performs_held x o → o ≡ None
  none_performed x None e = refl
  none_performed x (Some c) e = absurd (cc)

  module _ (h z : ForgettingState Op O Reply) (n : ℕ) where
    at_node : {X : Type 0} (f : NodeState (Command Op) → X) (x : X) → f (lean_node_of rules h.network n).state ≡ x → f (node_of (states h.network) n) ≡ x
    at_node f x e = ap f (state_at rules h.network n) ∙ e

    -- nothing came of the deed
    pub idle_work : (d : Deed Op) → IsGoingOn d → Idle ≡ outcome_held (lean_node_of rules h.network n) d
        → rest_of_hall rules z ≡ done_rest rules (rest_of_hall rules h) n d → lean_work_of rules z ≡ lean_work_of rules h
    idle_work (deeds.Request c) own idle is = absurd own
    idle_work deeds.Wake own idle is = absurd (cc)
    idle_work deeds.Nudge own idle is = absurd (cc)
    idle_work deeds.Propose own idle is = same_work h z
        (ap (λ (q : HallRest Op O Reply). q.network) is
        ∙ no_proposal_held (states h.network) (object_of rules h.network) n
        (at_node (λ x. next_proposal x.replica) None (none_done (next_proposal (lean_node_of rules h.network n).state.replica) idle)))
    idle_work deeds.Perform own idle is = same_work h z
        (ap (λ (q : HallRest Op O Reply). q.network) is
        ∙ no_decision_held (states h.network) (object_of rules h.network) n
        (at_node (λ x. next_decided x.replica) None
        (none_performed (lean_node_of rules h.network n) (next_decided (lean_node_of rules h.network n).state.replica) idle)))
    idle_work deeds.Restart own idle is = absurd own

not_nothing : {C : Type 0} (o : Option (LetterBody C)) → receipts.Nothing ≡ receipt_of_rest o → ⊥
not_nothing None e = absurd (cc)
not_nothing (Some left) e = absurd (cc)

no_letter : {C : Type 0} (base : ℕ) (o : Option (Letter C)) → receipts.Nothing ≡ receipt_of base o → o ≡ None
no_letter base None e = refl
no_letter base (Some l) e = absurd (not_nothing (rest_of_body base l.body) e)

-- by what a turn answers
module _ {O Op Reply : Type 0} (rules : Rules O Op Reply) (h z : ForgettingState Op O Reply) (n : ℕ) where
  pub turn_outcome : (d : Deed Op) → IsGoingOn d → (r : Result Outcome HallError) → IfOk r (λ o. o ≡ outcome_rest (rest_of_hall rules h) n d)
      → IfOk r (λ o. o ≡ outcome_held (lean_node_of rules h.network n) d)
  turn_outcome d own (Ok o) is = is ∙ outcome_is rules h n d own
  turn_outcome d own (Err e) is = tt

  pub turn_member : {T : Type 0} (r : Result T HallError) → ((e : HallError) → refusal_of_event h n ≡ Some e → r ≡ Err e) → OnOk r (is_foreign h n ≡ false)
  turn_member (Ok x) refused = ap not (event_member h n (not_refused (refusal_of_event h n) x refused))
  turn_member (Err e) refused = tt

  pub turn_calm : (d : Deed Op) → IsGoingOn d → (r : Result Outcome HallError) → IfOk r (λ o. o ≡ outcome_rest (rest_of_hall rules h) n d)
      → OnOk r (rest_of_hall rules z ≡ done_rest rules (rest_of_hall rules h) n d) → r ≡ Ok Idle → lean_work_of rules z ≡ lean_work_of rules h
  turn_calm d own (Err e) outcome ok is = absurd (cc)
  turn_calm d own (Ok o) outcome ok is =
      let idle : Idle ≡ o = cc in
      idle_work rules h z n d own (idle ∙ outcome ∙ outcome_is rules h n d own) ok

  pub letter_calm : (r : Result Receipt HallError) → IfOk r (λ came. came ≡ receipt_of h.base (front (lean_mail_of h.network n)))
      → OnOk r (front (lean_mail_of h.network n) ≡ None → z ≡ h) → r ≡ Ok receipts.Nothing → lean_work_of rules z ≡ lean_work_of rules h
  letter_calm (Err e) came none is = absurd (cc)
  letter_calm (Ok x) came none is =
      let nothing : receipts.Nothing ≡ x = cc in
      ap (lean_work_of rules) (none (no_letter h.base (front (lean_mail_of h.network n)) (nothing ∙ came)))

  -- a letter hands in nothing
  pub letter_kept : (r : Result Receipt HallError)
      → OnOk r ((l : Letter (Command Op)) (left : LetterBody (Command Op)) → front (lean_mail_of h.network n) ≡ Some l
      → rest_of_body h.base l.body ≡ Some left → IsReceivedRest (rest_of_hall rules h) n l left (rest_of_hall rules z))
      → OnOk r ((l : Letter (Command Op)) → front (lean_mail_of h.network n) ≡ Some l → rest_of_body h.base l.body ≡ None
      → rest_of_hall rules z ≡ lost_rest (rest_of_hall rules h) n)
      → RefusesOrIdles (refusal_of_event h n) (front (lean_mail_of h.network n) ≡ None) r h z
      → z.summary.submitted ≡ h.summary.submitted
  letter_kept (Err e) ok forgotten refuses = ap (λ (q : ForgettingState Op O Reply). q.summary.submitted) refuses.refused.err
  letter_kept (Ok x) ok forgotten refuses = at (front (lean_mail_of h.network n)) refl
    where
      of : (l : Letter (Command Op)) → front (lean_mail_of h.network n) ≡ Some l → (left : Option (LetterBody (Command Op)))
          → rest_of_body h.base l.body ≡ left → z.summary.submitted ≡ h.summary.submitted
      of l came None was = ap (λ (q : HallRest Op O Reply). q.summary.submitted) (forgotten l came was)
      of l came (Some left) was = ap (λ (q : HallRest Op O Reply). q.summary.submitted) (ok l left came was).2

      at : (o : Option (Letter (Command Op))) → front (lean_mail_of h.network n) ≡ o → z.summary.submitted ≡ h.summary.submitted
      at None came = ap (λ (q : ForgettingState Op O Reply). q.summary.submitted) (refuses.none came)
      at (Some l) came = of l came (rest_of_body h.base l.body) refl
