-- Each chosen command was submitted.
use Rattle.std.proofs.Common.{◌≡◌, inl, ℕ, Bool, true, false, cond, List, [], ◌∷◌, ◌++◌, length, Option, Some, None, refl, sym, ap, subst}
use Rattle.object.specs.Lists.{In}
use Rattle.object.specs.declared.command.Command.{Command}
use Rattle.object.specs.declared.command.Submission.{Submission}
use Rattle.leader.specs.Leaders.{pvalue}
use Rattle.slot_log.specs.Decisions.{next_decided}
use Rattle.ballot.specs.Members.{is_member}
use Rattle.agreement.specs.declared.event.Event.{Event}
use Rattle.object.specs.Objects.{Rules, is_one}
use Rattle.node.specs.Nodes.{NodeState, new_node}
use Rattle.agreement.specs.Nodes.{new_cluster, node}
use Rattle.object.specs.Happenings.{Happenings, is_submitted, with_submission}
use Rattle.agreement.specs.Worlds.{World, opening}
use Rattle.object.specs.Keys.{same_key}
use Rattle.agreement.specs.Steps.{Step, IsItsOwn, submit, deliver, wake, nudge, propose, perform, restart, after_performing}
use Rattle.agreement.specs.Runs.{Leads, at_once, after}
use Rattle.agreement.specs.Chosen.{IsChosen}
use Rattle.object.specs.Legal.{WasSubmitted, GoesOn}
use Rattle.object.specs.ListLaws.{Each-at, In-get, In-left, In-right}
use Rattle.object.specs.KeyLaws.{same_when}
use Rattle.ballot.specs.OrderLaws.{BallotLaws}
use Rattle.agreement.proofs.chosen.Invariants.{IsFair, IsSound}
use Rattle.agreement.proofs.chosen.Reach.{leads_sound, opening_sound, opened_at}
use Rattle.agreement.proofs.order.Origins.{Of, OfNode, OfBody, empty_at, asked_of, wake_of, nudge_of, proposes_of}
use Rattle.agreement.proofs.order.Origins.{submit_of, perform_of, receive_of, restart_of}
use Rattle.agreement.proofs.chosen.Growing.{step_goes_on}
use Rattle.agreement.proofs.order.Deciding.{any_found, any_from}

-- what was submitted stays submitted
pub still_submitted : {Op Reply : Type 0} (h g : Happenings Op Reply) → GoesOn h g → (c : Command Op) → WasSubmitted c h.submitted → WasSubmitted c g.submitted
still_submitted h g on c was = (was.0, subst (In was.0) (sym on.submitted.1) (In-left was.0 h.submitted on.submitted.0 was.1), was.2)

-- so was the key of a command that was submitted
pub key_submitted : {Op : Type 0} (c : Command Op) (submitted : List (Submission Op)) → WasSubmitted c submitted → is_submitted c.key submitted ≡ true
key_submitted {Op} c submitted was =
    any_from (λ s. same_key s.command.key c.key) was.0 submitted was.1
    (same_when was.0.command.key c.key (ap (λ (x : Command Op). x.key) was.2))

-- a command that is submitted was so before, or is from now on
now_submitted : {Op Reply : Type 0} (c : Command Op) (h : Happenings Op Reply) → IsItsOwn c h.submitted → WasSubmitted c (with_submission c h).submitted
now_submitted {Op} {Reply} c h own = at (is_submitted c.key h.submitted) refl
  where
    new : Submission Op
    new = record { command = c; after = length h.answers }

    at : (test : Bool) → is_submitted c.key h.submitted ≡ test → WasSubmitted c (cond test h (record h { submitted = h.submitted ++ (new ∷ []) })).submitted
    at true e = let r = any_found (λ s. same_key s.command.key c.key) h.submitted e in (r.0, r.1, own r.0 r.1 r.2)
    at false e = (new, In-right new h.submitted (new ∷ []) (inl refl), refl)

new_node_of : {C : Type 0} (P : C → Type 0) (members : List ℕ) (n : ℕ) → OfNode P (new_node members n)
new_node_of P members n = record { leader = empty_at P; replica = record { requests = tt; proposals = empty_at P } }

opening_of : {C : Type 0} (P : C → Type 0) (members : List ℕ) → Of P (new_cluster {C = C} members)
opening_of {C} P members = record { nodes = λ n. subst (λ (x : NodeState C). OfNode P x) (sym (opened_at members n)) (new_node_of P members n); letters = tt }

module _ (laws : BallotLaws) {O Op Reply : Type 0} (rules : Rules O Op Reply) (P : Command Op → Type 0) where
  performs_of : (v : World Op Reply) → IsSound v.cluster → (n : ℕ) → is_member v.cluster.members n ≡ true
      → Of P v.cluster → (o : Option (Command Op))
      → Of P (after_performing rules v n (node v.cluster n).replica o).cluster
  performs_of v i n member f None = f
  performs_of v i n member f (Some c) = perform_of P laws v.cluster i n member f (is_one rules)

  step_of : (v : World Op Reply) (e : Event Op) (u : World Op Reply) → IsSound v.cluster → Step rules v e u
      → ((c : Command Op) → WasSubmitted c u.happenings.submitted → P c) → Of P v.cluster → Of P u.cluster
  step_of v e u i (submit n c member own) p f = submit_of P laws v.cluster i n member f (is_one rules) c (p c (now_submitted c v.happenings own))
  step_of v e u i (deliver j l x out at receives) p f =
      let within = In-get v.cluster.letters j l at in
      let fair = Each-at (IsFair v.cluster) v.cluster.letters l i.letters within in
      receive_of P laws v.cluster i l.to fair.receiver f l.«from» l.body
      (Each-at (λ l. OfBody P l.body) v.cluster.letters l f.letters within) fair.says x out receives
  step_of v e u i (wake n member) p f = wake_of P laws v.cluster i n member f
  step_of v e u i (nudge n member) p f = nudge_of P laws v.cluster i n member f
  step_of v e u i (propose n member) p f = proposes_of P laws v.cluster i n member f
  step_of v e u i (perform n member) p f = performs_of v i n member f (next_decided (node v.cluster n).replica)
  step_of v e u i (restart n member) p f = restart_of P laws v.cluster i n member f

  leads_of : (w u : World Op Reply) (es : List (Event Op)) → IsSound w.cluster → Of P w.cluster → Leads rules w es u
      → ((c : Command Op) → WasSubmitted c u.happenings.submitted → P c) → Of P u.cluster
  leads_of w u es i f at_once p = f
  leads_of w u es i f (after {es = before} {v = v} e u' l s) p =
      let q : (c : Command Op) → WasSubmitted c v.happenings.submitted → P c =
      λ c was. p c (still_submitted v.happenings u.happenings (step_goes_on rules v e u s) c was) in
      step_of v e u (leads_sound laws rules w v before i l).sound s p (leads_of w v before i f l q)

module _ (laws : BallotLaws) {O Op Reply : Type 0} (rules : Rules O Op Reply) where
  -- so was each that is requested, proposed or asked for
  pub all_submitted : (members : List ℕ) (w : World Op Reply) (es : List (Event Op))
      → Leads rules (opening members) es w → Of (λ (d : Command Op). WasSubmitted d w.happenings.submitted) w.cluster
  all_submitted members w es l =
      let P : Command Op → Type 0 = λ d. WasSubmitted d w.happenings.submitted in
      leads_of laws rules P (opening members) w es (opening_sound (Command Op) members) (opening_of P members) l (λ d was. was)

  pub chosen_submitted : (members : List ℕ) (w : World Op Reply) (es : List (Event Op))
      → Leads rules (opening members) es w → (s : ℕ) (c : Command Op) → IsChosen w.cluster s c
      → WasSubmitted c w.happenings.submitted
  chosen_submitted members w es l s c h =
      let P : Command Op → Type 0 = λ d. WasSubmitted d w.happenings.submitted in
      let i = leads_sound laws rules (opening members) w es (opening_sound (Command Op) members) l in
      let m = laws.share w.cluster.members h.1.voters h.1.voters h.1.majority h.1.majority in
      asked_of P w.cluster (all_submitted members w es l) (pvalue h.0 s c) ((i.sound.nodes m.0).acceptor.sent (pvalue h.0 s c) (h.1.accepted m.0 m.1))
