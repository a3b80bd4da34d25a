-- What brings nothing has nothing submitted, accepted or performed.
use Rattle.std.proofs.Common.{◌≡◌, ⊎_elim, ℕ, true, false, cond, ◌||◌, List, Some, None, refl, ap, subst}
use Rattle.std.proofs.lemmas.Bool.{false≢true, or_cases}
use Rattle.std.specs.Prelude.{is_some}
use Rattle.std.specs.FinMap.{get, values, entries}
use Rattle.std.specs.List.{list_any}
use Rattle.object.specs.declared.command.Command.{Command}
use Rattle.object.specs.declared.command.Submission.{Submission}
use Rattle.object.specs.Happenings.{is_submitted}
use Rattle.object.specs.Legal.{WasSubmitted}
use Rattle.object.specs.ListLaws.{Each, Each-at, Each-map, Each-weaker}
use Rattle.object.specs.Objects.{Rules, is_one}
use Rattle.ballot.specs.OrderLaws.{BallotLaws}
use Rattle.ballot.specs.Slots.{Slots}
use Rattle.slot_log.specs.Books.{SlotBook}
use Rattle.slot_log.specs.Requests.{is_known}
use Rattle.node.specs.Nodes.{NodeState}
use Rattle.node.specs.Deeds.{ComesToNothing, done_if, performs, outcome_of}
use Rattle.node.specs.SlotLaws.{entries_get}
use Rattle.node.specs.declared.deed.Deed.{Deed}
use Rattle.node.specs.declared.deed.Deed.TheVariants as deeds
use Rattle.node.specs.declared.deed.Outcome.{Outcome}
use Rattle.node.specs.declared.deed.Outcome.TheVariants.{Idle, Done, Performed}
use Rattle.world.specs.Kept.{key_past, is_performance, submission_by}
use Rattle.agreement.specs.Nodes.{Cluster, node}
use Rattle.world.specs.Quiet.{BringsNothing}
use Rattle.agreement.specs.Runs.{IsReachable}
use Rattle.agreement.specs.Events.{event_of}
use Rattle.agreement.specs.Worlds.{World}
use Rattle.world.proofs.ways.Beginning.{one_key}
use Rattle.agreement.proofs.order.Deciding.{any_found}
use Rattle.agreement.proofs.order.Origins.{AllAt}
use Rattle.agreement.proofs.chosen.Reach.{reachable_sound}
use Rattle.agreement.proofs.order.Submitted.{all_submitted, chosen_submitted, key_submitted}

-- an event that brings nothing is a deed at a node that has nothing to do
pub nothing_to_do : {O Op Reply : Type 0} (rules : Rules O Op Reply) (k : Cluster (Command Op)) (n : ℕ) (d : Deed Op)
    → BringsNothing rules k (event_of n d) → ComesToNothing rules (node k n) d
nothing_to_do rules k n (deeds.Request c) i = i
nothing_to_do rules k n deeds.Wake i = i
nothing_to_do rules k n deeds.Nudge i = i
nothing_to_do rules k n deeds.Propose i = i
nothing_to_do rules k n deeds.Perform i = i
nothing_to_do rules k n deeds.Restart i = i

-- then no command is performed
pub no_performance : {O Op Reply : Type 0} (rules : Rules O Op Reply) (x : NodeState (Command Op)) (d : Deed Op)
    → ComesToNothing rules x d → is_performance (outcome_of x d) ≡ false
no_performance rules x (deeds.Request c) i = refl
no_performance rules x deeds.Wake i = refl
no_performance rules x deeds.Nudge i = refl
no_performance rules x deeds.Propose i = ap (λ o. is_performance (done_if o)) i
no_performance rules x deeds.Perform i = ap (λ o. is_performance (performs x.replica o)) i
no_performance rules x deeds.Restart i = refl

-- a key is noted for a command that was performed
pub noted_where : (reach : ℕ) (came : Outcome) → is_some (key_past reach came) ≡ true → is_performance came ≡ true
noted_where reach Idle e = absurd (false≢true e)
noted_where reach Done e = absurd (false≢true e)
noted_where reach (Performed p) e = refl

module _ {Op : Type 0} (submitted : List (Submission Op)) where
  abbrev Was : Command Op → Type 0
  Was c = WasSubmitted c submitted

  values_were : (m : Slots (Command Op)) → AllAt Was m → Each Was (values m)
  values_were m all = Each-map Was (λ e. e.1) (entries m)
      (Each-weaker (λ e. get m e.0 ≡ Some e.1) (λ e. Was e.1) (λ e there. all e.0 e.1 there) (entries m)
      (entries_get m))

  module _ {O Reply : Type 0} (rules : Rules O Op Reply) (c : Command Op) where
    one_of : (ds : List (Command Op)) → Each Was ds → list_any (λ d. is_one rules d c) ds ≡ true → is_submitted c.key submitted ≡ true
    one_of ds all e =
        let r = any_found (λ d. is_one rules d c) ds e in
        subst (λ key. is_submitted key submitted ≡ true) (one_key rules r.0 c r.2) (key_submitted r.0 submitted (Each-at Was ds r.0 all r.1))

    -- the key of a command that a replica knows was submitted
    known_submitted : (book : SlotBook (Command Op)) → Each Was book.requests → AllAt Was book.proposals
        → AllAt Was book.decisions → is_known (is_one rules) book c ≡ true → is_submitted c.key submitted ≡ true
    known_submitted book requests proposals decisions e =
        ⊎_elim (λ q. one_of book.requests requests q)
        (λ q. ⊎_elim (λ z. one_of (values book.proposals) (values_were book.proposals proposals) z)
        (λ z. one_of (values book.decisions) (values_were book.decisions decisions) z)
        (or_cases (list_any (λ d. is_one rules d c) (values book.proposals)) (list_any (λ d. is_one rules d c) (values book.decisions)) q))
        (or_cases (list_any (λ d. is_one rules d c) book.requests)
        (list_any (λ d. is_one rules d c) (values book.proposals) || list_any (λ d. is_one rules d c)
        (values book.decisions)) e)

module _ (laws : BallotLaws) {O Op Reply : Type 0} (rules : Rules O Op Reply) (w : World Op Reply) (r : IsReachable rules w) (n : ℕ) where
  -- and a node that has nothing to do brings no submission
  pub no_submission : (d : Deed Op) → ComesToNothing rules (node w.cluster n) d → (after : ℕ) → submission_by d w.happenings.submitted after ≡ None
  no_submission (deeds.Request c) known after =
      let all = all_submitted laws rules w.cluster.members w r.0 r.1 in
      let book = (all.nodes n).replica in
      let decided = ((reachable_sound laws rules w r).nodes n).decisions in
      ap (λ b. cond b None (Some (record { command = c; after = after })))
      (known_submitted w.happenings.submitted rules c (node w.cluster n).replica book.requests book.proposals
      (λ s d e. chosen_submitted laws rules w.cluster.members w r.0 r.1 s d (decided s d e)) known)
  no_submission deeds.Wake i after = refl
  no_submission deeds.Nudge i after = refl
  no_submission deeds.Propose i after = refl
  no_submission deeds.Perform i after = refl
  no_submission deeds.Restart i after = refl
