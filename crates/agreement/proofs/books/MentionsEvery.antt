-- What a cluster mentions, from event to event, and how far its slots are from the reach in every world.
use Rattle.std.proofs.Common.{◌≡◌, ℕ, ◌+◌, ◌≤◌, true, true≢false, List, [], ◌∷◌, Some, None, Option, refl, sym, ap, subst, arith}
use Rattle.object.specs.ListLaws.{Each-at, Each-weaker, In-get}
use Rattle.object.specs.Objects.{Rules, is_one}
use Rattle.object.specs.declared.command.Command.{Command}
use Rattle.ballot.specs.Members.{is_member}
use Rattle.ballot.specs.OrderLaws.{BallotLaws}
use Rattle.ballot.specs.declared.letter.LetterBody.{LetterBody}
use Rattle.ballot.specs.declared.letter.LetterBody.TheVariants.{P1a, P1b, P2a, P2b, Propose, Decision, Ask}
use Rattle.slot_log.specs.Books.{SlotBook}
use Rattle.slot_log.specs.Decisions.{next_decided}
use Rattle.slot_log.specs.Proposals.{first_for, next_proposal, open_slot, IsLeastOpen}
use Rattle.slot_log.proofs.OpenSlots.{open_is}
use Rattle.node.specs.Nodes.{NodeState}
use Rattle.agreement.specs.declared.event.Event.{Event}
use Rattle.agreement.specs.declared.event.Event.TheVariants as events
use Rattle.agreement.specs.Mentions.{MentionsBody, MentionsNode, Mentions, is_calm, ProposesOnly}
use Rattle.agreement.specs.Nodes.{Cluster, node}
use Rattle.agreement.specs.Runs.{InEvery, IsWorld}
use Rattle.agreement.specs.Steps.{Step, submit, deliver, wake, nudge, propose, perform, restart, after_performing}
use Rattle.agreement.specs.Worlds.{World, opening}
use Rattle.agreement.proofs.every.Every.{counts, within_reach}
use Rattle.agreement.proofs.chosen.Invariants.{IsFair, IsSound}
use Rattle.agreement.proofs.chosen.LeaderRows.{some_same, none_not}
use Rattle.agreement.proofs.books.LeadingRuns.{in_every}
use Rattle.agreement.proofs.books.Mentions.{new_of, restart_of, wake_of, nudge_of, proposes_of, submit_of, perform_of, receive_of}
use Rattle.agreement.proofs.chosen.Reach.{opened_at, reachable_sound}

module _ {C : Type 0} (P Q : ℕ → C → Type 0) (more : (s : ℕ) (c : C) → P s c → Q s c) where
  body_weaker : (body : LetterBody C) → MentionsBody P body → MentionsBody Q body
  body_weaker (P1a b) h = tt
  body_weaker (P1b b report) h = λ p i. more p.slot p.value (h p i)
  body_weaker (P2a p) h = more p.slot p.value h
  body_weaker (P2b o s by) h = tt
  body_weaker (Propose s c) h = more s c h
  body_weaker (Decision s c) h = more s c h
  body_weaker (Ask s) h = tt

  node_weaker : (x : NodeState C) → MentionsNode P x → MentionsNode Q x
  node_weaker x h = record {
    accepted = λ p i. more p.slot p.value (h.accepted p i);
    leader = record {
      proposals = λ s c e. more s c (h.leader.proposals s c e);
      gathered = λ s e p i. more p.slot p.value (h.leader.gathered s e p i);
      commanders = λ s c e. more s c.pvalue.value (h.leader.commanders s c e);
    };
    replica = record {
      proposals = λ s c e. more s c (h.replica.proposals s c e);
      decisions = λ s c e. more s c (h.replica.decisions s c e);
    };
  }

  -- what follows from it holds of all that is mentioned too
  pub mentions_weaker : (k : Cluster C) → Mentions P k → Mentions Q k
  mentions_weaker k h = record {
    nodes = λ n. node_weaker (node k n) (h.nodes n);
    letters = Each-weaker (λ l. MentionsBody P l.body) (λ l. MentionsBody Q l.body) (λ l m. body_weaker l.body m) k.letters h.letters;
  }

module _ (laws : BallotLaws) {O Op Reply : Type 0} (rules : Rules O Op Reply) (P : ℕ → Command Op → Type 0) where
  performs_of : (w : World Op Reply) → IsSound w.cluster → Mentions P w.cluster → (n : ℕ)
      → is_member w.cluster.members n ≡ true → (o : Option (Command Op))
      → Mentions P (after_performing rules w n (node w.cluster n).replica o).cluster
  performs_of w i f n member None = f
  performs_of w i f n member (Some c) = perform_of P laws w.cluster i f n member (is_one rules)

  -- an event mentions nothing new but what is proposed
  pub mentions_step : (w v : World Op Reply) (e : Event Op) → IsSound w.cluster → Step rules w e v → ProposesOnly P w e
      → Mentions P w.cluster → Mentions P v.cluster
  mentions_step w v e i (submit n c member own) only f = submit_of P laws w.cluster i f n member (is_one rules) c
  mentions_step w v e i (deliver j l x out at receives) only f =
      let within = In-get w.cluster.letters j l at in
      let fair = Each-at (IsFair w.cluster) w.cluster.letters l i.letters within in
      receive_of P laws w.cluster i f l.to fair.receiver l.«from» l.body
      (Each-at (λ y. MentionsBody P y.body) w.cluster.letters l f.letters within) x out receives
  mentions_step w v e i (wake n member) only f = wake_of P laws w.cluster i f n member
  mentions_step w v e i (nudge n member) only f = nudge_of P laws w.cluster i f n member
  mentions_step w v e i (propose n member) only f = proposes_of P laws w.cluster i f n member only
  mentions_step w v e i (perform n member) only f = performs_of w i f n member (next_decided (node w.cluster n).replica)
  mentions_step w v e i (restart n member) only f = restart_of P laws w.cluster i f n member

  calm_proposes : (w : World Op Reply) (e : Event Op) → is_calm e ≡ true → ProposesOnly P w e
  calm_proposes w (events.Submit n c) calm = tt
  calm_proposes w (events.Deliver j) calm = tt
  calm_proposes w (events.Wake n) calm = tt
  calm_proposes w (events.Nudge n) calm = tt
  calm_proposes w (events.Propose n) calm = absurd (true≢false (sym calm))
  calm_proposes w (events.Perform n) calm = tt
  calm_proposes w (events.Restart n) calm = tt

  -- an event that has no replica propose mentions nothing new
  pub mentions_calm : (w v : World Op Reply) (e : Event Op) → IsSound w.cluster → Step rules w e v → is_calm e ≡ true
      → Mentions P w.cluster → Mentions P v.cluster
  mentions_calm w v e i s calm f = mentions_step w v e i s (calm_proposes w e calm) f

-- what is proposed next is proposed in an open slot
proposed_open : {C : Type 0} (requests : List C) (o : Option ℕ) (s : ℕ) (c : C) → first_for requests o ≡ Some (s, c) → o ≡ Some s
proposed_open [] o s c e = none_not refl e
proposed_open (d ∷ more) None s c e = none_not refl e
proposed_open (d ∷ more) (Some t) s c e = ap (λ p. Some p.0) (some_same e)

pub next_open : {C : Type 0} (book : SlotBook C) (s : ℕ) (c : C) → next_proposal book ≡ Some (s, c) → IsLeastOpen book s
next_open book s c e = open_is book s (proposed_open book.requests (open_slot book) s c e)

module _ {O Op Reply : Type 0} (rules : Rules O Op Reply) where
  performed_reach : (w : World Op Reply) (n : ℕ) (o : Option (Command Op)) → w.reach ≤ (after_performing rules w n (node w.cluster n).replica o).reach
  performed_reach w n None = omega arith
  performed_reach w n (Some c) = omega arith

  -- the reach never falls
  pub reach_grows : (w v : World Op Reply) (e : Event Op) → Step rules w e v → w.reach ≤ v.reach
  reach_grows w v e (submit n c member own) = omega arith
  reach_grows w v e (deliver j l x out at receives) = omega arith
  reach_grows w v e (wake n member) = omega arith
  reach_grows w v e (nudge n member) = omega arith
  reach_grows w v e (propose n member) = omega arith
  reach_grows w v e (perform n member) = performed_reach w n (next_decided (node w.cluster n).replica)
  reach_grows w v e (restart n member) = omega arith

  performed_next : (w : World Op Reply) (n : ℕ) (o : Option (Command Op))
      → (node w.cluster n).replica.slot_out ≤ w.reach + 1
      → (after_performing rules w n (node w.cluster n).replica o).reach ≤ w.reach + 1
  performed_next w n None low = omega arith
  performed_next w n (Some c) low = omega arith

module _ (laws : BallotLaws) {O Op Reply : Type 0} (rules : Rules O Op Reply) where
  -- it grows by one at most
  reach_next : (w v : World Op Reply) (e : Event Op) → IsWorld rules w → Step rules w e v → v.reach ≤ w.reach + 1
  reach_next w v e i (submit n c member own) = omega arith
  reach_next w v e i (deliver j l x out at receives) = omega arith
  reach_next w v e i (wake n member) = omega arith
  reach_next w v e i (nudge n member) = omega arith
  reach_next w v e i (propose n member) = omega arith
  reach_next w v e i (perform n member) = performed_next rules w n (next_decided (node w.cluster n).replica) (within_reach laws rules w i n)
  reach_next w v e i (restart n member) = omega arith

  -- so it is no more than the count of events
  pub reach_taken : InEvery rules (λ w. w.reach ≤ w.taken)
  reach_taken = in_every laws rules (λ w. w.reach ≤ w.taken) (λ members. omega arith)
      (λ w v e i s low. let next = reach_next w v e i s in let count = counts laws rules w v e s in omega arith)

  abbrev Near : World Op Reply → ℕ → Command Op → Type 0
  Near w s c = s ≤ w.reach + 64

  proposes_near : (w : World Op Reply) → IsWorld rules w → (e : Event Op) → ProposesOnly (Near w) w e
  proposes_near w i (events.Submit n c) = tt
  proposes_near w i (events.Deliver j) = tt
  proposes_near w i (events.Wake n) = tt
  proposes_near w i (events.Nudge n) = tt
  proposes_near w i (events.Propose n) = λ s c e.
      let within = (next_open (node w.cluster n).replica s c e).within in
      let low = within_reach laws rules w i n in
      omega arith
  proposes_near w i (events.Perform n) = tt
  proposes_near w i (events.Restart n) = tt

  -- each slot that is mentioned is at most 64 past the reach
  pub slots_near : InEvery rules (λ w. Mentions (λ s c. s ≤ w.reach + 64) w.cluster)
  slots_near = in_every laws rules (λ w. Mentions (Near w) w.cluster)
      (λ members. record {
        nodes = λ n. subst (MentionsNode (Near (opening members))) (sym (opened_at members n)) (new_of (Near (opening members)) members n);
        letters = tt;
      })
      (λ w v e i s f.
      let grows = reach_grows rules w v e s in
      mentions_weaker (Near w) (Near v) (λ t c h. omega arith) v.cluster
      (mentions_step laws rules (Near w) w v e (reachable_sound laws rules w i.reachable) s (proposes_near w i e) f))
