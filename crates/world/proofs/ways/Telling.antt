-- Each slot that a world mentions, and each below it, was proposed to node 1.
use Rattle.std.proofs.Common.{◌≡◌, inl, ⊎_elim, ℕ, ◌<◌, ◌≤◌, true, List, Some, refl, sym, subst, arith}
use Rattle.std.specs.Prelude.{IsSome}
use Rattle.std.specs.FinMap.{get}
use Rattle.std.proofs.lemmas.Bool.{cases_lt}
use Rattle.std.proofs.lemmas.Bool.Decides.{nat_tests}
use Rattle.object.specs.ListLaws.{In-right}
use Rattle.object.specs.Lists.{In}
use Rattle.object.specs.Objects.{Rules}
use Rattle.object.specs.declared.command.Command.{Command}
use Rattle.ballot.specs.Letters.{letter, all_to_all}
use Rattle.ballot.specs.Members.{is_member}
use Rattle.ballot.specs.OrderLaws.{BallotLaws}
use Rattle.ballot.specs.declared.letter.LetterBody.TheVariants.{Propose}
use Rattle.leader.proofs.Outcomes.{some_there}
use Rattle.replica.specs.Replicas.{proposes_first}
use Rattle.slot_log.specs.Proposals.{next_proposal, proposed_next}
use Rattle.agreement.specs.Mentions.{Mentions, MentionsNode, ProposesOnly}
use Rattle.agreement.specs.Nodes.{Cluster, node}
use Rattle.agreement.specs.Runs.{InEvery, IsWorld}
use Rattle.agreement.specs.Steps.{Step, submit, deliver, wake, nudge, propose, perform, restart, replica_turn}
use Rattle.agreement.specs.Worlds.{World, opening}
use Rattle.agreement.specs.declared.event.Event.{Event}
use Rattle.agreement.proofs.books.LeadingRuns.{in_every}
use Rattle.agreement.proofs.books.Mentions.{new_of}
use Rattle.agreement.proofs.books.MentionsEvery.{mentions_step, mentions_weaker, next_open}
use Rattle.agreement.proofs.books.SlotBooksEvery.{books}
use Rattle.agreement.proofs.chosen.Grows.{Grows}
use Rattle.agreement.proofs.chosen.Reach.{opened_at, step_sound, reachable_sound}
use Rattle.agreement.proofs.chosen.Sets.{member_bounds}
use Rattle.world.specs.Telling.{IsProposedAt}
use Rattle.world.proofs.leading.LeadingEvery.{In-to_each}

-- for each slot up to this one a letter proposed some command to node 1
abbrev pub IsProposedUpto : {C : Type 0} → Cluster C → ℕ → Type 0
IsProposedUpto k t = (s : ℕ) → 0 < s → s ≤ t → IsProposedAt k s

-- node 1 is a member where any is
first_member : (ws : List ℕ) (n : ℕ) → is_member ws n ≡ true → is_member ws 1 ≡ true
first_member ws n member = let b = member_bounds ws n member in let low = b.0 in let high = b.1 in grind (arith, nat_tests)

proposed_stays : {C : Type 0} (k z : Cluster C) → Grows k z → (s : ℕ) → IsProposedAt k s → IsProposedAt z s
proposed_stays k z g s p = record { letter = p.letter; command = p.command; sent = g.letters p.letter p.sent; to = p.to; body = p.body }

-- a proposal goes to node 1 as to all
now_proposed : {C : Type 0} (k : Cluster C) (n : ℕ) → is_member k.members n ≡ true → (s : ℕ) (c : C)
    → next_proposal (node k n).replica ≡ Some (s, c)
    → IsProposedAt (replica_turn k n (proposed_next (node k n).replica) (all_to_all k.members n (proposes_first (next_proposal (node k n).replica)))) s
now_proposed k n member s c is = record {
  letter = letter n (Propose s c) 1;
  command = c;
  sent = In-right _ k.letters _ (In-to_each k.members n (proposes_first (next_proposal (node k n).replica))
      (Propose s c) 1 (first_member k.members n member)
      (subst (λ o. In (Propose s c) (proposes_first o)) (sym is) (inl refl)));
  to = refl;
  body = refl;
}

module _ (laws : BallotLaws) {O Op Reply : Type 0} (rules : Rules O Op Reply) where
  abbrev Told : World Op Reply → ℕ → Command Op → Type 0
  Told w s c = IsProposedUpto w.cluster s

  -- so was each slot before the one in which a replica proposes next: it knows a decision there, or proposed something
  told_before : (w : World Op Reply) → IsWorld rules w → Mentions (Told w) w.cluster → (n s : ℕ) (c : Command Op)
      → next_proposal (node w.cluster n).replica ≡ Some (s, c) → (t : ℕ) → 0 < t → t < s → IsProposedAt w.cluster t
  told_before w i f n s c is t low under =
      let book = (node w.cluster n).replica in
      let booked = books laws rules w i n in
      ⊎_elim
      (λ (known : IsSome (get book.decisions t)). let d = some_there (get book.decisions t) known in
      (f.nodes n).replica.decisions t d.0 d.1 t low (omega arith))
      (λ (proposed : IsSome (get book.proposals t)). let d = some_there (get book.proposals t) proposed in
      (f.nodes n).replica.proposals t d.0 d.1 t low (omega arith))
      (⊎_elim
      (λ (past : t < book.slot_out). inl (booked.performed.known t low past))
      (λ (ahead : book.slot_out ≤ t). ⊎_elim
      (λ (before : t < book.slot_in). booked.filled t ahead before)
      (λ (on : book.slot_in ≤ t). inl ((next_open book s c is).least t on under))
      (cases_lt t book.slot_in))
      (cases_lt t book.slot_out))

  proposes_told : (w v : World Op Reply) (e : Event Op) → IsWorld rules w → Mentions (Told w) w.cluster → Grows w.cluster v.cluster
      → Step rules w e v → ProposesOnly (Told v) w e
  proposes_told w v e i f g (submit n c member own) = tt
  proposes_told w v e i f g (deliver j l x out at receives) = tt
  proposes_told w v e i f g (wake n member) = tt
  proposes_told w v e i f g (nudge n member) = tt
  proposes_told w v e i f g (propose n member) = λ s c is t low upto. ⊎_elim
      (λ (under : t < s). proposed_stays w.cluster v.cluster g t (told_before w i f n s c is t low under))
      (λ (last : s ≤ t). subst (IsProposedAt v.cluster) (omega arith) (now_proposed w.cluster n member s c is))
      (cases_lt t s)
  proposes_told w v e i f g (perform n member) = tt
  proposes_told w v e i f g (restart n member) = tt

  pub told : InEvery rules (λ w. Mentions (λ s c. IsProposedUpto w.cluster s) w.cluster)
  told = in_every laws rules (λ w. Mentions (Told w) w.cluster)
      (λ members. record {
        nodes = λ n. subst (MentionsNode (Told (opening members))) (sym (opened_at members n)) (new_of (Told (opening members)) members n);
        letters = tt;
      })
      (λ w v e i step f.
      let sound = reachable_sound laws rules w i.reachable in
      let g = (step_sound laws rules w e v sound step).grows in
      mentions_step laws rules (Told v) w v e sound step (proposes_told w v e i f g step)
      (mentions_weaker (Told w) (Told v) (λ s c upto t low within. proposed_stays w.cluster v.cluster g t (upto t low within)) w.cluster f))

  -- so each slot up to one that a leader proposes
  pub told_by_leader : InEvery rules (λ w. (n t : ℕ) (c : Command Op) → get (node w.cluster n).leader.proposals t ≡ Some c → IsProposedUpto w.cluster t)
  told_by_leader w i n t c e = ((told w i).nodes n).leader.proposals t c e

  -- that a replica proposed
  pub told_by_proposal : InEvery rules (λ w. (n t : ℕ) (c : Command Op) → get (node w.cluster n).replica.proposals t ≡ Some c → IsProposedUpto w.cluster t)
  told_by_proposal w i n t c e = ((told w i).nodes n).replica.proposals t c e

  -- and that a replica knows to be decided
  pub told_by_decision : InEvery rules (λ w. (n t : ℕ) (c : Command Op) → get (node w.cluster n).replica.decisions t ≡ Some c → IsProposedUpto w.cluster t)
  told_by_decision w i n t c e = ((told w i).nodes n).replica.decisions t c e
