-- The slot that replica 1 performs next is decided, and replica 1 told of it.
use Rattle.std.proofs.Common.{◌≡◌, ⊎_elim, ℕ, ◌<◌, ◌≤◌, true, Option, None, Some, refl, sym, ap, ◌∙◌, subst, arith}
use Rattle.std.specs.Prelude.{nat_le, IsSome}
use Rattle.std.specs.FinMap.{get, contains_key, insert, get-empty}
use Rattle.std.specs.Ordering.{nat_cmp}
use Rattle.std.proofs.lemmas.Bool.{false≢true, leb-true, le-leb}
use Rattle.object.specs.declared.command.Command.{Command}
use Rattle.object.specs.Objects.{Rules, is_one}
use Rattle.ballot.specs.Letters.{letter}
use Rattle.ballot.specs.Members.{is_member}
use Rattle.ballot.specs.OrderLaws.{BallotLaws}
use Rattle.ballot.specs.declared.letter.LetterBody.TheVariants.{Decision}
use Rattle.leader.proofs.Outcomes.{some_there}
use Rattle.node.specs.SlotLaws.{get_insert_same}
use Rattle.slot_log.specs.Books.{SlotBook}
use Rattle.slot_log.specs.Proposals.{next_proposal, proposed}
use Rattle.slot_log.specs.Decisions.{learnt as with_decision, next_decided}
use Rattle.slot_log.specs.Advances.{advanced}
use Rattle.agreement.specs.Nodes.{Cluster}
use Rattle.agreement.specs.Worlds.{World}
use Rattle.agreement.specs.Steps.{Step}
use Rattle.agreement.specs.Runs.{IsWorld}
use Rattle.agreement.specs.declared.event.Event.TheVariants as events
use Rattle.world.specs.Telling.{IsProposedAt}
use Rattle.world.specs.WaysOut.{first_leader, first_book, IsAtRest, IsSmall, IsReady, stays as ready_stays}
use Rattle.world.specs.WaysOut.{proposes as ready_proposes, HasDecided, knew, learnt, MentionsAsMuch, Decides}
use Rattle.world.specs.WaysOut.{most_slots}
use Rattle.world.proofs.leading.LeadingEvery.{has_leader}
use Rattle.agreement.proofs.books.MentionsEvery.{mentions_weaker}
use Rattle.world.proofs.rounds.Rounds.{place_of}
use Rattle.world.proofs.rounds.RoundMembers.{HasFirst}
use Rattle.world.proofs.rounds.Stepping.{TurnsBook, turns_book, decision_turned, perform_turned}
use Rattle.world.proofs.ways.Telling.{told_by_leader}

-- slots stay small
pub small_after : {C : Type 0} (k z : Cluster C) (s : ℕ) → MentionsAsMuch k s z → IsSmall k → s ≤ most_slots → IsSmall z
small_after {C} k z s as_much small low =
    mentions_weaker (λ t c. nat_le t most_slots ≡ true) (λ t c. t ≤ most_slots) (λ t c h. leb-true t most_slots h) z
    (as_much (λ t c. nat_le t most_slots) (λ c more requests new. le-leb s most_slots low)
    (mentions_weaker (λ t c. t ≤ most_slots) (λ t c. nat_le t most_slots ≡ true) (λ t c h. le-leb t most_slots h) k small))

-- what replica 1 knows there is what it performs next
proposed_same : {C : Type 0} (book : SlotBook C) (o : Option (ℕ × C)) → (proposed book o).slot_out ≡ book.slot_out
proposed_same book None = refl
proposed_same book (Some p) = refl

pub ready_out : {C : Type 0} (k : Cluster C) (s : ℕ) (book : SlotBook C) → IsReady k s book → book.slot_out ≡ (first_book k).slot_out
ready_out k s book (ready_stays there is) = ap (λ b. b.slot_out) is
ready_out k s book (ready_proposes new is) = ap (λ b. b.slot_out) is ∙ proposed_same (first_book k) (next_proposal (first_book k))

proposed_decisions : {C : Type 0} (book : SlotBook C) (o : Option (ℕ × C)) → (proposed book o).decisions ≡ book.decisions
proposed_decisions book None = refl
proposed_decisions book (Some p) = refl

pub ready_unknown : {C : Type 0} (k : Cluster C) (s : ℕ) (book : SlotBook C) → IsReady k s book
    → get (first_book k).decisions s ≡ None → get book.decisions s ≡ None
ready_unknown k s book (ready_stays there is) none = ap (λ b. get b.decisions s) is ∙ none
ready_unknown k s book (ready_proposes new is) none =
    ap (λ b. get b.decisions s) is ∙ ap (λ m. get m s)
    (proposed_decisions (first_book k) (next_proposal (first_book k))) ∙ none

pub decided_next : {C : Type 0} (k : Cluster C) (s : ℕ) (book : SlotBook C) → HasDecided k s book
    → s ≡ (first_book k).slot_out → (d : C) × (next_decided book ≡ Some d)
decided_next k s book (knew c there is) out = (c, ap next_decided is ∙ ap (get (first_book k).decisions) (sym out) ∙ there)
decided_next k s book (learnt h) out =
    let same : h.before.slot_out ≡ s = ready_out k s h.before h.ready ∙ sym out in
    (h.command, ap next_decided h.learns ∙ ap (get (insert h.before.decisions s h.command)) same ∙ get_insert_same h.before.decisions s h.command)

module _ (laws : BallotLaws) {O Op Reply : Type 0} (rules : Rules O Op Reply) where
  pub ready_led : (w : World Op Reply) → IsWorld rules w → (s : ℕ) → 0 < s → contains_key (first_leader w.cluster).proposals s ≡ true → IsProposedAt w.cluster s
  ready_led w i s some there = let c =
      some_there (get (first_leader w.cluster).proposals s) there in told_by_leader laws rules w i 1 s c.0 c.1 s some
      (omega arith)

  -- a leader at rest has told what became of its proposals
  pub decision_there : {w : World Op Reply} → IsWorld rules w → is_member w.cluster.members 1 ≡ true
      → IsAtRest w.cluster → (s : ℕ) → contains_key (first_leader w.cluster).proposals s ≡ true → (j : ℕ) × Decides w.cluster.letters j s
  decision_there {w = w} i first at_rest s there =
      let c = some_there (get (first_leader w.cluster).proposals s) there in
      ⊎_elim
      (λ (standing : IsSome (get (first_leader w.cluster).commanders s)). absurd (none_standing standing))
      (λ (told : _). let p = place_of w.cluster.letters (letter 1 (Decision s c.0) 1) (told 1 first) in
      (p.0, record { letter = letter 1 (Decision s c.0) 1; command = c.0; at = p.2; to = refl; body = refl }))
      (((has_leader laws rules w i 1 first).active at_rest.active).followed_up s c.0 c.1)
    where
      none_standing : IsSome (get (first_leader w.cluster).commanders s) → ⊥
      none_standing standing = false≢true (subst (λ o. IsSome o) (ap (λ cs. get cs s) at_rest.done ∙ get-empty nat_cmp s) standing)

  module _ {w v : World Op Reply} (h : HasFirst w.cluster) where
    pub learns : {j s : ℕ} (l : Decides w.cluster.letters j s) → Step rules w (events.Deliver j) v
        → TurnsBook w v (with_decision (first_book w.cluster) s l.command)
    learns l step = turns_book laws (decision_turned laws rules w v h l step) refl

    pub performs : {c : Command Op} → next_decided (first_book w.cluster) ≡ Some c → Step rules w (events.Perform 1) v
        → TurnsBook w v (advanced (is_one rules) (first_book w.cluster))
    performs {c = c} known step = turns_book laws (perform_turned laws rules w v h c known step) refl
