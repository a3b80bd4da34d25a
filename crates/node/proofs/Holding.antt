-- A node that forgets nothing does by its object what its slots tell.
use Rattle.std.proofs.Common.{◌≡◌, ℕ, List, [], ◌∷◌, ◌++◌, Some, None, Option, refl, sym, ap, ◌∙◌, subst}
use Rattle.std.proofs.Common.{cond}
use Rattle.std.specs.Prelude.{Result, Ok, Err, IfOk, OnOk, OnErr}
use Rattle.object.specs.declared.command.Command.{Command}
use Rattle.object.specs.declared.once.Effect.TheVariants as effects
use Rattle.object.specs.FilterLaws.{FilterLaws, answers_obeyed, later_obeyed}
use Rattle.object.specs.Objects.{Rules, is_one}
use Rattle.object.specs.OnceOnly.{Filtered, filtered_answers, is_later}
use Rattle.ballot.specs.OrderLaws.{BallotLaws}
use Rattle.ballot.specs.declared.letter.Letter.{Letter}
use Rattle.ballot.specs.declared.letter.LetterBody.{LetterBody}
use Rattle.slot_log.specs.Books.{SlotBook}
use Rattle.slot_log.specs.Decisions.{next_decided}
use Rattle.slot_log.specs.Histories.{history}
use Rattle.slot_log.specs.Proposals.{next_proposal}
use Rattle.node.specs.Nodes.{NodeState, members_of, number_of}
use Rattle.node.specs.Deeds.{Turn, acted, performing, performs, outcome_of}
use Rattle.node.specs.Holding.{Holding, HeldTurn, performing_held, performs_held, turned_held, outcome_held, new_object}
use Rattle.node.specs.Kept.{ObeysBook}
use Rattle.node.specs.Receiving.{IsFit, Receives, ShowsReceived, ShowsNode, promises_ballot, accepts_pvalue, hears_promise, hears_vote, hears_proposal}
use Rattle.node.specs.Receiving.{learns, tells_decisions}
use Rattle.node.specs.declared.deed.Deed.{Deed}
use Rattle.node.specs.declared.deed.Deed.TheVariants as deeds
use Rattle.node.specs.declared.deed.Outcome.TheVariants as outcomes
use Rattle.node.proofs.Keeping.{keeps_all, kept_new, kept_requested, kept_proposed, kept_performed, kept_learnt}

module _ {O Op Reply : Type 0} (laws : FilterLaws Op) (rules : Rules O Op Reply) (h : Holding Op O)
    (kept : ObeysBook rules h.object h.state.replica) where
  performing_state : (o : Option (Command Op)) → (performing_held rules h o).state.state ≡ (performing rules h.state o).state
  performing_state None = refl
  performing_state (Some c) = refl

  performing_sent : (o : Option (Command Op)) → (performing_held rules h o).sent ≡ (performing rules h.state o).sent
  performing_sent None = refl
  performing_sent (Some c) = refl

  performing_answers : (o : Option (Command Op)) → (performing_held rules h o).answers ≡ (performing rules h.state o).answers
  performing_answers None = refl
  performing_answers (Some c) =
      ap (λ o. filtered_answers rules.answers o c) kept.obeys ∙ answers_obeyed laws rules (history h.state.replica) c

  performing_outcome : (o : Option (Command Op)) → performs_held h o ≡ performs h.state.replica o
  performing_outcome None = refl
  performing_outcome (Some c) =
      let later = ap (λ o. is_later c.key o.latest) kept.obeys ∙ later_obeyed laws rules (history h.state.replica) c in
      λ i. outcomes.Performed (record {
        slot = h.state.replica.slot_out;
        key = c.key;
        effect = ap (λ b. cond b effects.Done effects.Stale) later i;
      })

  performing_obeys : (o : Option (Command Op)) → next_decided h.state.replica ≡ o
      → ObeysBook rules (performing_held rules h o).state.object (performing_held rules h o).state.state.replica
  performing_obeys None e = kept
  performing_obeys (Some c) e = kept_performed rules (is_one rules) h.object h.state.replica c kept e

  module _ (members : List ℕ) (n : ℕ) where
    pub turned_state : (d : Deed Op) → (turned_held rules members n h d).state.state ≡ (acted rules members n h.state d).state
    turned_state (deeds.Request c) = refl
    turned_state deeds.Wake = refl
    turned_state deeds.Nudge = refl
    turned_state deeds.Propose = refl
    turned_state deeds.Perform = performing_state (next_decided h.state.replica)
    turned_state deeds.Restart = refl

    pub turned_sent : (d : Deed Op) → (turned_held rules members n h d).sent ≡ (acted rules members n h.state d).sent
    turned_sent (deeds.Request c) = refl
    turned_sent deeds.Wake = refl
    turned_sent deeds.Nudge = refl
    turned_sent deeds.Propose = refl
    turned_sent deeds.Perform = performing_sent (next_decided h.state.replica)
    turned_sent deeds.Restart = refl

    pub turned_answers : (d : Deed Op) → (turned_held rules members n h d).answers ≡ (acted rules members n h.state d).answers
    turned_answers (deeds.Request c) = refl
    turned_answers deeds.Wake = refl
    turned_answers deeds.Nudge = refl
    turned_answers deeds.Propose = refl
    turned_answers deeds.Perform = performing_answers (next_decided h.state.replica)
    turned_answers deeds.Restart = refl

    pub turned_outcome : (d : Deed Op) → outcome_held h d ≡ outcome_of h.state d
    turned_outcome (deeds.Request c) = refl
    turned_outcome deeds.Wake = refl
    turned_outcome deeds.Nudge = refl
    turned_outcome deeds.Propose = refl
    turned_outcome deeds.Perform = performing_outcome (next_decided h.state.replica)
    turned_outcome deeds.Restart = refl

    pub turned_obeys : (d : Deed Op) → ObeysBook rules (turned_held rules members n h d).state.object (turned_held rules members n h d).state.state.replica
    turned_obeys (deeds.Request c) = kept_requested rules (is_one rules) h.object h.state.replica c kept
    turned_obeys deeds.Wake = kept
    turned_obeys deeds.Nudge = kept
    turned_obeys deeds.Propose = kept_proposed rules h.object h.state.replica (next_proposal h.state.replica) kept
    turned_obeys deeds.Perform = performing_obeys (next_decided h.state.replica) refl
    turned_obeys deeds.Restart = kept_new rules (new_object rules) _ refl refl refl

module _ {O Op Reply : Type 0} (rules : Rules O Op Reply) (object : Filtered O) where
  received_obeys : (members : List ℕ) (m n : ℕ) (x y : NodeState (Command Op)) (body : LetterBody (Command Op)) (sent : List (Letter (Command Op)))
      → Receives members m n x body y sent → IsFit x body → ObeysBook rules object x.replica → ObeysBook rules object y.replica
  received_obeys members m n x _ body _ (promises_ballot b report is) fit kept = kept
  received_obeys members m n x _ body _ (accepts_pvalue p) fit kept = kept
  received_obeys members m n x _ body _ (hears_promise b report fresh taken hears) fit kept = kept
  received_obeys members m n x _ body _ (hears_vote b s by) fit kept = kept
  received_obeys members m n x _ body _ (hears_proposal s c) fit kept = kept
  received_obeys members m n x _ body _ (learns s c) fit kept = kept_learnt rules object x.replica s c kept fit
  received_obeys members m n x _ body _ (tells_decisions s) fit kept = kept

  -- what is received leaves it so
  pub still_obeys : (laws : BallotLaws) (m : ℕ) (old new : NodeState (Command Op)) (body : LetterBody (Command Op))
      (before now : List (Letter (Command Op))) → ShowsReceived m old body new before now → IsFit old body
      → ObeysBook rules object old.replica → ObeysBook rules object new.replica
  still_obeys laws m old new body before now shows fit kept =
      let itself : ShowsNode old old = record { acceptor = keeps_all laws old.acceptor; boot = refl; leader = refl; replica = refl } in
      let became = shows old itself in
      subst (ObeysBook rules object) (sym became.1.replica)
      (received_obeys (members_of old) m (number_of old) old became.0 body became.2.0 became.2.1 fit kept)

-- what follows from a call that succeeded or not
pub either_way : {T E P Q X : Type 0} (r : Result T E) → OnOk r P → OnErr r Q → (P → X) → (Q → X) → X
either_way (Ok x) p q f g = f p
either_way (Err e) p q f g = g q

-- the same, of two clauses of one that succeeded
pub either_way_both : {T E P O Q X : Type 0} (r : Result T E) → OnOk r P → OnOk r O → OnErr r Q → (P → O → X) → (Q → X) → X
either_way_both (Ok x) p o q f g = f p o
either_way_both (Err e) p o q f g = g q
