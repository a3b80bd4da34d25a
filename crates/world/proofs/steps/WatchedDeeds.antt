-- What a node does beside which all that was accepted is kept.
use Rattle.std.proofs.Common.{◌≡◌, ℕ, List, Option, Some, None, refl, sym, ap, ◌∙◌, subst}
use Rattle.std.specs.Prelude.{◌++◌, Result, Ok, Err, OnOk, OnErr}
use Rattle.object.specs.declared.command.Answer.{Answer}
use Rattle.object.specs.declared.command.Command.{Command}
use Rattle.object.specs.Objects.{Rules}
use Rattle.ballot.specs.declared.letter.Letter.{Letter}
use Rattle.ballot.specs.declared.pvalue.Pvalue.{Pvalue}
use Rattle.slot_log.specs.Decisions.{next_decided}
use Rattle.node.specs.Nodes.{NodeState, members_of, number_of}
use Rattle.node.specs.Deeds.{acted, own_turn, performing, outcome_of, IsAble, ComesToNothing}
use Rattle.node.specs.Receiving.{ShowsNode}
use Rattle.node.specs.declared.deed.Deed.{Deed}
use Rattle.node.specs.declared.deed.Deed.TheVariants as deeds
use Rattle.node.specs.declared.deed.Outcome.{Outcome}
use Rattle.world.specs.Kept.{with_accepted}
use Rattle.world.proofs.steps.Watching.{still_shows}

-- A node beside which all that was accepted is kept does what it does without that.
module _ {O Op Reply : Type 0} (rules : Rules O Op Reply) (members : List ℕ) (n : ℕ) (nd : NodeState (Command Op)) (all : List (Pvalue (Command Op))) where
  performing_state : (o : Option (Command Op)) → with_accepted (performing rules nd o).state all ≡ (performing rules (with_accepted nd all) o).state
  performing_state None = refl
  performing_state (Some c) = refl

  performing_sent : (o : Option (Command Op)) → (performing rules nd o).sent ≡ (performing rules (with_accepted nd all) o).sent
  performing_sent None = refl
  performing_sent (Some c) = refl

  performing_answers : (o : Option (Command Op)) → (performing rules nd o).answers ≡ (performing rules (with_accepted nd all) o).answers
  performing_answers None = refl
  performing_answers (Some c) = refl

  pub same_state : (d : Deed Op) → with_accepted (acted rules members n nd d).state all ≡ (acted rules members n (with_accepted nd all) d).state
  same_state (deeds.Request c) = refl
  same_state deeds.Wake = refl
  same_state deeds.Nudge = refl
  same_state deeds.Propose = refl
  same_state deeds.Perform = performing_state (next_decided nd.replica)
  same_state deeds.Restart = refl

  pub same_sent : (d : Deed Op) → (acted rules members n nd d).sent ≡ (acted rules members n (with_accepted nd all) d).sent
  same_sent (deeds.Request c) = refl
  same_sent deeds.Wake = refl
  same_sent deeds.Nudge = refl
  same_sent deeds.Propose = refl
  same_sent deeds.Perform = performing_sent (next_decided nd.replica)
  same_sent deeds.Restart = refl

  pub same_answers : (d : Deed Op) → (acted rules members n nd d).answers ≡ (acted rules members n (with_accepted nd all) d).answers
  same_answers (deeds.Request c) = refl
  same_answers deeds.Wake = refl
  same_answers deeds.Nudge = refl
  same_answers deeds.Propose = refl
  same_answers deeds.Perform = performing_answers (next_decided nd.replica)
  same_answers deeds.Restart = refl

  pub same_outcome : (d : Deed Op) → outcome_of nd d ≡ outcome_of (with_accepted nd all) d
  same_outcome (deeds.Request c) = refl
  same_outcome deeds.Wake = refl
  same_outcome deeds.Nudge = refl
  same_outcome deeds.Propose = refl
  same_outcome deeds.Perform = refl
  same_outcome deeds.Restart = refl

  performing_acceptor : (o : Option (Command Op)) → (performing rules nd o).state.acceptor ≡ nd.acceptor
  performing_acceptor None = refl
  performing_acceptor (Some c) = refl

  -- no deed is the acceptor's
  same_acceptor : (d : Deed Op) → (acted rules members n nd d).state.acceptor ≡ nd.acceptor
  same_acceptor (deeds.Request c) = refl
  same_acceptor deeds.Wake = refl
  same_acceptor deeds.Nudge = refl
  same_acceptor deeds.Propose = refl
  same_acceptor deeds.Perform = performing_acceptor (next_decided nd.replica)
  same_acceptor deeds.Restart = refl

-- what is watched is shown after it did something
acted_shows : {O Op Reply : Type 0} (rules : Rules O Op Reply) (nd z : NodeState (Command Op))
    (all : List (Pvalue (Command Op))) (d : Deed Op) → z ≡ (own_turn rules nd d).state
    → ShowsNode nd (with_accepted nd all) → ShowsNode z (with_accepted z all)
acted_shows rules nd z all d new shows = still_shows nd z all (ap (λ y. y.acceptor) new ∙ same_acceptor rules (members_of nd) (number_of nd) nd all d) shows

able : {Op C : Type 0} (nd : NodeState C) (all : List (Pvalue C)) (d : Deed Op) → IsAble (with_accepted nd all) d → IsAble nd d
able nd all (deeds.Request c) h = tt
able nd all deeds.Wake h = tt
able nd all deeds.Nudge h = tt
able nd all deeds.Propose h = tt
able nd all deeds.Perform h = tt
able nd all deeds.Restart h = h

nothing : {O Op Reply : Type 0} (rules : Rules O Op Reply) (nd : NodeState (Command Op))
    (all : List (Pvalue (Command Op))) (d : Deed Op) → ComesToNothing rules (with_accepted nd all) d
    → ComesToNothing rules nd d
nothing rules nd all (deeds.Request c) h = h
nothing rules nd all deeds.Wake h = h
nothing rules nd all deeds.Nudge h = h
nothing rules nd all deeds.Propose h = h
nothing rules nd all deeds.Perform h = h
nothing rules nd all deeds.Restart h = h

-- Node nd, which is watched as k, did something and became z.
module _ {O Op Reply : Type 0} (rules : Rules O Op Reply) (nd z k : NodeState (Command Op))
    (all : List (Pvalue (Command Op))) (is : with_accepted nd all ≡ k) (d : Deed Op) where
  pub watched_able : IsAble k d → IsAble nd d
  watched_able h = able nd all d (subst (λ x. IsAble x d) (sym is) h)

  pub watched_nothing : ComesToNothing rules k d → ComesToNothing rules nd d
  watched_nothing h = nothing rules nd all d (subst (λ x. ComesToNothing rules x d) (sym is) h)

  pub watched_state : z ≡ (own_turn rules nd d).state → with_accepted z all ≡ (own_turn rules k d).state
  watched_state new = ap (λ y. with_accepted y all) new ∙ same_state rules (members_of nd) (number_of nd) nd all d ∙ ap (λ x. (own_turn rules x d).state) is

  pub watched_sent : (before now : List (Letter (Command Op))) → now ≡ before ++ (own_turn rules nd d).sent → now ≡ before ++ (own_turn rules k d).sent
  watched_sent before now sent = sent ∙ ap (λ l. before ++ l) (same_sent rules (members_of nd) (number_of nd) nd all d ∙ ap (λ x. (own_turn rules x d).sent) is)

  pub watched_answers : (before now : List (Answer Reply)) → now ≡ before ++ (own_turn rules nd d).answers → now ≡ before ++ (own_turn rules k d).answers
  watched_answers before now given =
      given ∙ ap (λ l. before ++ l) (same_answers rules (members_of nd) (number_of nd) nd all d ∙ ap
      (λ x. (own_turn rules x d).answers) is)

  pub watched_outcome : (came : Outcome) → came ≡ outcome_of nd d → came ≡ outcome_of k d
  watched_outcome came out = out ∙ same_outcome rules (members_of nd) (number_of nd) nd all d ∙ ap (λ x. outcome_of x d) is

  pub watched_still : z ≡ nd → with_accepted z all ≡ k
  watched_still same = ap (λ y. with_accepted y all) same ∙ is

  -- whether it could or not
  pub watched_shown : {T E : Type 0} (r : Result T E) → OnOk r (z ≡ (own_turn rules nd d).state) → OnErr r (z ≡ nd)
      → ShowsNode nd (with_accepted nd all) → ShowsNode z (with_accepted z all)
  watched_shown (Ok x) new same shows = acted_shows rules nd z all d new shows
  watched_shown (Err e) new same shows = still_shows nd z all (ap (λ y. y.acceptor) same) shows
