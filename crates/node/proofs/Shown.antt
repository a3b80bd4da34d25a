-- A node does what each node does that it shows.
use Rattle.std.proofs.Common.{◌≡◌, ℕ, ◌+◌, ◌<◌, ◌^◌, ◌++◌, List, Option, Some, None, refl, sym, ap, ◌∙◌, subst}
use Rattle.std.specs.FinMap.{get}
use Rattle.object.specs.declared.command.Command.{Command}
use Rattle.object.specs.Objects.{Rules, is_one}
use Rattle.object.specs.Obeying.{answers_after}
use Rattle.ballot.specs.Letters.{all_to_all}
use Rattle.ballot.specs.declared.letter.LetterBody.{LetterBody}
use Rattle.ballot.specs.declared.letter.LetterBody.TheVariants.{P1a, P1b, P2a, P2b, Propose, Decision, Ask}
use Rattle.leader.specs.Leaders.{new_leader, woken, says_again}
use Rattle.slot_log.specs.Requests.{requested}
use Rattle.slot_log.specs.Proposals.{next_proposal, proposed_next}
use Rattle.slot_log.specs.Decisions.{next_decided}
use Rattle.slot_log.specs.Advances.{advanced}
use Rattle.replica.specs.Replicas.{proposes_first, nudges}
use Rattle.slot_log.specs.Histories.{history}
use Rattle.node.specs.Nodes.{NodeState}
use Rattle.node.specs.Deeds.{acted, performing, performs, done_if, outcome_of, IsAble}
use Rattle.node.specs.Receiving.{IsFit, ShowsNode}
use Rattle.node.specs.Turns.{IsSameTurn}
use Rattle.node.specs.declared.deed.Deed.{Deed}
use Rattle.node.specs.declared.deed.Deed.TheVariants as deeds

module _ {O Op Reply : Type 0} (rules : Rules O Op Reply) (members : List ℕ) (n : ℕ) {kept x : NodeState (Command Op)} (shows : ShowsNode kept x) where
  performing_shown : (o : Option (Command Op)) → IsSameTurn (performing rules kept o) (performing rules x o)
  performing_shown None = record { state = shows; sent = refl; answers = refl }
  performing_shown (Some c) = record {
    state = record { acceptor = shows.acceptor; boot = shows.boot; leader = shows.leader; replica = ap (advanced (is_one rules)) shows.replica };
    sent = refl;
    answers = ap (λ b. answers_after rules (history b) c) shows.replica;
  }

  pub acted_shown : (d : Deed Op) → IsSameTurn (acted rules members n kept d) (acted rules members n x d)
  acted_shown (deeds.Request c) = record {
    state = record { acceptor = shows.acceptor; boot = shows.boot; leader = shows.leader; replica = ap (λ b. requested (is_one rules) b c) shows.replica };
    sent = refl;
    answers = refl;
  }
  acted_shown deeds.Wake = record {
    state = record { acceptor = shows.acceptor; boot = shows.boot; leader = ap (λ l. (woken l).state) shows.leader; replica = shows.replica };
    sent = ap (λ l. all_to_all members n (woken l).says) shows.leader;
    answers = refl;
  }
  acted_shown deeds.Nudge = record {
    state = shows;
    sent = λ i. all_to_all members n (says_again (shows.leader i)) ++ nudges members n (shows.replica i);
    answers = refl;
  }
  acted_shown deeds.Propose = record {
    state = record { acceptor = shows.acceptor; boot = shows.boot; leader = shows.leader; replica = ap proposed_next shows.replica };
    sent = ap (λ b. all_to_all members n (proposes_first (next_proposal b))) shows.replica;
    answers = refl;
  }
  acted_shown deeds.Perform =
      subst (λ o. IsSameTurn (performing rules kept o) (performing rules x (next_decided x.replica)))
      (sym (ap next_decided shows.replica)) (performing_shown (next_decided x.replica))
  acted_shown deeds.Restart = record {
    state = record {
      acceptor = shows.acceptor;
      boot = ap (λ b. b + 1) shows.boot;
      leader = ap (λ b. new_leader members n (b + 1)) shows.boot;
      replica = refl;
    };
    sent = refl;
    answers = refl;
  }

-- it is able to do what they are able to do
pub able_shown : {Op C : Type 0} {kept x : NodeState C} → ShowsNode kept x → (d : Deed Op) → IsAble x d → IsAble kept d
able_shown shows (deeds.Request c) able = tt
able_shown shows deeds.Wake able = tt
able_shown shows deeds.Nudge able = tt
able_shown shows deeds.Propose able = tt
able_shown shows deeds.Perform able = tt
able_shown shows deeds.Restart able = subst (λ b. b < 2 ^ 62) (sym shows.boot) able

-- the same comes of it
pub outcome_shown : {Op : Type 0} {kept x : NodeState (Command Op)} → ShowsNode kept x → (d : Deed Op) → outcome_of kept d ≡ outcome_of x d
outcome_shown shows (deeds.Request c) = refl
outcome_shown shows deeds.Wake = refl
outcome_shown shows deeds.Nudge = refl
outcome_shown shows deeds.Propose = ap (λ b. done_if (next_proposal b)) shows.replica
outcome_shown shows deeds.Perform = ap (λ b. performs b (next_decided b)) shows.replica
outcome_shown shows deeds.Restart = refl

-- and it may receive what they may receive
pub fit_shown : {C : Type 0} {kept x : NodeState C} → ShowsNode kept x → (body : LetterBody C) → IsFit x body → IsFit kept body
fit_shown shows (P1a b) fit = tt
fit_shown shows (P1b b report) fit = fit
fit_shown shows (P2a p) fit = tt
fit_shown shows (P2b o s by) fit = fit
fit_shown shows (Propose s c) fit = tt
fit_shown shows (Decision s c) fit = λ d e. fit d (ap (λ b. get b.decisions s) (sym shows.replica) ∙ e)
fit_shown shows (Ask s) fit = tt
