-- A node that is watched: with all that its acceptor accepted beside it.
use Rattle.std.proofs.Common.{◌≡◌, ◌∙◌, ℕ, Bool, true, false, cond, List, [], ◌∷◌, ◌++◌, Some, None, Option, refl, sym, ap, subst}
use Rattle.std.specs.Option.{option_to_list}
use Rattle.std.proofs.lemmas.List.{append-nil}
use Rattle.ballot.specs.Ballots.{is_promise}
use Rattle.ballot.specs.declared.pvalue.Pvalue.{Pvalue}
use Rattle.ballot.specs.declared.letter.LetterBody.{LetterBody}
use Rattle.ballot.specs.declared.letter.Letter.{Letter}
use Rattle.acceptor.specs.Acceptors.{Acceptances, Keeps, new_acceptor}
use Rattle.node.specs.Nodes.{NodeState}
use Rattle.node.specs.Receiving.{Receives, promises_ballot, accepts_pvalue, hears_promise, hears_vote, hears_proposal}
use Rattle.node.specs.Receiving.{learns, tells_decisions, ShowsNode, Received, ShowsReceived}
use Rattle.world.specs.Kept.{with_accepted, accepts_of}

accepted_if : {C : Type 0} (all : List (Pvalue C)) (p : Pvalue C) (test : Bool)
    → cond test (all ++ (p ∷ [])) all ≡ all ++ option_to_list (cond test (Some p) None)
accepted_if all p true = refl
accepted_if all p false = sym (append-nil all)

-- what was accepted grows by what the body gives
accepted_after : {C : Type 0} (members : List ℕ) (m n : ℕ) (x y : NodeState C) (body : LetterBody C)
    (sent : List (Letter C)) → Receives members m n x body y sent
    → y.acceptor.accepted ≡ x.acceptor.accepted ++ option_to_list (accepts_of x.acceptor body)
accepted_after members m n x y body sent (promises_ballot b report is) = sym (append-nil x.acceptor.accepted)
accepted_after members m n x y body sent (accepts_pvalue p) = accepted_if x.acceptor.accepted p (is_promise x.acceptor.promised p.ballot)
accepted_after members m n x y body sent (hears_promise b report fresh taken may) = sym (append-nil x.acceptor.accepted)
accepted_after members m n x y body sent (hears_vote b s by) = sym (append-nil x.acceptor.accepted)
accepted_after members m n x y body sent (hears_proposal s c) = sym (append-nil x.acceptor.accepted)
accepted_after members m n x y body sent (learns s c) = sym (append-nil x.acceptor.accepted)
accepted_after members m n x y body sent (tells_decisions s) = sym (append-nil x.acceptor.accepted)

-- an acceptor that heard nothing
pub still_shows : {C : Type 0} (nd z : NodeState C) (all : List (Pvalue C)) → z.acceptor ≡ nd.acceptor
    → ShowsNode nd (with_accepted nd all) → ShowsNode z (with_accepted z all)
still_shows nd z all same shows = record {
  acceptor = subst (λ a. Keeps (record { promised = a.promised; accepted = all }) a) (sym same) shows.acceptor;
  boot = refl;
  leader = refl;
  replica = refl;
}

-- the same node once more
pub same_shows : {C : Type 0} (nd z : NodeState C) (all again : List (Pvalue C)) → z ≡ nd → again ≡ all
    → ShowsNode nd (with_accepted nd all) → ShowsNode z (with_accepted z again)
same_shows nd z all again same kept shows =
    subst (λ l. ShowsNode z (with_accepted z l)) (sym kept)
    (subst (λ x. ShowsNode x (with_accepted x all)) (sym same) shows)

-- a node to which nothing happened yet
pub new_shows : {C : Type 0} (nd : NodeState C) (all : List (Pvalue C)) → nd.acceptor ≡ new_acceptor → all ≡ [] → ShowsNode nd (with_accepted nd all)
new_shows {C} nd all new none = record {
  acceptor = subst (λ (a : Acceptances C). Keeps (record { promised = a.promised; accepted = all }) a) (sym new)
      (subst (λ (l : List (Pvalue C)). Keeps (record { promised = None; accepted = l }) new_acceptor) (sym none)
      (record { promised = refl; accepted = record { part = λ p i. i; greatest = λ p i. absurd i } }));
  boot = refl;
  leader = refl;
  replica = refl;
}

module _ {C : Type 0} (m : ℕ) (nd z k : NodeState C) (all room now : List (Pvalue C)) (is : with_accepted nd all ≡ k)
    (same : room ≡ all) (body : LetterBody C) (more : Option (Pvalue C)) (gives : more ≡ accepts_of k.acceptor body)
    (grown : now ≡ room ++ option_to_list more) (before after : List (Letter C))
    (received : ShowsReceived m nd body z before after) (shows : ShowsNode nd (with_accepted nd all)) where
  -- what the watched node became
  became : (y : NodeState C) → ShowsNode z y → Received m (with_accepted nd all) body y before after → y ≡ with_accepted z now
  became y shown r = λ i. record {
    acceptor = record { promised = sym shown.acceptor.promised i; accepted = accepted i };
    boot = sym shown.boot i;
    leader = sym shown.leader i;
    replica = sym shown.replica i;
  }
    where
      accepted : y.acceptor.accepted ≡ now
      accepted = accepted_after _ m _ (with_accepted nd all) y body r.0 r.1 ∙ sym
          (grown ∙ ap (λ o. room ++ option_to_list o) (gives ∙ ap (λ y. accepts_of y.acceptor body) (sym is)) ∙ ap
          (λ l. l ++ option_to_list (accepts_of (with_accepted nd all).acceptor body)) same)

  pub watched_received : Received m k body (with_accepted z now) before after
  watched_received =
      let r = received (with_accepted nd all) shows in
      subst (λ x. Received m x body (with_accepted z now) before after) is
      (subst (λ y. Received m (with_accepted nd all) body y before after) (became r.0 r.1 r.2) r.2)

  pub watched_shows : ShowsNode z (with_accepted z now)
  watched_shows = let r = received (with_accepted nd all) shows in subst (ShowsNode z) (became r.0 r.1 r.2) r.1
