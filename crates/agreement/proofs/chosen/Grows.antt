-- What stays true while acceptors promise and accept more, and more letters are sent.
use Rattle.std.proofs.Common.{◌≡◌, ◌⊎◌, inl, inr, ⊎_elim, ℕ, Bool, true, false, List, Some, None, Option, refl, sym, ◌∙◌, subst}
use Rattle.object.specs.Lists.{In}
use Rattle.ballot.specs.Ballots.{Numbers, is_below}
use Rattle.ballot.specs.Members.{is_member, is_majority}
use Rattle.ballot.specs.declared.pvalue.Pvalue.{Pvalue}
use Rattle.ballot.specs.declared.letter.LetterBody.{LetterBody}
use Rattle.ballot.specs.declared.letter.Letter.{Letter}
use Rattle.ballot.specs.declared.letter.LetterBody.TheVariants.{P1a, P1b, P2a, P2b, Propose, Decision, Ask}
use Rattle.acceptor.specs.Acceptors.{Acceptances}
use Rattle.scout_commander.specs.Scouts.{Scouting}
use Rattle.scout_commander.specs.Commanders.{Commanding}
use Rattle.leader.specs.Leaders.{Leading, pvalue}
use Rattle.node.specs.Nodes.{NodeState}
use Rattle.agreement.specs.Nodes.{Cluster, node}
use Rattle.agreement.specs.Chosen.{IsChosenAt, IsChosen}
use Rattle.ballot.specs.OrderLaws.{BallotLaws, IsUpto, IsUnder, not_both}
use Rattle.agreement.proofs.chosen.Invariants.{Asked, IsBlocked, IsSafe, IsPromise, IsVote, IsTrueOf, IsFair}
use Rattle.agreement.proofs.chosen.Invariants.{IsGathering, IsScouting, IsVoting, IsAcceptor, IsLeading, IsNode}

-- no promise was above this ballot
abbrev pub IsLate : Option Numbers → Numbers → Type 0
IsLate o late = (b : Numbers) → IsUpto b o → is_below late b ≡ false

-- a promise rises, and what is accepted later is at no ballot below the promise
pub record AcceptorGrows {C : Type 0} (a z : Acceptances C) : Type 0 where
  pub promised : (b : Numbers) → IsUpto b a.promised → IsUpto b z.promised
  pub under : (b : Numbers) → IsUnder b a.promised → IsUnder b z.promised
  pub accepted : (p : Pvalue C) → In p a.accepted → In p z.accepted
  pub new : (p : Pvalue C) → In p z.accepted → In p a.accepted ⊎ IsLate a.promised p.ballot

pub stays : {C : Type 0} (a : Acceptances C) → AcceptorGrows a a
stays a = record { promised = λ b h. h; under = λ b h. h; accepted = λ p i. i; new = λ p i. inl i }

pub record Grows {C : Type 0} (k z : Cluster C) : Type 0 where
  pub members : z.members ≡ k.members
  pub letters : (l : Letter C) → In l k.letters → In l z.letters
  pub acceptors : (m : ℕ) → AcceptorGrows (node k m).acceptor (node z m).acceptor

pub grows_itself : {C : Type 0} (k : Cluster C) → Grows k k
grows_itself k = record { members = refl; letters = λ l i. i; acceptors = λ m. stays (node k m).acceptor }

acceptor_trans : {C : Type 0} (a b c : Acceptances C) → AcceptorGrows a b → AcceptorGrows b c → AcceptorGrows a c
acceptor_trans a b c g h = record {
  promised = λ y u. h.promised y (g.promised y u);
  under = λ y u. h.under y (g.under y u);
  accepted = λ p i. h.accepted p (g.accepted p i);
  new = λ p i. ⊎_elim (λ (old : In p b.accepted). g.new p old) (λ (late : IsLate b.promised p.ballot). inr (λ y u. late y (g.promised y u))) (h.new p i);
}

pub grows_trans : {C : Type 0} (k v z : Cluster C) → Grows k v → Grows v z → Grows k z
grows_trans k v z g h = record {
  members = h.members ∙ g.members;
  letters =
      λ l i. h.letters l (g.letters l i);
  acceptors =
      λ m. acceptor_trans (node k m).acceptor (node v m).acceptor (node z m).acceptor (g.acceptors m) (h.acceptors m);
}

not_under : (laws : BallotLaws) (b : Numbers) (o : Option Numbers) → IsLate o b → IsUnder b o → ⊥
not_under laws b None late h = h
not_under laws b (Some y) late h = not_both h (late y (laws.itself y))

module _ {C : Type 0} (k z : Cluster C) (g : Grows k z) where
  pub asked_stays : (p : Pvalue C) → Asked k.letters p → Asked z.letters p
  asked_stays p a = (a.0, g.letters a.0 a.1, a.2)

  pub vote_stays : (m s : ℕ) (b : Numbers) → IsVote k m s b → IsVote z m s b
  vote_stays m s b v = (v.0, (g.acceptors m).accepted _ v.1)

  pub majority_stays : (row : List Bool) → is_majority k.members row ≡ true → is_majority z.members row ≡ true
  majority_stays row h = subst (λ ws. is_majority ws row ≡ true) (sym g.members) h

  pub chosen_at_stays : (b : Numbers) (s : ℕ) (c : C) → IsChosenAt k b s c → IsChosenAt z b s c
  chosen_at_stays b s c h = record {
    voters = h.voters;
    majority = majority_stays h.voters h.majority;
    accepted =
        λ m x. (g.acceptors m).accepted _ (h.accepted m x);
  }

  pub chosen_stays : (s : ℕ) (c : C) → IsChosen k s c → IsChosen z s c
  chosen_stays s c h = (h.0, chosen_at_stays h.0 s c h.1)

  pub voting_stays : (l : Leading C) (s : ℕ) (c : Commanding C) → IsVoting k l s c → IsVoting z l s c
  voting_stays l s c h = record { own = h.own; sent = asked_stays _ h.sent; heard = λ m x. (g.acceptors m).accepted _ (h.heard m x) }

  pub acceptor_stays : (a : Acceptances C) → IsAcceptor k a → IsAcceptor z a
  acceptor_stays a h = record { sent = λ p i. asked_stays p (h.sent p i); promised = h.promised }

module _ (laws : BallotLaws) {C : Type 0} (k z : Cluster C) (g : Grows k z) where
  pub blocked_stays : (b : Numbers) (s : ℕ) → IsBlocked k b s → IsBlocked z b s
  blocked_stays b s h = record {
    row = h.row;
    majority = majority_stays k z g h.row h.majority;
    promised = λ m x. (g.acceptors m).under b (h.promised m x);
    nothing = λ m x c i. ⊎_elim (λ (was : In (pvalue b s c) (node k m).acceptor.accepted). h.nothing m x c was)
        (λ (late : IsLate (node k m).acceptor.promised b). not_under laws b (node k m).acceptor.promised late
        (h.promised m x)) ((g.acceptors m).new (pvalue b s c) i);
  }

  pub safe_stays : (b : Numbers) (s : ℕ) (c : C) → IsSafe k b s c → IsSafe z b s c
  safe_stays b s c h a x = ⊎_elim (λ (y : Asked k.letters (pvalue a s c)). inl (asked_stays k z g (pvalue a s c) y))
      (λ (y : IsBlocked k a s). inr (blocked_stays a s y)) (h a x)

  pub promise_stays : (m : ℕ) (b : Numbers) (report : List (Pvalue C)) → IsPromise k m b report → IsPromise z m b report
  promise_stays m b report h = record {
    promised = (g.acceptors m).promised b h.promised;
    sent = λ p i. asked_stays k z g p (h.sent p i);
    greatest = λ p i x. ⊎_elim (λ (was : In p (node k m).acceptor.accepted). h.greatest p was x)
        (λ (late : IsLate (node k m).acceptor.promised p.ballot). not_both x (late b h.promised))
        ((g.acceptors m).new p i);
  }

  pub true_stays : (m : ℕ) (body : LetterBody C) → IsTrueOf k m body → IsTrueOf z m body
  true_stays m (P1a b) h = tt
  true_stays m (P1b b report) h = promise_stays m b report h
  true_stays m (P2a p) h = tt
  true_stays m (P2b b s by) h = λ e. vote_stays k z g m s by (h e)
  true_stays m (Propose s c) h = tt
  true_stays m (Decision s c) h = chosen_stays k z g s c h
  true_stays m (Ask s) h = tt

  pub fair_stays : (l : Letter C) → IsFair k l → IsFair z l
  fair_stays l h = record {
    says = true_stays l.«from» l.body h.says;
    sender =
        subst (λ ws. is_member ws l.«from» ≡ true) (sym g.members) h.sender;
    receiver =
        subst (λ ws. is_member ws l.to ≡ true) (sym g.members) h.receiver;
  }

  pub gathering_stays : (b : Numbers) (heard : List Bool) (gathered : List (Pvalue C)) → IsGathering k b heard gathered → IsGathering z b heard gathered
  gathering_stays b heard gathered h = record {
    sent = λ p i. asked_stays k z g p (h.sent p i);
    reports = λ m x. let r = h.reports m x in (r.0, promise_stays m b r.0 r.1, r.2);
  }

  pub scouting_stays : (l : Leading C) (s : Scouting C) → IsScouting k l s → IsScouting z l s
  scouting_stays l s h = record { own = h.own; asleep = h.asleep; gathering = gathering_stays l.ballot s.heard s.gathered h.gathering }

  pub leader_stays : (l : Leading C) → IsLeading k l → IsLeading z l
  leader_stays l h = record {
    members = h.members ∙ sym g.members;
    safe = λ on s c may. safe_stays l.ballot s c (h.safe on s c may);
    scouting = λ s e. scouting_stays l s (h.scouting s e);
    commanding = λ s c e. voting_stays k z g l s c (h.commanding s c e);
  }

  pub node_stays : (n : ℕ) (x : NodeState C) → IsNode k n x → IsNode z n x
  node_stays n x h = record {
    owner = h.owner;
    boot = h.boot;
    acceptor = acceptor_stays k z g x.acceptor h.acceptor;
    leader = leader_stays x.leader h.leader;
    decisions = λ s c e. chosen_stays k z g s c (h.decisions s c e);
  }
