use Rattle.std.proofs.Common.{append-nil, refl, sym, ap, ◌∙◌, subst, arith}
use Rattle.ballot.specs.declared.letter.Letter.{Letter}
use Rattle.host.specs.Receiving.{AsksForVote}
use Rattle.host.specs.Views.{HostView}
use Rattle.host.proofs.host.Host.hear.Goals as goal

pub returns-then-letter-self-clause-ok : goal.returns-then-letter-self-clause-ok
returns-then-letter-self-clause-ok g c = record {
  number = refl;
  shown = (
    λ to. c.if-letter-self.true (ap (λ (l : Letter _). l.to) c.letter-letter.ensures ∙ to
        ∙ ap (λ (h : HostView _ _). h.number) (sym c.self.view_is)),
    (refl, refl),
  );
  aside = sym (append-nil c.args.self.now.aside);
  voted = refl;
  taken = omega arith;
  waits = λ asks received. absurd (cc);
}

pub put_aside-requires-clause-asks : goal.put_aside-requires-clause-asks
put_aside-requires-clause-asks g c =
    subst (λ (l : Letter _). AsksForVote l.body) c.letter-letter.ensures (c.if-asks_for_vote.ensures.yes refl)

pub receive_now-requires-clause-at_once : goal.receive_now-requires-clause-at_once
receive_now-requires-clause-at_once g c = λ asks. c.if-asks_for_vote.ensures.no refl
    (subst (λ (l : Letter _). AsksForVote l.body) (sym c.letter-letter.ensures) asks)
