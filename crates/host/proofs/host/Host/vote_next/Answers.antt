use Rattle.std.proofs.Common.{◌≡◌, ◌∷◌, ◌+◌, refl, sym, ap, ◌∙◌, subst, arith}
use Rattle.object.specs.ListLaws.{Each}
use Rattle.ballot.specs.declared.letter.Letter.{Letter}
use Rattle.node.specs.Receiving.{ShowsReceived}
use Rattle.host.specs.Hearing.{Votes}
use Rattle.host.specs.Receiving.{AwaitsVote}
use Rattle.host.specs.Views.{HostView}
use Rattle.host.proofs.Received.{at_front, asked_read, received_alone}
use Rattle.host.proofs.host.Host.vote_next.Goals as goal

pub returns-clause-yes : goal.returns-clause-yes
returns-clause-yes g c = λ yes.
    let p = c.in-Some.envelope.now in
    let z : HostView _ _ = record {
      number = c.self.inside.number;
      shown = record { base = c.self.inside.base; holding = c.receive.new.self };
      aside = c.pop_front.new.self.items;
      voted = c.self.inside.voted + 1;
      taken = c.in_ok-events.events;
    } in
    let first : c.self.inside.aside.items ≡ p ∷ c.pop_front.new.self.items =
    at_front c.self.inside.aside.items p
    (let some = c.in-Some.ensures.variant.0 refl in let all = c.self.inside.aside.ok.0 in omega (arith, some, all))
    c.in-Some.ensures.lookup ∙ ap (λ xs. p ∷ xs) (sym c.pop_front.ensures.rest) in
    let waits : Each (AwaitsVote c.self.inside.number c.self.inside.base) (p ∷ c.pop_front.new.self.items) =
    subst (Each (AwaitsVote c.self.inside.number c.self.inside.base)) first c.self.invariant in
    let r = received_alone p.letter.«from» c.self.inside.node.state p.letter.body c.receive.new.self.state
    c.args.sent.now.items c.receive.new.out.items
    (subst (λ (l : Letter _). ShowsReceived l.«from» c.self.inside.node.state l.body c.receive.new.self.state
    c.args.sent.now.items c.receive.new.out.items) c.letter-letter.ensures c.in_ok-receive.ensures.ok) in
    subst (λ (h : HostView _ _). Votes c.args.upto h z c.args.sent.now.items c.receive.new.out.items) c.self.view_is
    (record {
      kept = let more = c.if-upto-self.false in omega (arith, more);
      envelope = p;
      first = first;
      reads = asked_read c.self.inside.number c.self.inside.base p waits.0;
      new = c.receive.new.self.state;
      sent = r.0;
      received = r.1;
      shown = ap (λ o. record { base = c.self.inside.base; holding = record { state = c.receive.new.self.state; object = o } })
          c.in_ok-receive.ensures.object;
      behind = r.2;
      number = refl;
      voted = refl;
      taken = c.in_ok-events.ensures.ok;
    })
