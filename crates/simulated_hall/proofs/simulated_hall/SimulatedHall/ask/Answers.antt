use Rattle.std.proofs.Common.{◌≡◌, ◌∙◌, ◌+◌, ◌-◌, ◌<◌, Option, None, Some, sym, ap, subst, add-zero, arith}
use Rattle.object.specs.declared.command.Act.TheVariants.{Do}
use Rattle.hall.specs.Tickets.{TicketState, last_key}
use Rattle.simulated_hall.specs.OneClient.{Said, next_obeyed, passed, waited}
use Rattle.simulated_hall.specs.Standing.{SimulatedState, StandsFor}
use Rattle.simulated_hall.proofs.Said.{next_key_is, still_stands, wait_over, wait_more, opens_wait}
use Rattle.simulated_hall.proofs.simulated_hall.SimulatedHall.ask.Goals as goal

none_of : {X : Type 0} (o : Option X) → ((x : X) → o ≡ Some x → ⊥) → o ≡ None
none_of None not_some = cc
none_of (Some x) not_some = absurd (not_some x (cc))

pub loop-init : goal.loop-init
loop-init g c = record {
  second = c.in_ok-reply.ensures.second ∙ ap (λ (s : SimulatedState _ _). s.second) c.self.view_is ∙ sym (add-zero _);
  said = λ t stands_for.
      let was : SimulatedState _ _ =
      record {
        hall = c.self.inside.carrier.hall;
        ticket = c.self.inside.carrier.ticket;
        second =
            c.self.inside.second;
        calls = c.self.inside.carrier.calls;
      } in
      let begun : SimulatedState _ _ =
      record {
        hall = c.begin.new.self.hall;
        ticket = c.begin.new.self.ticket;
        second =
            c.self.inside.second;
        calls = c.begin.new.self.calls;
      } in
      let same : begun ≡ record was { calls = c.begin.new.self.calls } =
      (λ i. record {
        hall = c.begin.ensures.hall i;
        ticket = c.begin.ensures.ticket i;
        second =
            c.self.inside.second;
        calls = c.begin.new.self.calls;
      }) in
      let there = subst (λ s. StandsFor g.O.Object.rules s t) (sym same)
      (still_stands g.O.Object.rules was c.begin.new.self.calls t
      (subst (λ s. StandsFor g.O.Object.rules s t) (sym c.self.view_is) stands_for)) in
      let key = ap (λ (q : TicketState _ _). last_key q) c.in_ok-reply.ensures.ticket ∙ next_key_is g.O.Object.rules begun t (Do c.args.op) there in (
        next_obeyed g.O.Object.rules t
            (Do c.args.op),
        c.in_ok-reply.ensures.said t there,
        opens_wait g.O.Object.rules t c.args.op
            (last_key c.request.new.self.ticket) key,
      );
}

pub returns-in-Some-clause-reply : goal.returns-in-Some-clause-reply
returns-in-Some-clause-reply g c = λ t stands_for.
    let r = c.loop.invariant.said t stands_for in
    let said = r.1.same ∙ c.in-Some.is in
    ap (λ (s : Said _ _). s.reply) (sym r.2 ∙ wait_over g.O.Object.rules _ (3600 - c.loop.counter) r.0 c.in-Some.reply said) ∙ said

pub returns-in-Some-clause-stands : goal.returns-in-Some-clause-stands
returns-in-Some-clause-stands g c = λ t stands_for.
    let r = c.loop.invariant.said t stands_for in
    let said = r.1.same ∙ c.in-Some.is in
    subst (λ (s : Said _ _). StandsFor g.O.Object.rules c.loop.self s.talk)
    (sym (wait_over g.O.Object.rules _ (3600 - c.loop.counter) r.0 c.in-Some.reply said) ∙ r.2) r.1.stands

pub loop-preserved : goal.loop-preserved
loop-preserved g c = record {
  second = let passed = c.in_ok-reply-2.ensures.second in let so_far = c.loop.invariant.second in omega (arith, passed, so_far);
  said = λ t stands_for.
      let r = c.loop.invariant.said t stands_for in
      let none = none_of c.loop.reply c.in_default.not-Some in
      let left : c.loop.counter < 3600 = (let test = c.loop-test.true in omega (arith, test)) in
      let key = ap (λ (q : TicketState _ _). last_key q) c.in_ok-reply-2.ensures.ticket in (
        passed g.O.Object.rules (last_key c.loop.self.ticket) r.0.talk,
        c.in_ok-reply-2.ensures.said r.0.talk r.1.stands (r.1.none none),
        ap (λ k. waited g.O.Object.rules k (3600 - (c.loop.counter + 1)) (passed g.O.Object.rules (last_key c.loop.self.ticket) r.0.talk)) key
            ∙ sym (wait_more g.O.Object.rules (last_key c.loop.self.ticket) c.loop.counter r.0 left (r.1.same ∙ none)) ∙ r.2,
      );
}
