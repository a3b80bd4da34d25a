use Rattle.std.proofs.Common.{◌≡◌, ◌∙◌, ◌+◌, ap, sym, subst}
use Rattle.hall.specs.Halls.{HallState, reply_to}
use Rattle.hall.specs.Tickets.{TicketState, last_key}
use Rattle.simulated_hall.specs.OneClient.{passed}
use Rattle.simulated_hall.specs.Standing.{SimulatedState, StandsFor, IsSaid, IsUnanswered}
use Rattle.simulated_hall.proofs.Said.{second_said}
use Rattle.simulated_hall.proofs.simulated_hall.SimulatedHall.pass_second.Goals as goal

pub returns-clause-said : goal.returns-clause-said
returns-clause-said g c = λ t stands_for not_yet.
    let now : SimulatedState _ _ =
    record {
      hall = c.self.inside.carrier.hall;
      ticket = c.self.inside.carrier.ticket;
      second =
          c.self.inside.second;
      calls = c.self.inside.carrier.calls;
    } in
    let ticket : c.place.new.self.ticket ≡ c.self.inside.carrier.ticket = c.in_ok-place.ensures.ticket ∙ c.tick.ensures.ticket in
    let said =
    second_said g.O.Object.rules g.O.Object.promise
    now t c.tick.new.self.hall c.place.new.self.hall c.in_ok-reply.reply c.reply.new.self.calls
    (subst (λ s. StandsFor g.O.Object.rules s t) (sym c.self.view_is) stands_for)
    (subst (λ s. IsUnanswered g.O.Object.rules s) (sym c.self.view_is) not_yet)
    c.in_ok-tick.ensures.ok c.in_ok-place.ensures.nothing c.in_ok-place.ensures.placed c.in_ok-reply.ensures.legal
    (c.in_ok-reply.ensures.reply ∙ ap (λ (q : TicketState _ _). reply_to c.place.new.self.hall (last_key q)) ticket) in
    let there =
    subst (λ (q : TicketState _ _). IsSaid g.O.Object.rules
    (record {
      hall = c.reply.new.self.hall;
      ticket = q;
      second = c.self.inside.second + 1;
      calls =
          c.reply.new.self.calls;
    }) (passed g.O.Object.rules (last_key c.self.inside.carrier.ticket) t)
    c.in_ok-reply.reply)
    (sym (c.in_ok-reply.ensures.ticket ∙ ticket))
    (subst (λ (h : HallState _ _). IsSaid g.O.Object.rules
    (record {
      hall = h;
      ticket = c.self.inside.carrier.ticket;
      second = c.self.inside.second + 1;
      calls =
          c.reply.new.self.calls;
    }) (passed g.O.Object.rules (last_key c.self.inside.carrier.ticket) t)
    c.in_ok-reply.reply)
    (sym c.in_ok-reply.ensures.hall) said) in
    subst (λ (s : SimulatedState _ _). IsSaid g.O.Object.rules
    (record {
      hall = c.reply.new.self.hall;
      ticket = c.reply.new.self.ticket;
      second =
          c.self.inside.second + 1;
      calls = c.reply.new.self.calls;
    })
    (passed g.O.Object.rules (last_key s.ticket) t) c.in_ok-reply.reply) c.self.view_is there
