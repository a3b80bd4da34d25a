use Rattle.std.proofs.Common.{◌≡◌, ◌∙◌, true, ap, sym, subst}
use Rattle.object.specs.Keys.{stands}
use Rattle.recorder.specs.Records.{own_key}
use Rattle.hall.specs.Halls.{HallState, reply_to}
use Rattle.hall.specs.Tickets.{TicketState, last_key, with_act}
use Rattle.simulated_hall.specs.OneClient.{next_obeyed}
use Rattle.simulated_hall.specs.Standing.{SimulatedState, StandsFor, IsSaid}
use Rattle.simulated_hall.proofs.Said.{request_said}
use Rattle.simulated_hall.proofs.simulated_hall.SimulatedHall.request.Goals as goal

pub returns-clause-said : goal.returns-clause-said
returns-clause-said g c = λ t stands_for.
    let now : SimulatedState _ _ =
    record {
      hall = c.self.inside.carrier.hall;
      ticket = c.self.inside.carrier.ticket;
      second =
          c.self.inside.second;
      calls = c.self.inside.carrier.calls;
    } in
    let own_ticket : c.submit.new.self.ticket ≡ with_act c.self.inside.carrier.ticket c.args.act = c.in_ok-submit.ensures.ticket in
    let ticket : c.place.new.self.ticket ≡ with_act c.self.inside.carrier.ticket c.args.act = c.in_ok-place.ensures.ticket ∙ own_ticket in
    let placed : stands own_key (last_key (with_act c.self.inside.carrier.ticket c.args.act)) c.place.new.self.hall.nodes.past.order ≡ true =
    subst (λ k. stands own_key k c.place.new.self.hall.nodes.past.order ≡ true)
    (c.last_key-key.ensures ∙ ap last_key own_ticket) c.in_ok-place.ensures.placed in
    let said =
    request_said g.O.Object.rules g.O.Object.promise g.O.Object.waits g.met.O.Object.idle g.met.O.Object.waited g.met.O.Object.named
    now t c.args.act c.submit.new.self.hall c.place.new.self.hall c.in_ok-reply.field-0 c.reply.new.self.calls
    (subst (λ s. StandsFor g.O.Object.rules s t) (sym c.self.view_is) stands_for)
    c.in_ok-submit.ensures.ok c.in_ok-place.ensures.nothing placed c.in_ok-reply.ensures.legal
    (c.in_ok-reply.ensures.reply ∙ ap (λ (q : TicketState _ _). reply_to c.place.new.self.hall (last_key q)) ticket) in
    subst (λ (q : TicketState _ _). IsSaid g.O.Object.rules
    (record {
      hall = c.reply.new.self.hall;
      ticket = q;
      second = c.self.inside.second;
      calls =
          c.reply.new.self.calls;
    }) (next_obeyed g.O.Object.rules t c.args.act) c.in_ok-reply.field-0)
    (sym (c.in_ok-reply.ensures.ticket ∙ ticket))
    (subst (λ (h : HallState _ _). IsSaid g.O.Object.rules
    (record {
      hall = h;
      ticket = with_act c.self.inside.carrier.ticket c.args.act;
      second =
          c.self.inside.second;
      calls = c.reply.new.self.calls;
    })
    (next_obeyed g.O.Object.rules t c.args.act) c.in_ok-reply.field-0)
    (sym c.in_ok-reply.ensures.hall) said)
