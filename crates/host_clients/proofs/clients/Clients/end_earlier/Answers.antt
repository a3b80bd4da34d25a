use Rattle.std.proofs.Common.{subst, arith}
use Rattle.host_clients.specs.Clients.{ClientsState, EndsEarlier}
use Rattle.host_clients.proofs.Places.{steps_lead}
use Rattle.host_clients.proofs.clients.Clients.end_earlier.Goals as goal

pub returns-in-Some-clause-ok : goal.returns-in-Some-clause-ok
returns-in-Some-clause-ok g c =
    let none = c.if-session-eq0.false in
    let s : ClientsState _ _ = record {
      first = c.self.inside.first;
      seats = c.self.inside.seats.items;
      limit = c.self.inside.limit;
      free = c.self.inside.free.items;
    } in
    subst (λ (x : ClientsState _ _). EndsEarlier x c.args.session c.in-Some.end) c.self.view_is (record {
      earlier = steps_lead s c.args.session (omega (arith, none)) c.if-session-self.false c.if-self-session-ne0.false;
      key = c.in-Some.ensures.some.0;
      end = c.in-Some.ensures.some.1;
    })
