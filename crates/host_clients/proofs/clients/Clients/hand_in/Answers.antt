use Rattle.std.proofs.Common.{◌≡◌, ◌<◌, Some, None, true, sym, ap, ◌∙◌, subst}
use Rattle.std.specs.Prelude.{slice_set, slice_index_or}
use Rattle.object.specs.declared.command.Command.{Command}
use Rattle.host_clients.specs.Clients.{ClientsState, last_number, with_last_command}
use Rattle.host_clients.proofs.Places.{at_place}
use Rattle.host_clients.proofs.clients.Clients.hand_in.Goals as goal

pub returns-clause-ok : goal.returns-clause-ok
returns-clause-ok g c =
    let first = at_place c.args.self.now.seats c.in-Some.place c.index.result.now c.in-Some.ensures.some.within
    (subst (λ (s : ClientsState _ _). c.index.result.now
    ≡ slice_index_or s.seats c.in-Some.place c.index.result.now) c.self.view_is c.index.ensures) in
    let next = c.in-Some-next_number.ensures in
    let made = c.in-Some-new.ensures.1 in
    let same = c.in_ok-copy.ensures in
    let number = ap (λ (q : Command _). q.key.number) made in
    record {
      place = c.in-Some.place;
      has = c.in-Some.ensures.some;
      seat = c.index.result.now;
      was = first;
      still = c.in-Some.ensures.still c.index.result.now first;
      key = ap (λ (q : Command _). q.key) made ∙ (λ i. record { session = c.args.session; number = next.0 i });
      below = subst (λ n. n < last_number) (sym number) next.1;
      asks = ap (λ (q : Command _). q.act) made;
      becomes = (λ i. record {
        first = c.self.inside.first;
        seats = slice_set c.self.inside.seats.items c.in-Some.place
            (record { number = sym number i; is_open = true; last = Some (same i); reply = None });
        limit = c.self.inside.limit;
        free = c.self.inside.free.items;
      }) ∙ ap (with_last_command c.in-Some.place c.in-Some-new.command) c.self.view_is;
    }
