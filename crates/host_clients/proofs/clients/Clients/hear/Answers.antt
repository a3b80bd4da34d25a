use Rattle.std.proofs.Common.{◌≡◌, sym, ap, ◌∙◌, subst}
use Rattle.std.specs.Prelude.{slice_set, slice_index_or}
use Rattle.host_clients.specs.Clients.{ClientsState, HearsAnswer, there, nowhere, heard}
use Rattle.host_clients.proofs.Places.{at_place}
use Rattle.host_clients.proofs.clients.Clients.hear.Goals as goal

pub returns-in-Some : goal.returns-in-Some
returns-in-Some g c =
    let here = c.in-Some.ensures.some in
    let at = at_place c.args.self.now.seats c.in-Some.place c.index_mut.result.now here.within
    (subst (λ (s : ClientsState _ _). c.index_mut.result.now
    ≡ slice_index_or s.seats c.in-Some.place c.index_mut.result.now) c.self.view_is c.index_mut.ensures.value) in
    let z : ClientsState _ _ = record {
      first = c.self.inside.first;
      seats = slice_set c.self.inside.seats.items c.in-Some.place c.hear.new.self;
      limit = c.self.inside.limit;
      free = c.self.inside.free.items;
    } in
    subst (λ (x : ClientsState _ _). HearsAnswer c.args.answer c.args.self.now x)
    (sym (ap (λ seat. record z { seats = slice_set c.self.inside.seats.items c.in-Some.place seat }) c.hear.ensures
    ∙ ap (λ (s : ClientsState _ _). record s {
      seats = slice_set s.seats c.in-Some.place (heard c.args.answer c.index_mut.result.now);
    }) c.self.view_is))
    (there c.in-Some.place c.index_mut.result.now here at)

pub returns-in_default : goal.returns-in_default
returns-in_default g c = nowhere c.in_default.ensures.none
