use Rattle.std.proofs.Common.{◌≡◌, Some, sym, subst}
use Rattle.std.specs.Prelude.{slice_get}
use Rattle.host_clients.specs.Clients.{ClientsState}
use Rattle.host_clients.proofs.Places.{at_place, one_place}
use Rattle.host_clients.proofs.clients.Clients.seat.Goals as goal

pub returns-in_err-place-clause-seat : goal.returns-in_err-place-clause-seat
returns-in_err-place-clause-seat g c = λ place has. absurd (c.in_err-place.ensures.none place has)

pub returns-clause-seat : goal.returns-clause-seat
returns-clause-seat g c = λ place has.
    let here = c.in_ok-place.ensures.some in
    let same = one_place c.args.self.now c.args.session c.in_ok-place.field-0 place here has in
    subst (λ p. Some c.index.result.now ≡ slice_get c.args.self.now.seats p) same
    (sym (at_place c.args.self.now.seats c.in_ok-place.field-0 c.index.result.now here.within
    (subst (λ (s : ClientsState _ _). c.index.result.now
    ≡ Rattle.std.specs.Prelude.slice_index_or s.seats c.in_ok-place.field-0 c.index.result.now) c.self.view_is
    c.index.ensures)))
