use Rattle.std.proofs.Common.{◌≡◌, true≢false, sym, ap, ◌∙◌, subst}
use Rattle.std.specs.Prelude.{slice_get, slice_index_or}
use Rattle.std.proofs.lemmas.Option.{same_Some}
use Rattle.host_clients.specs.Clients.{ClientsState}
use Rattle.host_clients.specs.declared.seat.Seat.{Seat}
use Rattle.host_clients.proofs.Places.{at_place, one_place}
use Rattle.host_clients.proofs.clients.Clients.open_place.Goals as goal

pub returns-in_default-clause-none : goal.returns-in_default-clause-none
returns-in_default-clause-none g c = λ had. c.in_default.ensures.none had.place had.has

pub returns-then-index-clause-still : goal.returns-then-index-clause-still
returns-then-index-clause-still g c = λ seat at.
    let first = at_place c.args.self.now.seats c.in-Some.place c.index.result.now c.in-Some.ensures.some.within
    (subst (λ (s : ClientsState _ _). c.index.result.now
    ≡ slice_index_or s.seats c.in-Some.place c.index.result.now) c.self.view_is c.index.ensures) in
    ap (λ (s : Seat _ _). s.is_open) (same_Some seat c.index.result.now (sym at ∙ first)) ∙ c.if-index.true

pub returns-else-index-clause-none : goal.returns-else-index-clause-none
returns-else-index-clause-none g c = λ had.
    let first = at_place c.args.self.now.seats c.in-Some.place c.index.result.now c.in-Some.ensures.some.within
    (subst (λ (s : ClientsState _ _). c.index.result.now
    ≡ slice_index_or s.seats c.in-Some.place c.index.result.now) c.self.view_is c.index.ensures) in
    let same = one_place c.args.self.now c.args.session had.place c.in-Some.place had.has c.in-Some.ensures.some in
    let seat = same_Some had.seat c.index.result.now
    (sym had.was ∙ ap (slice_get c.args.self.now.seats) same ∙ first) in
    true≢false (sym had.still ∙ ap (λ (s : Seat _ _). s.is_open) seat ∙ c.if-index.false)
