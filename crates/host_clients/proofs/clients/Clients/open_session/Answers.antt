use Rattle.host_clients.proofs.Places.{none_of, at_place, set_length}
use Rattle.object.specs.ListLaws.{Each, Each-at, Each-from, In-left, In-right}
use Rattle.object.specs.Lists.{In}
use Rattle.std.specs.Prelude.{slice_set}
use Rattle.host_clients.specs.declared.seat.Seat.{Seat}
use Rattle.std.proofs.Common.{◌<◌, inl, refl}
use Rattle.std.proofs.Common.{append-nil, ◌≡◌, ◌+◌, ◌*◌, ◌++◌, [], ◌∷◌, length, sym, ap, ◌∙◌, subst, arith}
use Rattle.host_clients.specs.Clients.{ClientsState, OpensAs, again, next, seat_session, opened_seat}
use Rattle.host_clients.proofs.clients.Clients.open_session.Goals as goal

pub returns-in-Some-clause-ok : goal.returns-in-Some-clause-ok
returns-in-Some-clause-ok g c =
    let s : ClientsState _ _ = record {
      first = c.self.inside.first;
      seats = c.self.inside.seats.items;
      limit = c.self.inside.limit;
      free = c.self.inside.free.items;
    } in
    let z : ClientsState _ _ = record {
      first = c.self.inside.first;
      seats = slice_set c.self.inside.seats.items c.in-Some.place (opened_seat c.index.result.now.number);
      limit = c.self.inside.limit;
      free = c.pop.new.self.items;
    } in
    let within = Each-at (λ place. place < length c.self.inside.seats.items) c.self.inside.free.items c.in-Some.place
    c.self.invariant.1 (subst (In c.in-Some.place) (sym c.in-Some.ensures.items)
    (In-right c.in-Some.place c.pop.new.self.items (c.in-Some.place ∷ []) (inl refl))) in
    let was = at_place c.self.inside.seats.items c.in-Some.place c.index.result.now within c.index.ensures in
    subst (λ (x : ClientsState _ _). OpensAs x (c.self.inside.first + 8 * c.in-Some.place) z) c.self.view_is
    (again c.in-Some.place c.pop.new.self.items c.index.result.now c.in-Some.ensures.items was)

pub returns-clause-ok : goal.returns-clause-ok
returns-clause-ok g c =
    let s : ClientsState _ _ = record {
      first = c.self.inside.first;
      seats = c.self.inside.seats.items;
      limit = c.self.inside.limit;
      free = c.self.inside.free.items;
    } in
    let z : ClientsState _ _ = record {
      first = c.self.inside.first;
      seats = c.push_reserved.new.self.items;
      limit = c.self.inside.limit;
      free = c.pop.new.self.items;
    } in
    let count = c.self.inside.free.ok.0 in
    let no = c.in_default.ensures.cases.0 in
    let empty : s.free ≡ [] = none_of s.free (omega (arith, count, no)) in
    let first = c.from.ensures in
    let len = c.len.ensures in
    let all = c.self.inside.seats.ok.0 in
    let session : c.from.result + 8 * c.len.result ≡ seat_session s.first (length s.seats) = omega (arith, first, len, all) in
    let low = c.if-next-from.false in
    let limit = c.from-2.ensures in
    let same : z ≡ record s { seats = s.seats ++ (opened_seat 0 ∷ []) } =
    λ i. record {
      first = c.self.inside.first;
      seats = (c.push_reserved.ensures.items
          ∙ ap (λ xs. xs ++ (opened_seat 0 ∷ [])) c.in_ok-reserve.ensures.items) i;
      limit = c.self.inside.limit;
      free = (sym (append-nil c.pop.new.self.items) ∙ sym c.in_default.ensures.items) i;
    } in
    subst (λ (x : ClientsState _ _). OpensAs x (c.from.result + 8 * c.len.result) z) c.self.view_is
    (subst (λ n. OpensAs s n z) (sym session)
    (subst (λ (x : ClientsState _ _). OpensAs s (seat_session s.first (length s.seats)) x) (sym same)
    (next empty (omega (arith, low, limit, session)))))

pub invariant_of-self : goal.invariant_of-self
invariant_of-self g c =
    let seat : Seat _ _ = opened_seat c.index.result.now.number in
    let same = set_length c.self.inside.seats.items c.in-Some.place seat in (
      (let low = c.self.invariant.0 in omega (arith, low, same)),
      subst (λ len. Each (λ place. place < len) c.pop.new.self.items) (sym same)
          (Each-from (λ place. place < length c.self.inside.seats.items) c.pop.new.self.items
          (λ place i. Each-at (λ place. place < length c.self.inside.seats.items) c.self.inside.free.items place
          c.self.invariant.1 (subst (In place) (sym c.in-Some.ensures.items)
          (In-left place c.pop.new.self.items (c.in-Some.place ∷ []) i)))),
    )
