use Rattle.std.proofs.Common.{◌≡◌, ◌<◌, ◌++◌, ◌∷◌, [], length, Some, refl, sym, ap, ◌∙◌, subst, arith}
use Rattle.std.specs.Prelude.{slice_get, slice_set, slice_index_or}
use Rattle.object.specs.ListLaws.{Each, Each-append}
use Rattle.host_clients.specs.Clients.{ClientsState, IsEndOf, closed_seat}
use Rattle.host_clients.specs.declared.seat.Seat.{Seat}
use Rattle.std.proofs.lemmas.Option.{same_Some}
use Rattle.host_clients.proofs.Places.{at_place, one_place, set_length}
use Rattle.host_clients.proofs.clients.Clients.performed.Goals as goal

pub returns-in_default-clause-ends : goal.returns-in_default-clause-ends
returns-in_default-clause-ends g c = λ no place ends. c.in_default.ensures.none place ends.has

pub returns-then-not-ends_with-clause-ends : goal.returns-then-not-ends_with-clause-ends
returns-then-not-ends_with-clause-ends g c = λ no place ends.
    let here = c.in-Some.ensures.some in
    let same = one_place c.args.self.now c.args.key.session place c.in-Some.place ends.has here in
    let at = at_place c.args.self.now.seats c.in-Some.place c.index.result.now here.within
    (subst (λ (s : ClientsState _ _). c.index.result.now
    ≡ slice_index_or s.seats c.in-Some.place c.index.result.now) c.self.view_is c.index.ensures) in
    c.if-not-ends_with.ensures.no refl
    (subst (λ (s : Seat _ _). IsEndOf s c.args.key)
    (same_Some ends.seat c.index.result.now
    (sym ends.was ∙ ap (slice_get c.args.self.now.seats) same ∙ at)) ends.end)

pub invariant_of-self-2 : goal.invariant_of-self-2
invariant_of-self-2 g c =
    let seat : Seat _ _ = closed_seat c.index-2.result.now.number in
    let same = set_length c.self.inside.seats.items c.in-Some.place seat in
    let here = c.in-Some.ensures.some in
    let within : c.in-Some.place < length c.self.inside.seats.items =
    (let w = here.within in let v = ap (λ (s : ClientsState _ _). length s.seats) c.self.view_is in omega (arith, w, v)) in (
      (let low = c.self.invariant.0 in omega (arith, low, same)),
      subst (Each (λ place. place < length (slice_set c.self.inside.seats.items c.in-Some.place seat)))
          (sym c.in_ok-push.ensures.items)
          (subst (λ len. Each (λ place. place < len) (c.self.inside.free.items ++ (c.in-Some.place ∷ []))) (sym same)
          (Each-append (λ place. place < length c.self.inside.seats.items) c.self.inside.free.items (c.in-Some.place ∷ [])
          c.self.invariant.1 (within, tt))),
    )

pub returns-clause-yes : goal.returns-clause-yes
returns-clause-yes g c = λ yes.
    let here = c.in-Some.ensures.some in
    let look : (x : Seat _ _) → x ≡ slice_index_or c.self.inside.seats.items c.in-Some.place x
    → slice_get c.args.self.now.seats c.in-Some.place ≡ Some x =
    λ x e. at_place c.args.self.now.seats c.in-Some.place x here.within
    (subst (λ (s : ClientsState _ _). x ≡ slice_index_or s.seats c.in-Some.place x) c.self.view_is e) in
    let first = look c.index.result.now c.index.ensures in
    let second = look c.index-2.result.now c.index-2.ensures in
    let same = same_Some c.index.result.now c.index-2.result.now (sym first ∙ second) in
    let end : IsEndOf c.index-2.result.now c.args.key =
    subst (λ (s : Seat _ _). IsEndOf s c.args.key) same (c.if-not-ends_with.ensures.yes refl) in
    record {
      place = c.in-Some.place;
      ends = record { has = here; seat = c.index-2.result.now; was = second; end = end };
      becomes = ap (λ free. record {
        first = c.self.inside.first;
        seats = slice_set c.self.inside.seats.items c.in-Some.place (closed_seat c.index-2.result.now.number);
        limit = c.self.inside.limit;
        free = free;
      }) c.in_ok-push.ensures.items
          ∙ ap (λ (s : ClientsState _ _). record s {
            seats = slice_set s.seats c.in-Some.place (closed_seat c.index-2.result.now.number);
            free = s.free ++ (c.in-Some.place ∷ []);
          }) c.self.view_is;
    }
