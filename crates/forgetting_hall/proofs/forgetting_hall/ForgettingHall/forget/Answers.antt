use Rattle.std.proofs.Common.{◌≡◌, ap, sym, subst, ◌∙◌}
use Rattle.forgetting_hall.specs.Halls.{ForgettingState, ShowsStill, IsLeastOut, rest_of_hall}
use Rattle.forgetting_hall.specs.Rests.{forgotten_rest}
use Rattle.forgetting_hall.proofs.Keeping.{stays}
use Rattle.forgetting_hall.proofs.Following.{forgotten_already, forgotten_is, forgotten_still}
use Rattle.forgetting_hall.proofs.forgetting_hall.ForgettingHall.forget.Goals as goal

pub forget-requires : goal.forget-requires
forget-requires g c = λ n member.
    let h : ForgettingState _ _ _ =
    record {
      network = c.self.inside.network;
      base = c.self.inside.base;
      summary = c.self.inside.clients;
      opened = c.self.inside.opened;
      reach = c.self.inside.reach;
      taken = c.self.inside.taken;
      gathering = record { is_on = c.self.inside.gathers; commands = c.self.inside.gathered.items };
    } in
    let least : IsLeastOut g.O.Object.rules h c.least_out-base.result =
    subst (λ q. IsLeastOut g.O.Object.rules q c.least_out-base.result) (sym c.self.view_is) c.least_out-base.ensures in
    least.least n member

pub returns-then-base-self-clause-forgotten : goal.returns-then-base-self-clause-forgotten
returns-then-base-self-clause-forgotten g c =
    subst (λ (q : ForgettingState _ _ _). rest_of_hall g.O.Object.rules q ≡ forgotten_rest (rest_of_hall g.O.Object.rules q) q.base) c.self.view_is
    (forgotten_already g.O.Object.rules _ c.self.invariant)

pub invariant_of-self : goal.invariant_of-self
invariant_of-self g c =
    let h : ForgettingState _ _ _ =
    record {
      network = c.self.inside.network;
      base = c.self.inside.base;
      summary = c.self.inside.clients;
      opened = c.self.inside.opened;
      reach = c.self.inside.reach;
      taken = c.self.inside.taken;
      gathering = record { is_on = c.self.inside.gathers; commands = c.self.inside.gathered.items };
    } in
    let least : IsLeastOut g.O.Object.rules h c.least_out-base.result =
    subst (λ q. IsLeastOut g.O.Object.rules q c.least_out-base.result) (sym c.self.view_is) c.least_out-base.ensures in
    stays g.O.Object.rules h (record h { network = c.forget.new.self; base = c.least_out-base.result }) c.self.invariant
    (forgotten_still g.O.Object.rules h c.halls_rest.ensures.forgets c.least_out-base.result least c.forget.new.self c.forget.ensures)
    c.self.invariant.counted

pub returns-clause-forgotten : goal.returns-clause-forgotten
returns-clause-forgotten g c =
    let h : ForgettingState _ _ _ =
    record {
      network = c.self.inside.network;
      base = c.self.inside.base;
      summary = c.self.inside.clients;
      opened = c.self.inside.opened;
      reach = c.self.inside.reach;
      taken = c.self.inside.taken;
      gathering = record { is_on = c.self.inside.gathers; commands = c.self.inside.gathered.items };
    } in
    forgotten_is g.O.Object.rules h c.least_out-base.result c.forget.new.self c.forget.ensures
    ∙ ap (λ q. forgotten_rest (rest_of_hall g.O.Object.rules q) c.least_out-base.result) c.self.view_is

pub returns-clause-still : goal.returns-clause-still
returns-clause-still g c =
    let h : ForgettingState _ _ _ =
    record {
      network = c.self.inside.network;
      base = c.self.inside.base;
      summary = c.self.inside.clients;
      opened = c.self.inside.opened;
      reach = c.self.inside.reach;
      taken = c.self.inside.taken;
      gathering = record { is_on = c.self.inside.gathers; commands = c.self.inside.gathered.items };
    } in
    let least : IsLeastOut g.O.Object.rules h c.least_out-base.result =
    subst (λ q. IsLeastOut g.O.Object.rules q c.least_out-base.result) (sym c.self.view_is) c.least_out-base.ensures in
    subst (λ q. ShowsStill g.O.Object.rules q (record h { network = c.forget.new.self; base = c.least_out-base.result })) c.self.view_is
    (forgotten_still g.O.Object.rules h c.halls_rest.ensures.forgets c.least_out-base.result least c.forget.new.self c.forget.ensures)
