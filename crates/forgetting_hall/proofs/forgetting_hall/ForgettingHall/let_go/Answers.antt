use Rattle.std.proofs.Common.{subst, sym}
use Rattle.forgetting_hall.specs.Halls.{ForgettingState, IsCounted, ShowsStill}
use Rattle.forgetting_hall.proofs.Counting.{counted_let_go}
use Rattle.forgetting_hall.proofs.Keeping.{stays, let_go_still}
use Rattle.forgetting_hall.proofs.forgetting_hall.ForgettingHall.let_go.Goals as goal

pub invariant_of-self : goal.invariant_of-self
invariant_of-self g c =
    let h : ForgettingState _ _ _ =
    record {
      network = c.self.inside.network;
      base = c.self.inside.base;
      summary = c.self.inside.clients;
      opened = c.self.inside.opened;
      reach = c.self.inside.reach;
      taken = c.self.inside.taken;
      gathering = record { is_on = c.self.inside.gathers; commands = c.self.inside.gathered.items };
    } in
    stays g.O.Object.rules h (record h { summary = c.let_go.new.self }) c.self.invariant
    (let_go_still g.O.Object.rules h c.halls_rest.ensures.lets_go c.args.session c.let_go.new.self c.let_go.ensures)
    (subst (λ t. IsCounted t c.self.inside.opened c.self.inside.taken) (sym c.let_go.ensures)
    (counted_let_go c.self.inside.clients c.self.inside.opened c.self.inside.taken c.self.invariant.counted c.args.session c.requires))

pub returns-clause-still : goal.returns-clause-still
returns-clause-still g c =
    let h : ForgettingState _ _ _ =
    record {
      network = c.self.inside.network;
      base = c.self.inside.base;
      summary = c.self.inside.clients;
      opened = c.self.inside.opened;
      reach = c.self.inside.reach;
      taken = c.self.inside.taken;
      gathering = record { is_on = c.self.inside.gathers; commands = c.self.inside.gathered.items };
    } in
    subst (λ q. ShowsStill g.O.Object.rules q (record h { summary = c.let_go.new.self })) c.self.view_is
    (let_go_still g.O.Object.rules h c.halls_rest.ensures.lets_go c.args.session c.let_go.new.self c.let_go.ensures)
