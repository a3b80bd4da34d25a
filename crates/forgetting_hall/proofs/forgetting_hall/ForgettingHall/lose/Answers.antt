use Rattle.std.proofs.Common.{subst, ap, rules}
use Rattle.forgetting_hall.specs.Halls.{ForgettingState, ShowsStill}
use Rattle.forgetting_hall.proofs.Keeping.{stays, lost_still}
use Rattle.forgetting_hall.proofs.forgetting_hall.ForgettingHall.lose.Goals as goal

pub invariant_of-self : goal.invariant_of-self
invariant_of-self g c =
    let h : ForgettingState _ _ _ =
    record {
      network = c.self.inside.network;
      base = c.self.inside.base;
      summary = c.self.inside.clients;
      opened = c.self.inside.opened;
      reach = c.self.inside.reach;
      taken = c.self.inside.taken;
      gathering = record { is_on = c.self.inside.gathers; commands = c.self.inside.gathered.items };
    } in
    stays g.O.Object.rules h (record h { network = c.lose.new.self }) c.self.invariant
    (lost_still g.O.Object.rules h c.halls_rest.ensures.loses c.args.node c.lose.new.self c.lose.ensures.left) c.self.invariant.counted

pub returns-clause-ok : goal.returns-clause-ok
returns-clause-ok g c =
    let h : ForgettingState _ _ _ =
    record {
      network = c.self.inside.network;
      base = c.self.inside.base;
      summary = c.self.inside.clients;
      opened = c.self.inside.opened;
      reach = c.self.inside.reach;
      taken = c.self.inside.taken;
      gathering = record { is_on = c.self.inside.gathers; commands = c.self.inside.gathered.items };
    } in
    record {
      ok = search rules;
      still = subst (λ q. ShowsStill g.O.Object.rules q (record h { network = c.lose.new.self })) c.self.view_is
          (lost_still g.O.Object.rules h c.halls_rest.ensures.loses c.args.node c.lose.new.self c.lose.ensures.left);
      gathering = ap (λ (q : ForgettingState _ _ _). q.gathering) c.self.view_is;
      err = search rules;
    }
