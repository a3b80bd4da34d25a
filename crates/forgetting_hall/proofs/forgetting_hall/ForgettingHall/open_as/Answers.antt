use Rattle.std.proofs.Common.{subst, sym, ap, rules, ◌<◌, ◌^◌}
use Rattle.forgetting_hall.specs.Halls.{ForgettingState, IsCounted, ShowsStill}
use Rattle.forgetting_hall.proofs.Counting.{counted_open}
use Rattle.forgetting_hall.proofs.Keeping.{stays, opened_still}
use Rattle.forgetting_hall.proofs.forgetting_hall.ForgettingHall.open_as.Goals as goal

pub invariant_of-self-2 : goal.invariant_of-self-2
invariant_of-self-2 g c =
    let above : c.self.inside.opened < c.args.session = search rules in
    let room : c.args.session < 2 ^ 32 = search rules in
    let h : ForgettingState _ _ _ =
    record {
      network = c.self.inside.network;
      base = c.self.inside.base;
      summary = c.self.inside.clients;
      opened = c.self.inside.opened;
      reach = c.self.inside.reach;
      taken = c.self.inside.taken;
      gathering = record { is_on = c.self.inside.gathers; commands = c.self.inside.gathered.items };
    } in
    stays g.O.Object.rules h (record h { summary = c.open.new.self; opened = c.args.session }) c.self.invariant
    (opened_still g.O.Object.rules h c.halls_rest.ensures.opens_as c.args.session above c.open.new.self c.in_ok-open.ensures.ok.0)
    (subst (λ t. IsCounted t c.args.session c.self.inside.taken) (sym c.in_ok-open.ensures.ok.0)
    (counted_open c.self.inside.clients c.self.inside.opened c.self.inside.taken c.self.invariant.counted c.args.session room))

pub returns-clause-ok : goal.returns-clause-ok
returns-clause-ok g c =
    let h : ForgettingState _ _ _ =
    record {
      network = c.self.inside.network;
      base = c.self.inside.base;
      summary = c.self.inside.clients;
      opened = c.self.inside.opened;
      reach = c.self.inside.reach;
      taken = c.self.inside.taken;
      gathering = record { is_on = c.self.inside.gathers; commands = c.self.inside.gathered.items };
    } in
    let above : c.self.inside.opened < c.args.session = search rules in
    record {
      ok = search rules;
      still = subst (λ q. ShowsStill g.O.Object.rules q (record h { summary = c.open.new.self; opened = c.args.session })) c.self.view_is
          (opened_still g.O.Object.rules h c.halls_rest.ensures.opens_as c.args.session above c.open.new.self c.in_ok-open.ensures.ok.0);
      gathering = ap (λ (q : ForgettingState _ _ _). q.gathering) c.self.view_is;
      err = search rules;
    }
