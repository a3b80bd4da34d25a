use Rattle.std.proofs.Common.{◌≡◌, Some, subst, ap}
use Rattle.object.specs.declared.command.Command.{Command}
use Rattle.ballot.specs.declared.letter.Letter.{Letter}
use Rattle.network.specs.Networks.{front}
use Rattle.lean_network.specs.LeanNetworks.{LeanState, lean_mail_of}
use Rattle.forgetting_hall.specs.Halls.{ForgettingState, ShowsStill, rest_of_hall}
use Rattle.forgetting_hall.specs.Rests.{repeated_rest}
use Rattle.forgetting_hall.proofs.Keeping.{stays, repeated_still}
use Rattle.forgetting_hall.proofs.forgetting_hall.ForgettingHall.repeat.Goals as goal

pub invariant_of-self-2 : goal.invariant_of-self-2
invariant_of-self-2 g c =
    let h : ForgettingState _ _ _ =
    record {
      network = c.self.inside.network;
      base = c.self.inside.base;
      summary = c.self.inside.clients;
      opened = c.self.inside.opened;
      reach = c.self.inside.reach;
      taken = c.self.inside.taken;
      gathering = record { is_on = c.self.inside.gathers; commands = c.self.inside.gathered.items };
    } in
    stays g.O.Object.rules h (record h { network = c.repeat.new.self }) c.self.invariant
    (repeated_still g.O.Object.rules h c.halls_rest.ensures.repeats c.args.node c.repeat.new.self c.in_ok-came.ensures.ok c.in_ok-came.ensures.none)
    c.self.invariant.counted

pub returns-clause-still : goal.returns-clause-still
returns-clause-still g c =
    let h : ForgettingState _ _ _ =
    record {
      network = c.self.inside.network;
      base = c.self.inside.base;
      summary = c.self.inside.clients;
      opened = c.self.inside.opened;
      reach = c.self.inside.reach;
      taken = c.self.inside.taken;
      gathering = record { is_on = c.self.inside.gathers; commands = c.self.inside.gathered.items };
    } in
    subst (λ q. ShowsStill g.O.Object.rules q (record h { network = c.repeat.new.self })) c.self.view_is
    (repeated_still g.O.Object.rules h c.halls_rest.ensures.repeats c.args.node c.repeat.new.self c.in_ok-came.ensures.ok c.in_ok-came.ensures.none)

pub returns-clause-ok : goal.returns-clause-ok
returns-clause-ok g c =
    let h : ForgettingState _ _ _ =
    record {
      network = c.self.inside.network;
      base = c.self.inside.base;
      summary = c.self.inside.clients;
      opened = c.self.inside.opened;
      reach = c.self.inside.reach;
      taken = c.self.inside.taken;
      gathering = record { is_on = c.self.inside.gathers; commands = c.self.inside.gathered.items };
    } in
    subst (λ (q : ForgettingState _ _ _). (l : Letter (Command g.row.O-Op.Denot)) → front (lean_mail_of q.network c.args.node) ≡ Some l
    → rest_of_hall g.O.Object.rules (record h { network = c.repeat.new.self }) ≡ repeated_rest (rest_of_hall g.O.Object.rules q) c.args.node l) c.self.view_is
    (λ l at. ap (λ (k : LeanState _ _). rest_of_hall g.O.Object.rules (record h { network = k })) (c.in_ok-came.ensures.ok l at))
