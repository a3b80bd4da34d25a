use Rattle.std.proofs.Common.{◌≡◌, ◌+◌, None, subst, sym, ap, rules, ◌∙◌}
use Rattle.agreement.specs.declared.event.Event.TheVariants.{Submit}
use Rattle.forgetting_hall.specs.Halls.{ForgettingState, IsForgettingHall, FollowsIn, rest_of_hall}
use Rattle.forgetting_hall.specs.Handing.{asked_lean}
use Rattle.forgetting_hall.specs.Refusing.{refusal_of_keyed}
use Rattle.forgetting_hall.specs.Rests.{handed_in}
use Rattle.forgetting_hall.proofs.Counting.{counted_command}
use Rattle.forgetting_hall.proofs.Keeping.{goes_on, all_nodes}
use Rattle.forgetting_hall.proofs.Asking.{after_next, next_is, next_follows, keyed_member, keyed_room, keyed_low, keyed_next}
use Rattle.forgetting_hall.proofs.forgetting_hall.ForgettingHall.hand_in.Goals as goal

pub invariant_of-self-2 : goal.invariant_of-self-2
invariant_of-self-2 g c =
    let h : ForgettingState _ _ _ =
    record {
      network = c.self.inside.network;
      base = c.self.inside.base;
      summary = c.self.inside.clients;
      opened = c.self.inside.opened;
      reach = c.self.inside.reach;
      taken = c.self.inside.taken;
      gathering = record { is_on = c.self.inside.gathers; commands = c.self.inside.gathered.items };
    } in
    let none : refusal_of_keyed h c.args.command.key c.args.node ≡ None =
    subst (λ q. refusal_of_keyed q c.args.command.key c.args.node ≡ None) (sym c.self.view_is)
    (ap (λ k. refusal_of_keyed c.args.self.now k c.args.node) (sym c.key.ensures.key) ∙ sym c.refusal_of_keyed.ensures ∙ c.in_default.is) in
    let nodes = c.in_ok-ask.ensures.ok ∙ ap (asked_lean g.O.Object.rules h.network c.args.node) c.in_ok-copy.ensures in
    let became : record h { network = c.ask.new.network; summary = c.hand_in.new.self; taken = h.taken + 1 } ≡ after_next g.O.Object.rules h
    c.args.node c.args.command =
    λ i. record h { network = nodes i; summary = c.hand_in.ensures i; taken = h.taken + 1 } in
    subst (IsForgettingHall g.O.Object.rules) (sym became)
    (goes_on g.O.Object.rules (λ w v e i s room. c.every_world.ensures.next w v e i s room) h (after_next g.O.Object.rules h c.args.node c.args.command)
    (Submit c.args.node c.args.command) c.self.invariant (keyed_room h c.args.command c.args.node none)
    (next_follows g.O.Object.rules h c.args.node c.args.command c.halls_rest.ensures.hands_in (keyed_member h c.args.command c.args.node
    none) (keyed_next h c.args.command c.args.node none))
    (counted_command h.summary h.opened h.taken c.self.invariant.counted c.args.command (keyed_low h c.args.command c.args.node none)))

pub returns : goal.returns
returns g c =
    let h : ForgettingState _ _ _ =
    record {
      network = c.self.inside.network;
      base = c.self.inside.base;
      summary = c.self.inside.clients;
      opened = c.self.inside.opened;
      reach = c.self.inside.reach;
      taken = c.self.inside.taken;
      gathering = record { is_on = c.self.inside.gathers; commands = c.self.inside.gathered.items };
    } in
    let none : refusal_of_keyed h c.args.command.key c.args.node ≡ None =
    subst (λ q. refusal_of_keyed q c.args.command.key c.args.node ≡ None) (sym c.self.view_is)
    (ap (λ k. refusal_of_keyed c.args.self.now k c.args.node) (sym c.key.ensures.key) ∙ sym c.refusal_of_keyed.ensures ∙ c.in_default.is) in
    let nodes = c.in_ok-ask.ensures.ok ∙ ap (asked_lean g.O.Object.rules h.network c.args.node) c.in_ok-copy.ensures in
    let became : record h { network = c.ask.new.network; summary = c.hand_in.new.self; taken = h.taken + 1 } ≡ after_next g.O.Object.rules h
    c.args.node c.args.command =
    λ i. record h { network = nodes i; summary = c.hand_in.ensures i; taken = h.taken + 1 } in
    record {
      ok = record {
        ok = ap (rest_of_hall g.O.Object.rules) became
            ∙ next_is g.O.Object.rules h c.args.node c.args.command (all_nodes g.O.Object.rules h c.self.invariant.shown.0 c.self.invariant.shown.2)
            (keyed_member h c.args.command c.args.node none)
            ∙ ap (λ (q : ForgettingState _ _ _). handed_in g.O.Object.rules (rest_of_hall g.O.Object.rules q) c.args.node c.args.command) c.self.view_is;
        event = subst (λ (q : ForgettingState _ _ _). FollowsIn g.O.Object.rules q (Submit c.args.node c.args.command)
            (record h { network = c.ask.new.network; summary = c.hand_in.new.self; taken = h.taken + 1 })) c.self.view_is
            (subst (FollowsIn g.O.Object.rules h (Submit c.args.node c.args.command)) (sym became)
            (next_follows g.O.Object.rules h c.args.node c.args.command c.halls_rest.ensures.hands_in (keyed_member h c.args.command c.args.node
            none) (keyed_next h c.args.command c.args.node none)));
        gathering = ap (λ (q : ForgettingState _ _ _). q.gathering) c.self.view_is;
        refused = search rules;
      };
    }
