use Rattle.std.proofs.Common.{◌≡◌, ◌+◌, None, Some, subst, sym, ap, ◌∙◌}
use Rattle.std.specs.Option.{option_copied}
use Rattle.object.specs.declared.command.Command.{Command}
use Rattle.node.specs.declared.deed.Deed.TheVariants.{Request}
use Rattle.agreement.specs.declared.event.Event.TheVariants.{Submit}
use Rattle.forgetting_hall.specs.Halls.{ForgettingState, IsForgettingHall, FollowsIn, rest_of_hall}
use Rattle.forgetting_hall.specs.Handing.{last_of}
use Rattle.forgetting_hall.specs.Refusing.{refusal_of_resubmit}
use Rattle.forgetting_hall.specs.Rests.{acted_rest}
use Rattle.forgetting_hall.proofs.Counting.{counted_more}
use Rattle.forgetting_hall.proofs.Keeping.{goes_on, all_nodes}
use Rattle.forgetting_hall.proofs.Asking.{after_again, again_is, again_follows, again_member, again_room, last_from, only_last}
use Rattle.forgetting_hall.proofs.forgetting_hall.ForgettingHall.resubmit.Goals as goal

pub invariant_of-self-2 : goal.invariant_of-self-2
invariant_of-self-2 g c =
    let h : ForgettingState _ _ _ =
    record {
      network = c.self.inside.network;
      base = c.self.inside.base;
      summary = c.self.inside.clients;
      opened = c.self.inside.opened;
      reach = c.self.inside.reach;
      taken = c.self.inside.taken;
      gathering = record { is_on = c.self.inside.gathers; commands = c.self.inside.gathered.items };
    } in
    let none : refusal_of_resubmit h c.args.session c.args.node ≡ None =
    subst (λ q. refusal_of_resubmit q c.args.session c.args.node ≡ None) (sym c.self.view_is) (sym c.refusal_of_resubmit.ensures ∙ c.in_default.is) in
    let last : last_of h c.args.session ≡ Some c.in_ok-command.command =
    ap (λ (q : ForgettingState _ _ _). last_of q c.args.session) c.self.view_is ∙ sym c.last.ensures ∙ ap option_copied c.in-Some-last.is ∙
    ap Some (sym c.in_ok-command.ensures) in
    let became : record h { network = c.ask.new.network; taken = h.taken + 1 } ≡ after_again g.O.Object.rules h c.args.node c.in_ok-command.command =
    ap (λ k. record h { network = k; taken = h.taken + 1 }) c.in_ok-ask.ensures.ok in
    let member = again_member h c.args.session c.args.node none in
    let follows = again_follows g.O.Object.rules h c.args.node c.in_ok-command.command c.halls_rest.ensures.hands_again member
    (last_from h c.args.session c.in_ok-command.command last c.self.invariant) in
    subst (IsForgettingHall g.O.Object.rules) (sym became)
    (goes_on g.O.Object.rules (λ w v e i s room. c.every_world.ensures.next w v e i s room) h (after_again g.O.Object.rules h c.args.node
    c.in_ok-command.command)
    (Submit c.args.node c.in_ok-command.command) c.self.invariant (again_room h c.args.session c.args.node none c.in_ok-command.command last)
    follows (counted_more h.summary h.opened h.taken c.self.invariant.counted))

pub returns-clause-ok : goal.returns-clause-ok
returns-clause-ok g c =
    let h : ForgettingState _ _ _ =
    record {
      network = c.self.inside.network;
      base = c.self.inside.base;
      summary = c.self.inside.clients;
      opened = c.self.inside.opened;
      reach = c.self.inside.reach;
      taken = c.self.inside.taken;
      gathering = record { is_on = c.self.inside.gathers; commands = c.self.inside.gathered.items };
    } in
    let none : refusal_of_resubmit h c.args.session c.args.node ≡ None =
    subst (λ q. refusal_of_resubmit q c.args.session c.args.node ≡ None) (sym c.self.view_is) (sym c.refusal_of_resubmit.ensures ∙ c.in_default.is) in
    let last : last_of h c.args.session ≡ Some c.in_ok-command.command =
    ap (λ (q : ForgettingState _ _ _). last_of q c.args.session) c.self.view_is ∙ sym c.last.ensures ∙ ap option_copied c.in-Some-last.is ∙
    ap Some (sym c.in_ok-command.ensures) in
    let became : record h { network = c.ask.new.network; taken = h.taken + 1 } ≡ after_again g.O.Object.rules h c.args.node c.in_ok-command.command =
    ap (λ k. record h { network = k; taken = h.taken + 1 }) c.in_ok-ask.ensures.ok in
    let member = again_member h c.args.session c.args.node none in
    let follows = again_follows g.O.Object.rules h c.args.node c.in_ok-command.command c.halls_rest.ensures.hands_again member
    (last_from h c.args.session c.in_ok-command.command last c.self.invariant) in
    subst (λ (q : ForgettingState _ _ _). (d : Command g.row.O-Op.Denot) → last_of q c.args.session ≡ Some d
    → rest_of_hall g.O.Object.rules (record h { network = c.ask.new.network; taken = h.taken + 1 }) ≡
    acted_rest g.O.Object.rules (rest_of_hall g.O.Object.rules q) c.args.node (Request d)) c.self.view_is
    (λ d is. ap (rest_of_hall g.O.Object.rules) became
    ∙ again_is g.O.Object.rules h c.args.node c.in_ok-command.command (all_nodes g.O.Object.rules h c.self.invariant.shown.0 c.self.invariant.shown.2) member
    ∙ ap (λ e. acted_rest g.O.Object.rules (rest_of_hall g.O.Object.rules h) c.args.node (Request e)) (only_last last is))

pub returns-clause-event : goal.returns-clause-event
returns-clause-event g c =
    let h : ForgettingState _ _ _ =
    record {
      network = c.self.inside.network;
      base = c.self.inside.base;
      summary = c.self.inside.clients;
      opened = c.self.inside.opened;
      reach = c.self.inside.reach;
      taken = c.self.inside.taken;
      gathering = record { is_on = c.self.inside.gathers; commands = c.self.inside.gathered.items };
    } in
    let none : refusal_of_resubmit h c.args.session c.args.node ≡ None =
    subst (λ q. refusal_of_resubmit q c.args.session c.args.node ≡ None) (sym c.self.view_is) (sym c.refusal_of_resubmit.ensures ∙ c.in_default.is) in
    let last : last_of h c.args.session ≡ Some c.in_ok-command.command =
    ap (λ (q : ForgettingState _ _ _). last_of q c.args.session) c.self.view_is ∙ sym c.last.ensures ∙ ap option_copied c.in-Some-last.is ∙
    ap Some (sym c.in_ok-command.ensures) in
    let became : record h { network = c.ask.new.network; taken = h.taken + 1 } ≡ after_again g.O.Object.rules h c.args.node c.in_ok-command.command =
    ap (λ k. record h { network = k; taken = h.taken + 1 }) c.in_ok-ask.ensures.ok in
    let member = again_member h c.args.session c.args.node none in
    let follows = again_follows g.O.Object.rules h c.args.node c.in_ok-command.command c.halls_rest.ensures.hands_again member
    (last_from h c.args.session c.in_ok-command.command last c.self.invariant) in
    subst (λ (q : ForgettingState _ _ _). (d : Command g.row.O-Op.Denot) → last_of q c.args.session ≡ Some d
    → FollowsIn g.O.Object.rules q (Submit c.args.node d) (record h { network = c.ask.new.network; taken = h.taken + 1 })) c.self.view_is
    (λ d is. subst (λ e. FollowsIn g.O.Object.rules h (Submit c.args.node e) (record h {
      network = c.ask.new.network;
      taken = h.taken + 1;
    })) (only_last last is)
    (subst (FollowsIn g.O.Object.rules h (Submit c.args.node c.in_ok-command.command)) (sym became) follows))
