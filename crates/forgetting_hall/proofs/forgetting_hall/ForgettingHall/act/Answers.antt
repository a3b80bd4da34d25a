use Rattle.std.proofs.Common.{cond, ◌≡◌, ◌+◌, ◌<◌, ◌^◌, ◌++◌, None, subst, sym, ap, ◌∙◌, length}
use Rattle.agreement.specs.Events.{event_of}
use Rattle.lean_network.specs.LeanNetworks.{lean_node_of, lean_turn_of}
use Rattle.node.specs.Deeds.{ComesToNothing}
use Rattle.forgetting_hall.specs.Effects.{placed_by}
use Rattle.forgetting_hall.proofs.Effects.{none_if, nothing_placed}
use Rattle.forgetting_hall.specs.Gathered.{Gathering}
use Rattle.forgetting_hall.specs.Halls.{ForgettingState, IsForgettingHall, FollowsIn, rest_of_hall}
use Rattle.forgetting_hall.specs.Refusing.{refusal_of_event}
use Rattle.forgetting_hall.specs.Rests.{fresh_answers, outcome_rest, done_rest}
use Rattle.forgetting_hall.proofs.Counting.{counted_deed}
use Rattle.forgetting_hall.proofs.Keeping.{goes_on, all_nodes}
use Rattle.forgetting_hall.proofs.Turning.{after_deed, outcome_is, deed_is}
use Rattle.forgetting_hall.proofs.Following.{event_member, event_room, deed_follows, deed_became, room_to_tell}
use Rattle.forgetting_hall.proofs.forgetting_hall.ForgettingHall.act.Goals as goal

pub hear-requires : goal.hear-requires
hear-requires g c =
    let h : ForgettingState _ _ _ =
    record {
      network = c.self.inside.network;
      base = c.self.inside.base;
      summary = c.self.inside.clients;
      opened = c.self.inside.opened;
      reach = c.self.inside.reach;
      taken = c.self.inside.taken;
      gathering = record { is_on = c.self.inside.gathers; commands = c.self.inside.gathered.items };
    } in
    let none : refusal_of_event h c.args.node ≡ None =
    subst (λ q. refusal_of_event q c.args.node ≡ None) (sym c.self.view_is) (sym c.refusal_of_event.ensures ∙ c.in_default.is) in
    let fresh : c.fresh_of-fresh.result.items ≡ fresh_answers h.reach c.in_ok-outcome.outcome (lean_turn_of g.O.Object.rules h.network
    c.args.node c.args.deed).answers =
    c.fresh_of-fresh.ensures ∙ c.in_ok-outcome.ensures.fresh ∙ ap (fresh_answers h.reach c.in_ok-outcome.outcome)
    (ap (λ xs. xs ++ (lean_turn_of g.O.Object.rules h.network c.args.node c.args.deed).answers) c.new-given.ensures.items) in
    record {
      room = subst (λ xs. h.summary.answered + length xs < 2 ^ 64)
          (sym (fresh ∙ ap (λ o. fresh_answers h.reach o (lean_turn_of g.O.Object.rules h.network c.args.node c.args.deed).answers)
          c.in_ok-outcome.ensures.outcome))
          (room_to_tell g.O.Object.rules h c.args.node c.halls_rest.ensures.acts c.args.deed c.requires (event_member h c.args.node none)
          (λ w v e i s room. c.every_world.ensures.next w v e i s room) c.every_world.ensures.answered_known c.self.invariant (event_room h c.args.node none));
    }

pub invariant_of-self-2 : goal.invariant_of-self-2
invariant_of-self-2 g c =
    let h : ForgettingState _ _ _ =
    record {
      network = c.self.inside.network;
      base = c.self.inside.base;
      summary = c.self.inside.clients;
      opened = c.self.inside.opened;
      reach = c.self.inside.reach;
      taken = c.self.inside.taken;
      gathering = record { is_on = c.self.inside.gathers; commands = c.self.inside.gathered.items };
    } in
    let none : refusal_of_event h c.args.node ≡ None =
    subst (λ q. refusal_of_event q c.args.node ≡ None) (sym c.self.view_is) (sym c.refusal_of_event.ensures ∙ c.in_default.is) in
    let fresh : c.fresh_of-fresh.result.items ≡ fresh_answers h.reach c.in_ok-outcome.outcome (lean_turn_of g.O.Object.rules h.network
    c.args.node c.args.deed).answers =
    c.fresh_of-fresh.ensures ∙ c.in_ok-outcome.ensures.fresh ∙ ap (fresh_answers h.reach c.in_ok-outcome.outcome)
    (ap (λ xs. xs ++ (lean_turn_of g.O.Object.rules h.network c.args.node c.args.deed).answers) c.new-given.ensures.items) in
    let now : Gathering _ = record { is_on = c.self.inside.gathers; commands = c.put.new.gathered.items } in
    let became = deed_became g.O.Object.rules h c.args.node c.args.deed c.act_afresh.new.network c.in_ok-outcome.outcome c.fresh_of-fresh.result.items c.hear.new.self
    c.place.new.self c.key_placed.result c.reach_after-self-inside.result now c.in_ok-outcome.ensures.ok.0 c.in_ok-outcome.ensures.outcome fresh c.hear.ensures
    c.key_placed.ensures c.place.ensures c.reach_after-self-inside.ensures in
    subst (IsForgettingHall g.O.Object.rules) (sym became)
    (goes_on g.O.Object.rules (λ w v e i s room. c.every_world.ensures.next w v e i s room) h (after_deed g.O.Object.rules h c.args.node c.args.deed now)
    (event_of c.args.node c.args.deed) c.self.invariant (event_room h c.args.node none)
    (deed_follows g.O.Object.rules h c.args.node c.halls_rest.ensures.acts c.args.deed c.requires (event_member h c.args.node none) now)
    (counted_deed h.summary h.opened h.taken c.self.invariant.counted _ _))

pub returns-clause-outcome : goal.returns-clause-outcome
returns-clause-outcome g c =
    let h : ForgettingState _ _ _ =
    record {
      network = c.self.inside.network;
      base = c.self.inside.base;
      summary = c.self.inside.clients;
      opened = c.self.inside.opened;
      reach = c.self.inside.reach;
      taken = c.self.inside.taken;
      gathering = record { is_on = c.self.inside.gathers; commands = c.self.inside.gathered.items };
    } in
    c.in_ok-outcome.ensures.outcome
    ∙ sym (outcome_is g.O.Object.rules h c.args.node c.args.deed c.requires)
    ∙ ap (λ q. outcome_rest (rest_of_hall g.O.Object.rules q) c.args.node c.args.deed) c.self.view_is

pub returns-clause-ok : goal.returns-clause-ok
returns-clause-ok g c =
    let h : ForgettingState _ _ _ =
    record {
      network = c.self.inside.network;
      base = c.self.inside.base;
      summary = c.self.inside.clients;
      opened = c.self.inside.opened;
      reach = c.self.inside.reach;
      taken = c.self.inside.taken;
      gathering = record { is_on = c.self.inside.gathers; commands = c.self.inside.gathered.items };
    } in
    let none : refusal_of_event h c.args.node ≡ None =
    subst (λ q. refusal_of_event q c.args.node ≡ None) (sym c.self.view_is) (sym c.refusal_of_event.ensures ∙ c.in_default.is) in
    let fresh : c.fresh_of-fresh.result.items ≡ fresh_answers h.reach c.in_ok-outcome.outcome (lean_turn_of g.O.Object.rules h.network
    c.args.node c.args.deed).answers =
    c.fresh_of-fresh.ensures ∙ c.in_ok-outcome.ensures.fresh ∙ ap (fresh_answers h.reach c.in_ok-outcome.outcome)
    (ap (λ xs. xs ++ (lean_turn_of g.O.Object.rules h.network c.args.node c.args.deed).answers) c.new-given.ensures.items) in
    let now : Gathering _ = record { is_on = c.self.inside.gathers; commands = c.put.new.gathered.items } in
    let became = deed_became g.O.Object.rules h c.args.node c.args.deed c.act_afresh.new.network c.in_ok-outcome.outcome c.fresh_of-fresh.result.items c.hear.new.self
    c.place.new.self c.key_placed.result c.reach_after-self-inside.result now c.in_ok-outcome.ensures.ok.0 c.in_ok-outcome.ensures.outcome fresh c.hear.ensures
    c.key_placed.ensures c.place.ensures c.reach_after-self-inside.ensures in
    ap (rest_of_hall g.O.Object.rules) became
    ∙ deed_is g.O.Object.rules h c.args.node c.args.deed c.requires now
    (all_nodes g.O.Object.rules h c.self.invariant.shown.0 c.self.invariant.shown.2) (event_member h c.args.node none)
    ∙ ap (λ q. done_rest g.O.Object.rules (rest_of_hall g.O.Object.rules q) c.args.node c.args.deed) c.self.view_is

pub returns-clause-event : goal.returns-clause-event
returns-clause-event g c =
    let h : ForgettingState _ _ _ =
    record {
      network = c.self.inside.network;
      base = c.self.inside.base;
      summary = c.self.inside.clients;
      opened = c.self.inside.opened;
      reach = c.self.inside.reach;
      taken = c.self.inside.taken;
      gathering = record { is_on = c.self.inside.gathers; commands = c.self.inside.gathered.items };
    } in
    let none : refusal_of_event h c.args.node ≡ None =
    subst (λ q. refusal_of_event q c.args.node ≡ None) (sym c.self.view_is) (sym c.refusal_of_event.ensures ∙ c.in_default.is) in
    let fresh : c.fresh_of-fresh.result.items ≡ fresh_answers h.reach c.in_ok-outcome.outcome (lean_turn_of g.O.Object.rules h.network
    c.args.node c.args.deed).answers =
    c.fresh_of-fresh.ensures ∙ c.in_ok-outcome.ensures.fresh ∙ ap (fresh_answers h.reach c.in_ok-outcome.outcome)
    (ap (λ xs. xs ++ (lean_turn_of g.O.Object.rules h.network c.args.node c.args.deed).answers) c.new-given.ensures.items) in
    let now : Gathering _ = record { is_on = c.self.inside.gathers; commands = c.put.new.gathered.items } in
    let became = deed_became g.O.Object.rules h c.args.node c.args.deed c.act_afresh.new.network c.in_ok-outcome.outcome c.fresh_of-fresh.result.items c.hear.new.self
    c.place.new.self c.key_placed.result c.reach_after-self-inside.result now c.in_ok-outcome.ensures.ok.0 c.in_ok-outcome.ensures.outcome fresh c.hear.ensures
    c.key_placed.ensures c.place.ensures c.reach_after-self-inside.ensures in
    subst (λ q. FollowsIn g.O.Object.rules q (event_of c.args.node c.args.deed) (record h {
      network = c.act_afresh.new.network;
      summary = c.place.new.self;
      reach = c.reach_after-self-inside.result;
      taken = h.taken + 1;
      gathering = now;
    })) c.self.view_is
    (subst (FollowsIn g.O.Object.rules h (event_of c.args.node c.args.deed)) (sym became)
    (deed_follows g.O.Object.rules h c.args.node c.halls_rest.ensures.acts c.args.deed c.requires (event_member h c.args.node none) now))

pub returns-in_err-make_room-clause-idle : goal.returns-in_err-make_room-clause-idle
returns-in_err-make_room-clause-idle g c = λ none nothing.
    let h : ForgettingState _ _ _ =
    record {
      network = c.self.inside.network;
      base = c.self.inside.base;
      summary = c.self.inside.clients;
      opened = c.self.inside.opened;
      reach = c.self.inside.reach;
      taken = c.self.inside.taken;
      gathering = record { is_on = c.self.inside.gathers; commands = c.self.inside.gathered.items };
    } in
    let empty = none_if h.gathering.is_on (placed_by (rest_of_hall g.O.Object.rules h) c.args.node c.args.deed)
    (nothing_placed g.O.Object.rules h c.args.node c.args.deed
    (subst (λ (q : ForgettingState _ _ _). ComesToNothing g.O.Object.rules (lean_node_of g.O.Object.rules q.network c.args.node).state
    c.args.deed) (sym c.self.view_is) nothing)) in
    let copy : c.in_ok-placed.placed ≡ None =
    c.in_ok-placed.ensures.copy
    ∙ subst (λ (q : ForgettingState _ _ _). cond q.gathering.is_on (placed_by (rest_of_hall g.O.Object.rules q) c.args.node c.args.deed)
    None ≡ None) c.self.view_is empty in
    let taken = c.in_err-make_room.ensures.idle copy in
    absurd (cc)
