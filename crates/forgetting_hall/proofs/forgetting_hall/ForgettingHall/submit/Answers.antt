use Rattle.std.proofs.Common.{◌≡◌, ◌+◌, None, subst, sym, ap, rules, arith, ◌∙◌}
use Rattle.std.proofs.lemmas.Grind.{common_steps}
use Rattle.agreement.specs.declared.event.Event.TheVariants.{Submit}
use Rattle.hall.proofs.Handing.{value_if}
use Rattle.client_table.specs.Clients.{with_command}
use Rattle.forgetting_hall.specs.Halls.{ForgettingState, IsForgettingHall, FollowsIn, rest_of_hall}
use Rattle.forgetting_hall.specs.Handing.{asked_lean, last_number_of, next_of}
use Rattle.forgetting_hall.specs.Refusing.{refusal_of_submit}
use Rattle.forgetting_hall.specs.Rests.{handed_in}
use Rattle.forgetting_hall.proofs.Counting.{counted_command}
use Rattle.forgetting_hall.proofs.Keeping.{goes_on, all_nodes}
use Rattle.forgetting_hall.proofs.Asking.{after_next, next_is, next_follows, submit_member, submit_room, submit_next, submit_low}
use Rattle.forgetting_hall.proofs.forgetting_hall.ForgettingHall.submit.Goals as goal

pub invariant_of-self-2 : goal.invariant_of-self-2
invariant_of-self-2 g c =
    let h : ForgettingState _ _ _ =
    record {
      network = c.self.inside.network;
      base = c.self.inside.base;
      summary = c.self.inside.clients;
      opened = c.self.inside.opened;
      reach = c.self.inside.reach;
      taken = c.self.inside.taken;
      gathering = record { is_on = c.self.inside.gathers; commands = c.self.inside.gathered.items };
    } in
    let none : refusal_of_submit h c.args.session c.args.act c.args.node ≡ None =
    subst (λ q. refusal_of_submit q c.args.session c.args.act c.args.node ≡ None) (sym c.self.view_is) (sym c.refusal_of_submit.ensures ∙ c.in_default.is) in
    let number : c.last_number-number.result ≡ last_number_of h c.args.session =
    c.last_number-number.ensures.number ∙ ap (λ (q : ForgettingState _ _ _). last_number_of q c.args.session) (sym c.self.view_is) in
    let made = (value_if c.new.result _ _ _ c.new.ensures c.unwrap-command.ensures).1
    ∙ ap (λ n. record { key = record { session = c.args.session; number = n + 1 }; act = c.args.act }) number in
    let nodes = c.in_ok-ask.ensures.ok ∙ ap (asked_lean g.O.Object.rules h.network c.args.node) (c.in_ok-copy.ensures ∙ made) in
    let told = c.hand_in.ensures ∙ ap (λ d. with_command d h.summary) made in
    let became : record h { network = c.ask.new.network; summary = c.hand_in.new.self; taken = h.taken + 1 } ≡ after_next g.O.Object.rules h
    c.args.node (next_of h c.args.session c.args.act) =
    λ i. record h { network = nodes i; summary = told i; taken = h.taken + 1 } in
    subst (IsForgettingHall g.O.Object.rules) (sym became)
    (goes_on g.O.Object.rules (λ w v e i s room. c.every_world.ensures.next w v e i s room) h (after_next g.O.Object.rules h c.args.node
    (next_of h c.args.session c.args.act))
    (Submit c.args.node (next_of h c.args.session c.args.act)) c.self.invariant (submit_room h c.args.session c.args.act c.args.node none)
    (next_follows g.O.Object.rules h c.args.node (next_of h c.args.session c.args.act) c.halls_rest.ensures.hands_in
    (submit_member h c.args.session c.args.act c.args.node none) (submit_next h c.args.session c.args.act c.args.node none))
    (counted_command h.summary h.opened h.taken c.self.invariant.counted (next_of h c.args.session c.args.act) (submit_low h c.args.session
    c.args.act c.args.node none c.self.invariant.counted)))

pub returns : goal.returns
returns g c =
    let h : ForgettingState _ _ _ =
    record {
      network = c.self.inside.network;
      base = c.self.inside.base;
      summary = c.self.inside.clients;
      opened = c.self.inside.opened;
      reach = c.self.inside.reach;
      taken = c.self.inside.taken;
      gathering = record { is_on = c.self.inside.gathers; commands = c.self.inside.gathered.items };
    } in
    let none : refusal_of_submit h c.args.session c.args.act c.args.node ≡ None =
    subst (λ q. refusal_of_submit q c.args.session c.args.act c.args.node ≡ None) (sym c.self.view_is) (sym c.refusal_of_submit.ensures ∙ c.in_default.is) in
    let number : c.last_number-number.result ≡ last_number_of h c.args.session =
    c.last_number-number.ensures.number ∙ ap (λ (q : ForgettingState _ _ _). last_number_of q c.args.session) (sym c.self.view_is) in
    let made = (value_if c.new.result _ _ _ c.new.ensures c.unwrap-command.ensures).1
    ∙ ap (λ n. record { key = record { session = c.args.session; number = n + 1 }; act = c.args.act }) number in
    let nodes = c.in_ok-ask.ensures.ok ∙ ap (asked_lean g.O.Object.rules h.network c.args.node) (c.in_ok-copy.ensures ∙ made) in
    let told = c.hand_in.ensures ∙ ap (λ d. with_command d h.summary) made in
    let became : record h { network = c.ask.new.network; summary = c.hand_in.new.self; taken = h.taken + 1 } ≡ after_next g.O.Object.rules h
    c.args.node (next_of h c.args.session c.args.act) =
    λ i. record h { network = nodes i; summary = told i; taken = h.taken + 1 } in
    record {
      ok = record {
        ok = ap (rest_of_hall g.O.Object.rules) became
            ∙ next_is g.O.Object.rules h c.args.node (next_of h c.args.session c.args.act) (all_nodes g.O.Object.rules h c.self.invariant.shown.0
            c.self.invariant.shown.2) (submit_member h c.args.session c.args.act c.args.node none)
            ∙ ap (λ (q : ForgettingState _ _ _). handed_in g.O.Object.rules (rest_of_hall g.O.Object.rules q) c.args.node
            (next_of q c.args.session c.args.act)) c.self.view_is;
        event = subst (λ (q : ForgettingState _ _ _). FollowsIn g.O.Object.rules q (Submit c.args.node (next_of q c.args.session c.args.act))
            (record h { network = c.ask.new.network; summary = c.hand_in.new.self; taken = h.taken + 1 })) c.self.view_is
            (subst (FollowsIn g.O.Object.rules h (Submit c.args.node (next_of h c.args.session c.args.act))) (sym became)
            (next_follows g.O.Object.rules h c.args.node (next_of h c.args.session c.args.act) c.halls_rest.ensures.hands_in
            (submit_member h c.args.session c.args.act c.args.node none) (submit_next h c.args.session c.args.act c.args.node none)));
        gathering = ap (λ (q : ForgettingState _ _ _). q.gathering) c.self.view_is;
        refused = search rules;
      };
    }

pub returns-in_err-ask : goal.returns-in_err-ask
returns-in_err-ask g c =
    let none : refusal_of_submit c.args.self.now c.args.session c.args.act c.args.node ≡ None = sym c.refusal_of_submit.ensures ∙ c.in_default.is in
    let h : ForgettingState _ _ _ =
    record {
      network = c.self.inside.network;
      base = c.self.inside.base;
      summary = c.self.inside.clients;
      opened = c.self.inside.opened;
      reach = c.self.inside.reach;
      taken = c.self.inside.taken;
      gathering = record { is_on = c.self.inside.gathers; commands = c.self.inside.gathered.items };
    } in
    let same : record h { network = c.ask.new.network } ≡ c.args.self.now =
    ap (λ k. record h { network = k }) c.in_err-ask.ensures.err ∙ c.self.view_is in
    record {
      ok = record {
        ok = search rules;
        event = search rules;
        gathering = search rules;
        refused = record { refused = λ r is. absurd (let e = sym none ∙ is in cc); memory = grind (arith, common_steps); err = search rules };
      };
    }
