use Rattle.std.proofs.Common.{◌≡◌, ◌+◌, None, Some, subst, sym, ap, ◌∙◌}
use Rattle.object.specs.declared.command.Command.{Command}
use Rattle.ballot.specs.Rests.{rest_of_body}
use Rattle.ballot.specs.declared.letter.Letter.{Letter}
use Rattle.ballot.specs.declared.letter.LetterBody.{LetterBody}
use Rattle.network.specs.Networks.{front}
use Rattle.node.specs.Receiving.{IsFit}
use Rattle.lean_network.specs.LeanNetworks.{LeanState, lean_mail_of}
use Rattle.lean_network.proofs.States.{state_at}
use Rattle.forgetting_hall.specs.Halls.{ForgettingState, FollowsLeft, ShowsStill, rest_of_hall, is_received}
use Rattle.forgetting_hall.specs.Refusing.{refusal_of_event}
use Rattle.forgetting_hall.specs.Rests.{IsReceivedRest, lost_rest}
use Rattle.forgetting_hall.proofs.Counting.{counted_more}
use Rattle.forgetting_hall.proofs.Keeping.{stays}
use Rattle.forgetting_hall.proofs.Following.{event_member, event_room, received_from, dropped_still, goes_on_left, received_is, left_follows}
use Rattle.forgetting_hall.proofs.forgetting_hall.ForgettingHall.deliver.Goals as goal

pub deliver-requires-clause-fit : goal.deliver-requires-clause-fit
deliver-requires-clause-fit g c = λ l left at was.
    let h : ForgettingState _ _ _ =
    record {
      network = c.self.inside.network;
      base = c.self.inside.base;
      summary = c.self.inside.clients;
      opened = c.self.inside.opened;
      reach = c.self.inside.reach;
      taken = c.self.inside.taken;
      gathering = record { is_on = c.self.inside.gathers; commands = c.self.inside.gathered.items };
    } in
    let none : refusal_of_event h c.args.node ≡ None =
    subst (λ q. refusal_of_event q c.args.node ≡ None) (sym c.self.view_is) (sym c.refusal_of_event.ensures ∙ c.in_default.is) in
    subst (λ x. IsFit x left) (state_at g.O.Object.rules h.network c.args.node)
    (c.letters_fit.ensures (rest_of_hall g.O.Object.rules h) c.self.invariant.shown.0 c.args.node l left c.self.invariant.shown.1 c.self.invariant.shown.2
    (event_member h c.args.node none) at was)

pub invariant_of-self-then-is_received : goal.invariant_of-self-then-is_received
invariant_of-self-then-is_received g c =
    let h : ForgettingState _ _ _ =
    record {
      network = c.self.inside.network;
      base = c.self.inside.base;
      summary = c.self.inside.clients;
      opened = c.self.inside.opened;
      reach = c.self.inside.reach;
      taken = c.self.inside.taken;
      gathering = record { is_on = c.self.inside.gathers; commands = c.self.inside.gathered.items };
    } in
    let none : refusal_of_event h c.args.node ≡ None =
    subst (λ q. refusal_of_event q c.args.node ≡ None) (sym c.self.view_is) (sym c.refusal_of_event.ensures ∙ c.in_default.is) in
    let got = received_from h.base (front (lean_mail_of h.network c.args.node))
    (ap is_received (sym c.in_ok-receipt.ensures.came) ∙ sym c.is_received.ensures ∙ c.if-is_received.true) in
    let follows = left_follows g.O.Object.rules h c.args.node c.halls_rest.ensures.receives (event_member h c.args.node none) in
    goes_on_left g.O.Object.rules h c.args.node (λ w v e i s room. c.every_world.ensures.next w v e i s room) got.0 got.1
    (record h { network = c.deliver.new.self; taken = h.taken + 1 }) c.self.invariant (event_room h c.args.node none)
    (follows got.0 got.1 c.deliver.new.self got.2 got.3 (c.in_ok-receipt.ensures.received got.0 got.1 got.2 got.3))
    (counted_more h.summary h.opened h.taken c.self.invariant.counted)

pub invariant_of-self-else-is_received : goal.invariant_of-self-else-is_received
invariant_of-self-else-is_received g c =
    let h : ForgettingState _ _ _ =
    record {
      network = c.self.inside.network;
      base = c.self.inside.base;
      summary = c.self.inside.clients;
      opened = c.self.inside.opened;
      reach = c.self.inside.reach;
      taken = c.self.inside.taken;
      gathering = record { is_on = c.self.inside.gathers; commands = c.self.inside.gathered.items };
    } in
    stays g.O.Object.rules h (record h { network = c.deliver.new.self }) c.self.invariant
    (dropped_still g.O.Object.rules h c.args.node c.halls_rest.ensures.loses c.deliver.new.self
    (ap is_received (sym c.in_ok-receipt.ensures.came) ∙ sym c.is_received.ensures ∙ c.if-is_received.false)
    c.in_ok-receipt.ensures.forgotten c.in_ok-receipt.ensures.none) c.self.invariant.counted

pub returns-then-is_received-clause-ok : goal.returns-then-is_received-clause-ok
returns-then-is_received-clause-ok g c =
    let h : ForgettingState _ _ _ =
    record {
      network = c.self.inside.network;
      base = c.self.inside.base;
      summary = c.self.inside.clients;
      opened = c.self.inside.opened;
      reach = c.self.inside.reach;
      taken = c.self.inside.taken;
      gathering = record { is_on = c.self.inside.gathers; commands = c.self.inside.gathered.items };
    } in
    subst (λ (q : ForgettingState _ _ _). (l : Letter (Command g.row.O-Op.Denot)) (left : LetterBody (Command g.row.O-Op.Denot)) →
    front (lean_mail_of q.network c.args.node) ≡ Some l
    → rest_of_body q.base l.body ≡ Some left
    → IsReceivedRest (rest_of_hall g.O.Object.rules q) c.args.node l left (rest_of_hall g.O.Object.rules
    (record h { network = c.deliver.new.self; taken = h.taken + 1 }))) c.self.view_is
    (λ l left at was. received_is g.O.Object.rules h c.args.node l left c.deliver.new.self (c.in_ok-receipt.ensures.received l left at was))

pub returns-then-is_received-clause-event : goal.returns-then-is_received-clause-event
returns-then-is_received-clause-event g c =
    let h : ForgettingState _ _ _ =
    record {
      network = c.self.inside.network;
      base = c.self.inside.base;
      summary = c.self.inside.clients;
      opened = c.self.inside.opened;
      reach = c.self.inside.reach;
      taken = c.self.inside.taken;
      gathering = record { is_on = c.self.inside.gathers; commands = c.self.inside.gathered.items };
    } in
    let none : refusal_of_event h c.args.node ≡ None =
    subst (λ q. refusal_of_event q c.args.node ≡ None) (sym c.self.view_is) (sym c.refusal_of_event.ensures ∙ c.in_default.is) in
    subst (λ (q : ForgettingState _ _ _). (l : Letter (Command g.row.O-Op.Denot)) (left : LetterBody (Command g.row.O-Op.Denot)) →
    front (lean_mail_of q.network c.args.node) ≡ Some l
    → rest_of_body q.base l.body ≡ Some left
    → FollowsLeft g.O.Object.rules q c.args.node l left (record h { network = c.deliver.new.self; taken = h.taken + 1 })) c.self.view_is
    (λ l left at was. left_follows g.O.Object.rules h c.args.node c.halls_rest.ensures.receives (event_member h c.args.node none)
    l left c.deliver.new.self at was (c.in_ok-receipt.ensures.received l left at was))

pub returns-else-is_received-clause-still : goal.returns-else-is_received-clause-still
returns-else-is_received-clause-still g c =
    let h : ForgettingState _ _ _ =
    record {
      network = c.self.inside.network;
      base = c.self.inside.base;
      summary = c.self.inside.clients;
      opened = c.self.inside.opened;
      reach = c.self.inside.reach;
      taken = c.self.inside.taken;
      gathering = record { is_on = c.self.inside.gathers; commands = c.self.inside.gathered.items };
    } in
    subst (λ (q : ForgettingState _ _ _). (l : Letter (Command g.row.O-Op.Denot)) → front (lean_mail_of q.network c.args.node) ≡ Some l
    → rest_of_body q.base l.body ≡ None → ShowsStill g.O.Object.rules q (record h { network = c.deliver.new.self })) c.self.view_is
    (λ l at was. dropped_still g.O.Object.rules h c.args.node c.halls_rest.ensures.loses c.deliver.new.self
    (ap is_received (sym c.in_ok-receipt.ensures.came) ∙ sym c.is_received.ensures ∙ c.if-is_received.false)
    c.in_ok-receipt.ensures.forgotten c.in_ok-receipt.ensures.none)

pub returns-else-is_received-clause-forgotten : goal.returns-else-is_received-clause-forgotten
returns-else-is_received-clause-forgotten g c =
    let h : ForgettingState _ _ _ =
    record {
      network = c.self.inside.network;
      base = c.self.inside.base;
      summary = c.self.inside.clients;
      opened = c.self.inside.opened;
      reach = c.self.inside.reach;
      taken = c.self.inside.taken;
      gathering = record { is_on = c.self.inside.gathers; commands = c.self.inside.gathered.items };
    } in
    subst (λ (q : ForgettingState _ _ _). (l : Letter (Command g.row.O-Op.Denot)) → front (lean_mail_of q.network c.args.node) ≡ Some l
    → rest_of_body q.base l.body ≡ None
    → rest_of_hall g.O.Object.rules (record h { network = c.deliver.new.self }) ≡ lost_rest (rest_of_hall g.O.Object.rules q) c.args.node) c.self.view_is
    (λ l at was. ap (λ (k : LeanState _ _). rest_of_hall g.O.Object.rules (record h { network = k })) (c.in_ok-receipt.ensures.forgotten l at was))
