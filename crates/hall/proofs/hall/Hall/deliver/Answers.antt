use Rattle.std.proofs.Common.{sym, ◌∙◌}
use Rattle.hall.proofs.Called.{event_member, event_room, received_in, delivered_is, delivered_follows}
use Rattle.hall.proofs.Known.{fit_there}
use Rattle.hall.proofs.hall.Hall.deliver.Goals as goal

pub deliver-requires-clause-fit : goal.deliver-requires-clause-fit
deliver-requires-clause-fit g c =
    let none = sym c.event_refusal.ensures ∙ c.in_default.is in
    let shown = c.self.invariant.shown in
    fit_there g.O.Object.rules c.laws_below.ensures c.self.inside.nodes shown.0 shown.1 shown.2 c.args.node (event_member _ _ c.self.view_is c.args.node none)

pub invariant_of-self-2 : goal.invariant_of-self-2
invariant_of-self-2 g c =
    let none = sym c.event_refusal.ensures ∙ c.in_default.is in
    delivered_is g.O.Object.rules c.laws_below.ensures _ c.self.invariant c.args.node c.deliver.new.self
    c.in_ok-came.ensures.none (event_member _ _ c.self.view_is c.args.node none)
    (event_room _ _ c.self.view_is c.args.node none) c.in_ok-came.ensures.ok

pub returns-clause-ok : goal.returns-clause-ok
returns-clause-ok g c = received_in _ _ c.self.view_is c.args.node c.deliver.new.self c.in_ok-came.ensures.ok

pub returns-clause-event : goal.returns-clause-event
returns-clause-event g c =
    let none = sym c.event_refusal.ensures ∙ c.in_default.is in
    delivered_follows g.O.Object.rules c.laws_below.ensures _ c.self.invariant c.args.node c.deliver.new.self
    c.in_ok-came.ensures.none (event_member _ _ c.self.view_is c.args.node none) c.in_ok-came.ensures.ok _
    c.self.view_is
