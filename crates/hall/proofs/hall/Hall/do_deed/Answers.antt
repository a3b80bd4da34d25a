use Rattle.std.proofs.Common.{sym, ◌∙◌, subst}
use Rattle.agreement.specs.Events.{event_of}
use Rattle.hall.specs.Explained.{IsBegun}
use Rattle.hall.specs.Halls.{HallState, IsHall}
use Rattle.hall.proofs.Called.{event_member, event_room, follows_in}
use Rattle.hall.proofs.Halls.{deed_is, deed_event}
use Rattle.hall.proofs.Known.{answered_there, placed_there}
use Rattle.hall.proofs.Lawful.{done_begun}
use Rattle.hall.proofs.hall.Hall.do_deed.Goals as goal

pub act-requires-clause-answered : goal.act-requires-clause-answered
act-requires-clause-answered g c =
    let none = sym c.event_refusal.ensures ∙ c.in_default.is in
    let shown = c.self.invariant.shown in
    answered_there g.O.Object.rules c.laws_below.ensures c.self.inside.nodes shown.0 shown.1 shown.2 c.args.node
    (event_member _ _ c.self.view_is c.args.node none)
    (event_room _ _ c.self.view_is c.args.node none) c.args.deed c.requires

pub act-requires-clause-placed : goal.act-requires-clause-placed
act-requires-clause-placed g c =
    let none = sym c.event_refusal.ensures ∙ c.in_default.is in
    let shown = c.self.invariant.shown in
    placed_there g.O.Object.rules c.laws_below.ensures c.self.inside.nodes shown.0 shown.1 shown.2 c.args.node
    (event_member _ _ c.self.view_is c.args.node none)
    (event_room _ _ c.self.view_is c.args.node none) c.args.deed c.requires

pub invariant_of-self-2 : goal.invariant_of-self-2
invariant_of-self-2 g c =
    let none = sym c.event_refusal.ensures ∙ c.in_default.is in
    subst (λ k. IsHall g.O.Object.rules (record { nodes = k; book = c.self.inside.book.items; second = c.self.inside.second })) (sym c.in_ok-outcome.ensures.ok)
    (deed_is g.O.Object.rules c.laws_below.ensures _ c.self.invariant c.args.node
    (event_member _ _ c.self.view_is c.args.node none)
    (event_room _ _ c.self.view_is c.args.node none) c.args.deed c.requires)

pub returns-clause-event : goal.returns-clause-event
returns-clause-event g c =
    let none = sym c.event_refusal.ensures ∙ c.in_default.is in
    follows_in _ _ c.self.view_is g.O.Object.rules (event_of c.args.node c.args.deed) _ _ c.in_ok-outcome.ensures.ok
    (deed_event g.O.Object.rules c.laws_below.ensures _ c.self.invariant c.args.node
    (event_member _ _ c.self.view_is c.args.node none)
    (event_room _ _ c.self.view_is c.args.node none) c.args.deed c.requires)

pub returns-clause-begun : goal.returns-clause-begun
returns-clause-begun g c =
    subst (λ (h : HallState g.row.O-Op.Denot g.row.O-Reply.Denot). IsBegun h.nodes.past c.act.new.self.past) c.self.view_is
    (subst (λ k. IsBegun c.self.inside.nodes.past k.past) (sym c.in_ok-outcome.ensures.ok)
    (done_begun g.O.Object.rules c.laws_below.ensures c.self.inside.nodes c.args.node c.args.deed c.self.invariant.shown))
