use Rattle.std.proofs.Common.{sym, ◌∙◌, ap}
use Rattle.agreement.specs.declared.event.Event.TheVariants.{Submit}
use Rattle.hall.specs.Recorded.{asked}
use Rattle.hall.specs.Halls.{tick_of}
use Rattle.hall.proofs.Called.{follows_in}
use Rattle.hall.proofs.Halls.{tick_event}
use Rattle.hall.proofs.Handing.{value_if, tick_is, tick_member, tick_room}
use Rattle.hall.proofs.hall.Hall.tick.Goals as goal

pub invariant_of-self-2 : goal.invariant_of-self-2
invariant_of-self-2 g c =
    let none = sym c.tick_refusal.ensures ∙ c.in_default.is in
    let made = value_if c.new.result _ _ _ c.new.ensures c.unwrap-command.ensures in
    tick_is g.O.Object.rules c.laws_below.ensures _ _ c.self.view_is c.self.invariant c.args.second c.args.node none
    made.0 c.ask.new.self c.unwrap-command.result made.1 c.in_ok-ask.ensures.ok _ c.max-self-inside.ensures

pub returns-clause-event : goal.returns-clause-event
returns-clause-event g c =
    let none = sym c.tick_refusal.ensures ∙ c.in_default.is in
    let made = value_if c.new.result _ _ _ c.new.ensures c.unwrap-command.ensures in
    follows_in _ _ c.self.view_is g.O.Object.rules (Submit c.args.node (tick_of c.args.second)) _ _
    (c.in_ok-ask.ensures.ok ∙ ap (asked g.O.Object.rules c.self.inside.nodes c.args.node) made.1)
    (tick_event g.O.Object.rules c.laws_below.ensures _ c.self.invariant c.args.node
    (tick_member g.O.Object.rules c.laws_below.ensures _ _ c.self.view_is c.self.invariant c.args.second c.args.node none)
    (tick_room g.O.Object.rules c.laws_below.ensures _ _ c.self.view_is c.self.invariant c.args.second c.args.node none)
    c.args.second made.0)
