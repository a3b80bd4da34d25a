use Rattle.std.proofs.Common.{refl, ◌∙◌, ap}
use Rattle.agreement.specs.declared.event.Event.TheVariants.{Submit}
use Rattle.hall.specs.Recorded.{asked}
use Rattle.hall.proofs.Called.{follows_in}
use Rattle.hall.proofs.Halls.{submit_event}
use Rattle.hall.proofs.Handing.{some_if, value_if, next_in, room_there, command_is, next_is, member_there}
use Rattle.hall.proofs.hall.Hall.submit_next.Goals as goal

pub unwrap-command-requires : goal.unwrap-command-requires
unwrap-command-requires g c =
    some_if c.new.result _ _ c.new.ensures
    (command_is g.O.Object.rules c.laws_below.ensures _ _ c.self.view_is c.self.invariant c.args.key c.args.act c.requires.next c.requires.own c.requires.room)

pub invariant_of-self-2 : goal.invariant_of-self-2
invariant_of-self-2 g c =
    next_is g.O.Object.rules c.laws_below.ensures _ _ c.self.view_is c.self.invariant c.args.key c.args.act c.requires.next c.requires.own c.requires.room
    c.args.node c.requires.member c.ask.new.self c.unwrap-command.result
    (value_if c.new.result _ _ _ c.new.ensures c.unwrap-command.ensures).1 c.in_ok-ask.ensures.ok _ refl

pub returns-clause-event : goal.returns-clause-event
returns-clause-event g c =
    let made = (value_if c.new.result _ _ _ c.new.ensures c.unwrap-command.ensures).1 in
    follows_in _ _ c.self.view_is g.O.Object.rules (Submit c.args.node (record { key = c.args.key; act = c.args.act })) _ _
    (c.in_ok-ask.ensures.ok ∙ ap (asked g.O.Object.rules c.self.inside.nodes c.args.node) made)
    (submit_event g.O.Object.rules c.laws_below.ensures _ c.self.invariant c.args.node
    (member_there g.O.Object.rules c.laws_below.ensures _ _ c.self.view_is c.self.invariant c.args.node c.requires.member)
    (room_there g.O.Object.rules c.laws_below.ensures _ _ c.self.view_is c.self.invariant c.args.key c.args.act c.requires.next c.requires.own c.requires.room)
    (record { key = c.args.key; act = c.args.act })
    (next_in g.O.Object.rules c.laws_below.ensures _ _ c.self.view_is c.self.invariant c.args.key c.args.act c.requires.next c.requires.own c.requires.room)
    (command_is g.O.Object.rules c.laws_below.ensures _ _ c.self.view_is c.self.invariant c.args.key c.args.act c.requires.next c.requires.own c.requires.room))
