use Rattle.std.proofs.Common.{sym, ◌∙◌, subst}
use Rattle.agreement.specs.declared.event.Event.TheVariants.{Submit}
use Rattle.hall.specs.declared.ticket.NotedAct.{NotedAct}
use Rattle.hall.specs.Shows.{Follows}
use Rattle.hall.specs.Tickets.{last_command}
use Rattle.hall.proofs.Again.{again_room, made_last, again_hall, again_follows, again_past, last_one}
use Rattle.hall.proofs.Handing.{some_if, value_if}
use Rattle.hall.proofs.hall.Hall.resubmit.Goals as goal

pub unwrap-command-requires : goal.unwrap-command-requires
unwrap-command-requires g c =
    some_if c.new.result _ _ c.new.ensures
    (made_last g.O.Object.rules c.laws_below.ensures g.O.Op.PartialEq.eq g.met.O.Op.Value.exact _ _ c.self.view_is
    c.self.invariant c.args.ticket.now c.args.node
    (sym c.resubmit_refusal.ensures ∙ c.in_default.is) c.in-Some-last.last.now
    (sym c.in-Some-last.ensures) c.last_key.result c.last_key.ensures c.in_ok-copy.field-0 c.in_ok-copy.ensures)

pub ask-requires-clause-room : goal.ask-requires-clause-room
ask-requires-clause-room g c =
    again_room g.O.Object.rules c.laws_below.ensures g.O.Op.PartialEq.eq g.met.O.Op.Value.exact _ _ c.self.view_is
    c.self.invariant c.args.ticket.now c.args.node
    (sym c.resubmit_refusal.ensures ∙ c.in_default.is) c.in-Some-last.last.now (sym c.in-Some-last.ensures)

pub invariant_of-self-2 : goal.invariant_of-self-2
invariant_of-self-2 g c =
    again_hall g.O.Object.rules c.laws_below.ensures g.O.Op.PartialEq.eq g.met.O.Op.Value.exact _ _ c.self.view_is
    c.self.invariant c.args.ticket.now c.args.node
    (sym c.resubmit_refusal.ensures ∙ c.in_default.is) c.in-Some-last.last.now (sym c.in-Some-last.ensures)
    c.unwrap-command.result ((value_if c.new.result _ _ _ c.new.ensures c.unwrap-command.ensures).1 ∙
    (λ i. record { key = c.last_key.ensures i; act = c.in_ok-copy.ensures i })) c.ask.new.self
    c.in_ok-ask.ensures.ok

pub returns-clause-event : goal.returns-clause-event
returns-clause-event g c = λ noted e.
    subst (λ (q : NotedAct g.row.O-Op.Denot g.row.O-Reply.Denot). Follows g.O.Object.rules c.args.self.now.nodes
    (Submit c.args.node (last_command c.args.ticket.now q.act)) c.ask.new.self)
    (last_one _ _ _ (sym c.in-Some-last.ensures) e)
    (again_follows g.O.Object.rules c.laws_below.ensures g.O.Op.PartialEq.eq g.met.O.Op.Value.exact _ _ c.self.view_is
    c.self.invariant c.args.ticket.now c.args.node
    (sym c.resubmit_refusal.ensures ∙ c.in_default.is) c.in-Some-last.last.now (sym c.in-Some-last.ensures)
    c.unwrap-command.result ((value_if c.new.result _ _ _ c.new.ensures c.unwrap-command.ensures).1 ∙
    (λ i. record { key = c.last_key.ensures i; act = c.in_ok-copy.ensures i })) c.ask.new.self
    c.in_ok-ask.ensures.ok)

pub returns-clause-past : goal.returns-clause-past
returns-clause-past g c =
    again_past g.O.Object.rules c.laws_below.ensures g.O.Op.PartialEq.eq g.met.O.Op.Value.exact _ _ c.self.view_is
    c.self.invariant c.args.ticket.now c.args.node
    (sym c.resubmit_refusal.ensures ∙ c.in_default.is) c.in-Some-last.last.now (sym c.in-Some-last.ensures)
    c.unwrap-command.result ((value_if c.new.result _ _ _ c.new.ensures c.unwrap-command.ensures).1 ∙
    (λ i. record { key = c.last_key.ensures i; act = c.in_ok-copy.ensures i })) c.ask.new.self
    c.in_ok-ask.ensures.ok
