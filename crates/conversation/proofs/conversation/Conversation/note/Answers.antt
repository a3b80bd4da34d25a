use Rattle.std.proofs.Common.{◌≡◌, ◌∙◌, Ok, true, false, ap, rules}
use Rattle.conversation.specs.Talks.{ConversationState, is_awaiting}
use Rattle.conversation.specs.Desks.{Notes, noting}
use Rattle.conversation.proofs.Handing.{notes_refused, goes_noting}
use Rattle.conversation.proofs.conversation.Conversation.note.Goals as goal

pub returns-in_err-reply-clause-noted : goal.returns-in_err-reply-clause-noted
returns-in_err-reply-clause-noted g c =
    let asked : is_awaiting c.args.self.now.stage ≡ true = search rules in
    notes_refused g.T.SessionTicket.keeping _ (g.D.Desk.to_note c.args.desk.now c.args.self.now.ticket) _ _ c.from_residual-in_err-reply.result
    c.from_residual-in_err-reply.ensures.0 asked
    ((λ i. record {
      session = c.in_err-reply.ensures.ok.1 i;
      ticket = c.in_ok-note.ensures.noted i;
      stage = c.self.inside.stage;
      has_ended = c.self.inside.has_ended;
    }) ∙ ap (λ (t : ConversationState _). noting g.T.SessionTicket.keeping (g.D.Desk.to_note c.args.desk.now t.ticket) t) c.self.view_is)

pub returns-in_err-reply-clause-goes : goal.returns-in_err-reply-clause-goes
returns-in_err-reply-clause-goes g c = λ fed given.
    goes_noting g.T.SessionTicket.keeping g.met.T.SessionTicket.keeps fed given _ _ _ c.from_residual-in_err-reply.result
    (returns-in_err-reply-clause-noted g c)

pub returns-in_default-noted-clause-goes : goal.returns-in_default-noted-clause-goes
returns-in_default-noted-clause-goes g c = λ fed given.
    let noted : Notes g.T.SessionTicket.keeping (g.D.Desk.to_note c.args.desk.now c.args.self.now.ticket) c.args.self.now
    (record { session = c.self.inside.session; ticket = c.note.new.ticket; stage = c.self.inside.stage; has_ended = c.self.inside.has_ended })
    (Ok false) = search rules in
    goes_noting g.T.SessionTicket.keeping g.met.T.SessionTicket.keeps fed given _ _ _ (Ok false) noted

pub returns-clause-goes : goal.returns-clause-goes
returns-clause-goes g c = λ fed given.
    let noted : Notes g.T.SessionTicket.keeping (g.D.Desk.to_note c.args.desk.now c.args.self.now.ticket) c.args.self.now
    (record { session = c.reply.new.self; ticket = c.note.new.ticket; stage = c.go_to.new.self; has_ended = c.self.inside.has_ended })
    (Ok true) = search rules in
    goes_noting g.T.SessionTicket.keeping g.met.T.SessionTicket.keeps fed given _ _ _ (Ok true) noted
