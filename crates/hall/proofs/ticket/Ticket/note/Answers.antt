use Rattle.hall.proofs.Noting.{noted_last}
use Rattle.hall.proofs.ticket.Ticket.note.Goals as goal

pub returns-in-Some : goal.returns-in-Some
returns-in-Some g c = noted_last c.args.reply _ _ _ _ _ c.in-Some.last c.with_reply.result c.self.view_is
    c.in-Some.ensures.items c.with_reply.ensures.act c.with_reply.ensures.reply c.push_reserved.ensures.items
