use Rattle.std.proofs.Common.{rules}
use Rattle.conversation.specs.Desks.{HandsIn}
use Rattle.conversation.proofs.Handing.{goes_handing_in}
use Rattle.conversation.proofs.conversation.Conversation.hand_in.Goals as goal

pub returns-in-Found-clause-goes : goal.returns-in-Found-clause-goes
returns-in-Found-clause-goes g c = λ fed given.
    let keeping = g.T.SessionTicket.keeping in
    let handed_in : HandsIn keeping g.D.Desk.submits c.args.desk.now c.hand_in_op.new.desk c.args.self.now c.hand_in_op.new.self c.hand_in_op.result =
    search rules in
    goes_handing_in keeping g.met.T.SessionTicket.keeps fed given c.args.self.now c.hand_in_op.new.self g.D.Desk.submits
    c.args.desk.now c.hand_in_op.new.desk c.hand_in_op.result handed_in

pub returns-in-Leaving-clause-goes : goal.returns-in-Leaving-clause-goes
returns-in-Leaving-clause-goes g c = λ fed given.
    let keeping = g.T.SessionTicket.keeping in
    let handed_in : HandsIn keeping g.D.Desk.submits c.args.desk.now c.hand_in_end.new.desk c.args.self.now c.hand_in_end.new.self c.hand_in_end.result =
    search rules in
    goes_handing_in keeping g.met.T.SessionTicket.keeps fed given c.args.self.now c.hand_in_end.new.self g.D.Desk.submits
    c.args.desk.now c.hand_in_end.new.desk c.hand_in_end.result handed_in
