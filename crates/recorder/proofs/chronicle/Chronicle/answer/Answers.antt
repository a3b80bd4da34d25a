use Rattle.recorder.proofs.Grown.{answered_is}
use Rattle.recorder.proofs.chronicle.Chronicle.answer.Goals as goal

pub invariant_of-self-2 : goal.invariant_of-self-2
invariant_of-self-2 g c =
    rw c.in_ok-push.ensures.items
    (answered_is {Op = g.row.Op.Denot} {Reply = g.row.Reply.Denot} c.args.answer
    (record {
      members = c.self.inside.members;
      submitted = c.self.inside.submitted.items;
      answers = c.self.inside.answers.items;
      order = c.self.inside.order.items;
    })
    c.self.invariant)
