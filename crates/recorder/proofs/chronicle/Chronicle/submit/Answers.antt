use Rattle.recorder.proofs.Grown.{submitted_is}
use Rattle.recorder.proofs.chronicle.Chronicle.submit.Goals as goal

pub invariant_of-self-2 : goal.invariant_of-self-2
invariant_of-self-2 g c =
    rw (c.in_ok-push.ensures.items, c.len.ensures, c.self.inside.answers.ok.0)
    (submitted_is {Op = g.row.Op.Denot} {Reply = g.row.Reply.Denot} c.args.command
    (record {
      members = c.self.inside.members;
      submitted = c.self.inside.submitted.items;
      answers = c.self.inside.answers.items;
      order = c.self.inside.order.items;
    })
    c.self.invariant)
