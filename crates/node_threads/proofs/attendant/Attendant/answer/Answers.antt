use Rattle.std.proofs.Common.{Some, ◌∙◌, sym, ap}
use Rattle.node_threads.proofs.Noting.{noted_last}
use Rattle.node_threads.proofs.attendant.Attendant.answer.Goals as goal

pub returns-in-Ok-copy-clause-noted : goal.returns-in-Ok-copy-clause-noted
returns-in-Ok-copy-clause-noted g c =
    let noted = c.in-Ok.ensures.noted in
    noted_last c.args.self.now.ticket c.note_answer.new.ticket noted.0 c.in-Ok-copy.reply noted.1
    (sym c.in-Some.ensures ∙ ap (λ r. Some r) (sym c.in-Ok-copy.ensures))
