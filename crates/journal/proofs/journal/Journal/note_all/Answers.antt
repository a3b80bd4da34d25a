use Rattle.std.proofs.Common.{rules, ◌<◌, subst, ◌∙◌}
use Rattle.journal.proofs.journal.Journal.note_all.Goals as goal
use Rattle.journal.proofs.Noting.{note_next}

pub loop-self-preserved : goal.loop-self-preserved
loop-self-preserved g c = record {
  log = λ members commands holds. note_next g.W.Write.contents c.loop-self.self-inside.log c.note.new.self c.loop-self.self-inside.waiting.items
      c.loop-self.self-inside.noted c.loop-self.self-inside.due c.loop-self.self-inside.written c.loop-self.self-inside.synced c.index.result.now
      (subst (λ n. c.loop-self.self-inside.noted < n) (c.len.ensures ∙ c.loop-self.self-inside.waiting.ok.0) c.loop-self-test.true)
      (search rules) c.in_ok-note.ensures.log members commands
      (c.loop-self.invariant.log members commands holds);
  due = c.loop-self.invariant.due;
  written = c.loop-self.invariant.written;
  synced = c.loop-self.invariant.synced;
}
