use Rattle.std.proofs.Common.{◌≤◌, [], length, sym, subst}
use Rattle.log_file.specs.Logs.{HoldsLog}
use Rattle.journal.specs.Waiting.{JournalState}
use Rattle.journal.proofs.journal.Journal.keep.Goals as goal

pub returns-clause-log : goal.returns-clause-log
returns-clause-log g c = λ members commands holds.
    let written = subst (λ (j : JournalState _). HoldsLog (g.W.Write.contents j.log.writer) [] j.log.chain members commands × (j.written ≤ length commands))
    (sym c.self.view_is) (c.in_ok-write.ensures.log members commands holds) in
    (c.sync.ensures.log [] members commands written.0, written.1)
