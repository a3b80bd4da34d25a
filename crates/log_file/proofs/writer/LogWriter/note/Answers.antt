use Rattle.std.proofs.Common.{rules}
use Rattle.log_file.specs.Logs.{HoldsLog}
use Rattle.log_file.proofs.Holding.{noted}
use Rattle.log_file.proofs.writer.LogWriter.note.Goals as goal

pub returns-clause-log : goal.returns-clause-log
returns-clause-log g c = λ members commands h.
    let held : HoldsLog (g.W.Write.contents c.self.inside.writer) c.self.inside.batch.items c.self.inside.chain members commands = search rules in
    let written = c.in_ok-self-inside.ensures in
    noted _ _ _ _ _ members commands c.args.command.now written.logged written.ok.0 written.next held
