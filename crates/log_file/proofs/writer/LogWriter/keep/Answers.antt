use Rattle.std.proofs.Common.{[]}
use Rattle.log_file.proofs.Holding.{on_err}
use Rattle.log_file.proofs.writer.LogWriter.keep.Goals as goal

pub returns-clause-torn : goal.returns-clause-torn
returns-clause-torn g c = on_err _ c.sync.result
    (λ members commands h. ([], (c.sync.new.self.chain, c.sync.ensures.log [] members commands (c.in_ok-write.ensures.log members commands h))))
