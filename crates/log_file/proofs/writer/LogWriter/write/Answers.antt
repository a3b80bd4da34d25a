use Rattle.std.proofs.Common.{rules}
use Rattle.log_file.specs.Bytes.{WritesBatch}
use Rattle.log_file.proofs.Holding.{on_err, torn_off}
use Rattle.log_file.proofs.writer.LogWriter.write.Goals as goal

pub returns-in-Err-clause-torn : goal.returns-in-Err-clause-torn
returns-in-Err-clause-torn g c =
    let written : WritesBatch (g.W.Write.contents c.args.self.now.writer) (g.W.Write.contents c.write_all.new.writer) c.args.self.now.batch
    c.write_all.result = search rules in
    on_err _ c.map_err-result.result (torn_off _ _ _ c.args.self.now.chain _ written)
