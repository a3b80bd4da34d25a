use Rattle.log_file.proofs.Recovering.{is_recovered}
use Rattle.log_file.proofs.reader.finish_log.Goals as goal

pub returns-in-Ok-clause-ok : goal.returns-in-Ok-clause-ok
returns-in-Ok-clause-ok c = λ text read count.
    is_recovered text _ c.args.bytes (c.in-Ok.ensures.whole text c.args.commands.items read) count c.saturating_sub.ensures

pub returns-in-Err-clause-fault : goal.returns-in-Err-clause-fault
returns-in-Err-clause-fault c = λ text read. c.in-Err.ensures.fault text c.args.commands.items read
