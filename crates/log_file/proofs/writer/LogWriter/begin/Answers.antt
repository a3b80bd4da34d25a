use Rattle.log_file.proofs.Holding.{begun}
use Rattle.log_file.proofs.writer.LogWriter.begin.Goals as goal

pub returns-clause-log : goal.returns-clause-log
returns-clause-log g c = λ empty.
    begun _ _ _ _ c.args.members c.weights.ensures.members c.new-batch.ensures.items c.in_ok-chain.ensures.ok.0 c.in_ok-chain.ensures.chain empty
