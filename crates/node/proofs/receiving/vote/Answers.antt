use Rattle.std.proofs.Common.{sym, ◌∙◌}
use Rattle.node.proofs.Keeping.{keeps_refused}
use Rattle.node.proofs.receiving.vote.Goals as goal

pub returns-else-has_promised-clause-state : goal.returns-else-has_promised-clause-state
returns-else-has_promised-clause-state g c =
    keeps_refused c.ballot_laws.ensures c.args.acceptor.now c.args.pvalue.now (sym c.has_promised.ensures ∙ c.if-has_promised.false)
