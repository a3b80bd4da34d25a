use Rattle.std.proofs.Common.{sym, subst, append-nil}
use Rattle.command_log.specs.declared.chain.Chain.TheVariants.{Unchained}
use Rattle.command_log.specs.Lines.{IsChain}
use Rattle.command_log.proofs.chain.Chain.at_end.Goals as goal

pub returns-in-One : goal.returns-in-One
returns-in-One c = (subst (λ version. IsChain version Unchained) (sym c.in-One.is) tt, (c.args.words.now, append-nil c.args.words.now))
