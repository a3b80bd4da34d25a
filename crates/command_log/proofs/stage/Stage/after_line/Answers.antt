use Rattle.std.proofs.Common.{inl, inr, sym, subst}
use Rattle.command_log.specs.Progress.{StepsOn}
use Rattle.command_log.proofs.Steps.{stays_bad, stays_damaged}
use Rattle.command_log.proofs.stage.Stage.after_line.Goals as goal

pub returns-in-BadHead : goal.returns-in-BadHead
returns-in-BadHead c = elim c.in-BadHead.is [
  | inl same ↦ subst (λ s. StepsOn s c.args.commands.now.items c.args.line.now s c.args.commands.now.items) (sym same)
      (stays_bad c.args.line.now c.args.commands.now.items)
  | inr (n, same) ↦ subst (λ s. StepsOn s c.args.commands.now.items c.args.line.now s c.args.commands.now.items) (sym same)
      (stays_damaged n c.args.line.now c.args.commands.now.items)
]
