use Rattle.std.proofs.Common.{Some, sym, subst}
use Rattle.command_log.specs.declared.stage.Stage.TheVariants.{Head, Right}
use Rattle.command_log.specs.Lines.{Heads}
use Rattle.command_log.specs.Progress.{StepsOn}
use Rattle.command_log.proofs.Steps.{begins, begins_otherwise}
use Rattle.command_log.proofs.stage.after_nothing.Goals as goal

pub returns-in_default : goal.returns-in_default
returns-in_default c = λ commands.
    begins_otherwise c.args.line.now commands (subst (λ read. Heads c.args.line.now read) c.in_default.is c.in_ok-head.ensures)

pub returns : goal.returns
returns c = λ commands.
    let line = c.args.line.now in
    let told : Heads line (Some c.in-Some.head) = subst (λ read. Heads line read) c.in-Some.is c.in_ok-head.ensures in
    subst (λ whole. StepsOn Head commands line (Right whole) commands) (sym c.of_head.ensures)
    (begins line c.in-Some.head c.in_ok-chain.chain commands told c.in_ok-chain.ensures)
