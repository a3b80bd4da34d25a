use Rattle.std.proofs.Common.{ℕ, sym, subst, ◌∙◌}
use Rattle.std.proofs.lemmas.Bool.{false≢true}
use Rattle.command_log.specs.declared.stage.Stage.TheVariants.{Right, Wrong, Damaged}
use Rattle.command_log.specs.Progress.{StepsOn}
use Rattle.command_log.proofs.Steps.{damaged, goes_wrong, unread, wrong_on}
use Rattle.command_log.proofs.stage.after_wrong.Goals as goal

pub returns-then-not-branch-clause-first : goal.returns-then-not-branch-clause-first
returns-then-not-branch-clause-first c = λ commands none.
    goes_wrong c.args.whole c.args.line.now commands
    (λ right. false≢true (sym c.if-not-branch.true ∙ c.in_ok-is_right.ensures.1 right))

pub returns-then-not-branch-clause-later : goal.returns-then-not-branch-clause-later
returns-then-not-branch-clause-later c = λ commands.
    wrong_on c.args.whole c.args.line.now commands
    (λ right. false≢true (sym c.if-not-branch.true ∙ c.in_ok-is_right.ensures.1 right))

pub returns-clause-first : goal.returns-clause-first
returns-clause-first c = λ commands none.
    let line = c.args.line.now in
    subst (λ (n : ℕ). StepsOn (Right c.args.whole) commands line (Damaged n) commands) (sym c.saturating_add.ensures)
    (unread c.args.whole line commands none (c.in_ok-is_right.ensures.0 c.if-not-branch.false))

pub returns-clause-later : goal.returns-clause-later
returns-clause-later c = λ commands.
    let line = c.args.line.now in
    subst (λ (n : ℕ). StepsOn (Wrong c.args.whole) commands line (Damaged n) commands) (sym c.saturating_add.ensures)
    (damaged c.args.whole line commands (c.in_ok-is_right.ensures.0 c.if-not-branch.false))
