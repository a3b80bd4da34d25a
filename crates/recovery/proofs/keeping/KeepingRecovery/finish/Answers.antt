use Rattle.std.proofs.Common.{[], ◌∙◌, subst}
use Rattle.recovery.specs.Opened.{EndsAll}
use Rattle.recovery.proofs.Live.{none_in, none_left}
use Rattle.recovery.proofs.keeping.KeepingRecovery.finish.Goals as goal

pub returns-clause-closes : goal.returns-clause-closes
returns-clause-closes g c =
    let left = c.in_ok-note_all.ensures [] (λ q. none_in c.new-live.result c.new-live.ensures.len q ∙ none_left _ q) in
    subst (EndsAll c.args.commands.now) c.deref.ensures.value (c.end_all.ensures c.if-not-end_all.false c.args.commands.now left)
