use Rattle.std.proofs.Common.{◌++◌, subst}
use Rattle.std.proofs.lemmas.List.{take_all}
use Rattle.recovery.specs.Obeyed.{AreLeftOpen}
use Rattle.recovery.proofs.Live.{live_item}
use Rattle.recovery.proofs.open_sessions.note_all.Goals as goal

pub loop-command-preserved : goal.loop-command-preserved
loop-command-preserved g c = λ before left.
    live_item c.args.commands.now before c.loop-command.command-index c.command-item.result c.loop-command-test.true c.command-item.is c.note.new.live
    (c.in_ok-note.ensures _ (c.loop-command.invariant before left))

pub returns : goal.returns
returns g c = λ before left.
    subst (λ ds. AreLeftOpen c.loop-command.live (before ++ ds)) (take_all c.loop-command.command-index c.args.commands.now c.loop-command-test.false)
    (c.loop-command.invariant before left)
