use Rattle.std.proofs.Common.{true, refl, ◌∙◌}
use Rattle.command_log.proofs.Feeding.{reads_line}
use Rattle.command_log.proofs.reader.LogReader.end_line.Goals as goal

pub returns : goal.returns
returns c =
    reads_line c.args.self (record { line = c.clear.new.self; begun = true; stage = c.in_ok-stage.stage }) c.args.commands.now.items
    c.after_line.new.commands.items c.args.end.now c.deref.result.now c.in_ok-stage.stage c.requires
    (c.deref.ensures.value ∙ c.in_ok-keep.ensures) c.in_ok-stage.ensures c.clear.ensures.items refl refl
