use Rattle.std.proofs.Common.{◌++◌, codes, ap, ◌∙◌}
use Rattle.command_log.proofs.Spelled.{reads_command}
use Rattle.command_log.proofs.line.command_of.Goals as goal

pub returns : goal.returns
returns c =
    let words = c.args.words.now in
    reads_command words c.deref.result.now c.in_ok-read_entry.field-0 c.told_command.result
    (c.deref.ensures.value ∙ c.in_ok-extend_from_slice-3.ensures.items ∙ ap (λ t. t ++ codes "\n")
    (c.in_ok-extend_from_slice-2.ensures.items ∙ ap (λ t. t ++ words)
    (c.in_ok-extend_from_slice.ensures.items ∙ ap (λ t. t ++ codes "S ") c.new-dumped.ensures.items)))
    c.in_ok-read_entry.ensures c.told_command.ensures
