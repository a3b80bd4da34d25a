use Rattle.std.proofs.Common.{Some, sym, ap, ◌∙◌}
use Rattle.object.specs.declared.command.Command.{Command}
use Rattle.bean_words.specs.declared.op.Op.{Op}
use Rattle.chronicle_text.specs.declared.entry.Entry.TheVariants.{Submitted}
use Rattle.chronicle_text.proofs.spelling.EntryLines.{command_told}
use Rattle.chronicle_text.proofs.spelling.ToldValues.{not_asked}
use Rattle.chronicle_text.proofs.tell.submitted_of.Goals as goal

pub returns-in_err-command : goal.returns-in_err-command
returns-in_err-command c = c.from_residual.ensures ∙ sym (not_asked c.args.key c.args.act c.in_err-command.ensures)

pub returns : goal.returns
returns c = ap (λ (k : Command Op). Some (Submitted k)) c.in_ok-command.ensures.1 ∙ sym (command_told c.args.key c.args.act c.in_ok-command.ensures.0)
