use Rattle.std.proofs.Common.{◌++◌, codes, None, Some, ap, ◌∙◌}
use Rattle.std.proofs.lemmas.Bool.Decides.{Decides-eqb}
use Rattle.std.proofs.lemmas.Slice.Eq.{strip_prefix_is}
use Rattle.command_log.specs.Text.{log_name}
use Rattle.command_log.proofs.Spelled.{no_head, reads_head}
use Rattle.command_log.proofs.head.members_in.Goals as goal

pub returns-in_default : goal.returns-in_default
returns-in_default c =
    no_head c.args.version c.args.line.now
    (strip_prefix_is Decides-eqb c.args.line.now (log_name c.args.version) None (rw c.name.ensures at c.in_default.ensures.cases))

pub returns : goal.returns
returns c =
    let weights = c.in-Some.weights.now in
    reads_head c.args.version c.args.line.now weights c.deref.result.now c.in_ok-read_entry.field-0 c.told_head.result
    (strip_prefix_is Decides-eqb c.args.line.now (log_name c.args.version) (Some c.in-Some.weights) (rw c.name.ensures at c.in-Some.ensures.cases))
    (c.deref.ensures.value ∙ c.in_ok-extend_from_slice-2.ensures.items ∙ ap (λ t. t ++ weights)
    (c.in_ok-extend_from_slice.ensures.items ∙ ap (λ t. t ++ codes "weights") c.new-dumped.ensures.items))
    c.in_ok-read_entry.ensures c.told_head.ensures
