use Rattle.std.proofs.Common.{length, drop, sym, ◌∙◌}
use Rattle.std.proofs.lemmas.Bool.Decides.{Decides-eqb}
use Rattle.std.proofs.lemmas.Slice.Eq.{starts_is}
use Rattle.command_log.proofs.head.begins_name.Goals as goal

pub returns : goal.returns
returns c =
    let name = c.name.result.now in
    let text = c.args.text.now in
    let starts = starts_is Decides-eqb name text c.starts_with.result c.starts_with.ensures.value in (
      (λ holds. (drop (length text) name, sym c.name.ensures ∙ starts.0 holds)),
      (λ begins. starts.1 begins.0 (c.name.ensures ∙ begins.1)),
    )
