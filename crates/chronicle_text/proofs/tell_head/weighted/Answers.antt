use Rattle.std.proofs.Common.{ℕ, List, Some, sym, ap, ◌∙◌}
use Rattle.chronicle_text.specs.declared.entry.Entry.TheVariants.{Weights}
use Rattle.chronicle_text.proofs.spelling.EntryLines.{weighted_told}
use Rattle.chronicle_text.proofs.spelling.ToldValues.{not_weighted}
use Rattle.chronicle_text.proofs.tell_head.weighted.Goals as goal

pub returns-in_err-members : goal.returns-in_err-members
returns-in_err-members c = c.from_residual.ensures ∙ sym (not_weighted c.args.weights.now c.in_err-members.ensures)

pub returns : goal.returns
returns c = ap (λ (ws : List ℕ). Some (Weights ws)) c.in_ok-members.ensures.1 ∙ sym (weighted_told c.args.weights.now c.in_ok-members.ensures.0)
