use Rattle.std.proofs.Common.{Some, sym, ap, ◌∙◌}
use Rattle.std.specs.Prelude.{nat_le}
use Rattle.std.specs.List.{list_all}
use Rattle.ballot.specs.declared.letter.LetterBody.TheVariants.{P1b}
use Rattle.ballot.specs.declared.pvalue.Pvalue.{Pvalue}
use Rattle.ballot.proofs.Reports.{all_kept, some_dropped}
use Rattle.ballot.proofs.left.left_of_report.Goals as goal

pub returns-then-are_from-clause-left : goal.returns-then-are_from-clause-left
returns-then-are_from-clause-left g c = ap (λ ps. Some (P1b c.args.ballot ps)) (sym
    (all_kept (λ (p : Pvalue g.row.C.Denot). nat_le c.args.base p.slot) c.args.report.now
    (ap (list_all (λ (p : Pvalue g.row.C.Denot). nat_le c.args.base p.slot)) (sym c.as_slice.ensures)
    ∙ sym c.are_from.ensures ∙ c.if-are_from.true)))

pub returns-in_err-kept-clause-whole : goal.returns-in_err-kept-clause-whole
returns-in_err-kept-clause-whole g c = λ e. absurd (some_dropped (λ (p : Pvalue g.row.C.Denot). nat_le c.args.base p.slot) c.args.report.now
    (ap (list_all (λ (p : Pvalue g.row.C.Denot). nat_le c.args.base p.slot)) (sym c.as_slice.ensures)
    ∙ sym c.are_from.ensures ∙ c.if-are_from.false) e)

pub returns-clause-whole : goal.returns-clause-whole
returns-clause-whole g c = λ e. absurd (some_dropped (λ (p : Pvalue g.row.C.Denot). nat_le c.args.base p.slot) c.args.report.now
    (ap (list_all (λ (p : Pvalue g.row.C.Denot). nat_le c.args.base p.slot)) (sym c.as_slice.ensures)
    ∙ sym c.are_from.ensures ∙ c.if-are_from.false) e)
