use Rattle.std.proofs.Common.{◌≡◌, true, List, rules, sym, ap, subst, ◌∙◌}
use Rattle.std.specs.Prelude.{nat_le}
use Rattle.std.specs.List.{list_all}
use Rattle.std.proofs.lemmas.Fn.{filter_same}
use Rattle.ballot.specs.Rests.{pvalues_from}
use Rattle.ballot.specs.declared.pvalue.Pvalue.{Pvalue}
use Rattle.scout_commander.specs.Starts.{HasStarts}
use Rattle.scout_commander.proofs.Rests.{each_has_start, rest_has_starts, all_left}
use Rattle.scout_commander.proofs.gathered.Gathered.forget.Goals as goal

pub returns-then-are_from : goal.returns-then-are_from
returns-then-are_from g c =
    sym (all_left (λ (p : Pvalue g.row.C.Denot). nat_le c.args.base p.slot) c.args.self.now
    (subst (λ (ps : List (Pvalue g.row.C.Denot)). list_all (λ p. nat_le c.args.base p.slot) ps ≡ true)
    (c.deref.ensures.value ∙ c.self.view_is) (sym c.are_from.ensures ∙ c.if-are_from.true)))

pub set_starts-requires : goal.set_starts-requires
set_starts-requires g c =
    let ps = c.self.inside.pvalues.items in
    let kept : c.retain.new.self.items ≡ pvalues_from c.args.base ps =
    filter_same _ (λ (p : Pvalue g.row.C.Denot). nat_le c.args.base p.slot) _ (λ p b f h. search rules) _ _ c.retain.ensures.filtered in
    subst (λ (qs : List (Pvalue g.row.C.Denot)). HasStarts c.drop_starts.new.starts qs) (sym (c.deref-2.ensures.value ∙ kept))
    (rest_has_starts c.self.inside.starts c.drop_starts.new.starts c.args.base ps c.drop_starts.ensures
    (each_has_start c.self.inside.starts ps c.self.invariant))

pub returns : goal.returns
returns g c =
    filter_same _ (λ (p : Pvalue g.row.C.Denot). nat_le c.args.base p.slot) _ (λ p b f h. search rules) _ _ c.retain.ensures.filtered ∙
    ap (λ (ps : List (Pvalue g.row.C.Denot)). pvalues_from c.args.base ps) c.self.view_is
