use Rattle.std.proofs.Common.{◌≡◌, sym, ap, subst, ◌∙◌, length, take, drop, ◌-◌, arith, length-drop}
use Rattle.std.proofs.lemmas.List.{take_all}
use Rattle.std.specs.List.{list_any}
use Rattle.ballot.specs.PvalueLaws.{same_pvalues}
use Rattle.object.specs.Lists.{In}
use Rattle.scout_commander.specs.Starts.{start}
use Rattle.scout_commander.proofs.Places.{found_from}
use Rattle.scout_commander.proofs.gathered.Gathered.contains.Goals as goal

pub returns : goal.returns
returns g c =
    let p = c.args.pvalue.now in
    let ps = c.self.inside.pvalues.items in
    let from = c.start-start.result in
    let at : from ≡ start c.self.inside.starts (p.slot, p.ballot) (length ps) =
    c.start-start.ensures ∙ ap (λ n. start c.self.inside.starts (p.slot, p.ballot) n)
    (c.len.ensures ∙ sym c.deref.ensures.len ∙ ap length c.deref.ensures.value) in
    let f = found_from g.C.PartialEq.eq g.met.C.Value.exact g.met.C.Eq.laws.refl c.self.inside.starts ps p from c.self.invariant at in
    let lent = c.deref.result.now in
    let whole : take (length lent - from) (drop from lent) ≡ drop from lent =
    take_all (length lent - from) (drop from lent) (omega (arith, length-drop from lent)) in
    let tested : c.contains.result ≡ list_any (λ q. same_pvalues g.C.PartialEq.eq q p) (drop from ps) =
    c.contains.ensures.value ∙ ap (λ qs. list_any (λ q. same_pvalues g.C.PartialEq.eq q p) qs) (whole ∙ ap (λ qs. drop from qs) c.deref.ensures.value) in (
      λ h. subst (λ qs. In p qs) c.self.view_is (f.0 (sym tested ∙ h)),
      λ i. tested ∙ f.1 (subst (λ qs. In p qs) (sym c.self.view_is) i),
    )
