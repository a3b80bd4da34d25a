use Rattle.std.proofs.Common.{◌≡◌, ◌++◌, List, Some, None, sym, ap, subst, ◌∙◌}
use Rattle.ballot.specs.declared.pvalue.Pvalue.{Pvalue}
use Rattle.scout_commander.specs.Scouts.{IsAdopting}
use Rattle.scout_commander.proofs.Places.{there_or_not}
use Rattle.leader.specs.Leaders.{Leading}
use Rattle.leader.specs.Adoptions.{TakesGreatest}
use Rattle.leader.proofs.Outcomes.{on_ok_both}
use Rattle.leader.proofs.PromiseRows.{unheard, adopts}
use Rattle.leader.proofs.leader.Leader.gather.Goals as goal

pub returns-in_default-clause-hears : goal.returns-in_default-clause-hears
returns-in_default-clause-hears g c =
    let l = c.args.self.now in
    let none : l.scout ≡ None = ap (λ (x : Leading g.row.C.Denot). x.scout) (sym c.self.view_is) ∙ c.in_default.is in
    unheard l c.args.from l.ballot c.args.report.now c.args.out.now.items none

pub returns-clause-hears : goal.returns-clause-hears
returns-clause-hears g c =
    let l = c.args.self.now in
    let s = c.in-Some.scout in
    let there : l.scout ≡ Some s = ap (λ (x : Leading g.row.C.Denot). x.scout) (sym c.self.view_is) ∙ c.in-Some.is in
    let adopting : IsAdopting s c.args.from l.ballot =
    subst (λ (x : Leading g.row.C.Denot). IsAdopting s c.args.from x.ballot) c.self.view_is (c.would_adopt.ensures.0 c.if-not-would_adopt.false) in
    let greatest : TakesGreatest l.proposals (s.gathered ++ c.args.report.now) c.in_ok-proposals.proposals =
    subst (λ (x : Leading g.row.C.Denot). TakesGreatest x.proposals (s.gathered ++ c.args.report.now) c.in_ok-proposals.proposals) c.self.view_is
    (subst (λ (ps : List (Pvalue g.row.C.Denot)). TakesGreatest c.self.inside.proposals
    (ps ++ c.args.report.now) c.in_ok-proposals.proposals) c.gathered_so_far-gathered.ensures
    c.in_ok-proposals.ensures) in
    on_ok_both c.lead.result
    (λ state out.
    adopts l c.args.from c.args.report.now c.args.out.now.items c.lead.new.out.items s c.in_ok-proposals.proposals c.lead.new.self
    (there_or_not g.C.PartialEq.eq g.met.C.Value.exact g.met.C.Eq.laws.refl) there adopting greatest state out) c.lead.ensures.state.0 c.lead.ensures.out.0
