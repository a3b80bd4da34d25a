use Rattle.std.proofs.Common.{◌++◌, List, sym, ap, subst, ◌∙◌}
use Rattle.std.proofs.lemmas.List.{append-nil}
use Rattle.std.proofs.lemmas.Result.{on_ok_weaker}
use Rattle.ballot.specs.declared.pvalue.Pvalue.{Pvalue}
use Rattle.leader.specs.Leaders.{Leading}
use Rattle.leader.specs.Adoptions.{TakesGreatest}
use Rattle.leader.proofs.leader.Leader.adopted.Goals as goal

pub returns-clause-taken : goal.returns-clause-taken
returns-clause-taken g c =
    let all = ap (λ (ps : List (Pvalue g.row.C.Denot)). ps ++ c.as_slice-2.result.now) c.as_slice.ensures.value ∙
    ap (λ (ps : List (Pvalue g.row.C.Denot)). c.args.gathered.items ++ ps)
    (c.as_slice-2.ensures.value ∙ c.new-report.ensures.items) ∙ append-nil c.args.gathered.items in
    let greatest : TakesGreatest c.args.self.now.proposals c.args.gathered.items c.in_ok-proposals.proposals =
    subst (λ (x : Leading g.row.C.Denot). TakesGreatest x.proposals c.args.gathered.items c.in_ok-proposals.proposals) c.self.view_is
    (subst (λ (ps : List (Pvalue g.row.C.Denot)). TakesGreatest c.self.inside.proposals ps c.in_ok-proposals.proposals) all c.in_ok-proposals.ensures) in
    on_ok_weaker c.lead.result
    (λ e. subst (λ ps. TakesGreatest c.args.self.now.proposals c.args.gathered.items ps)
    (sym (ap (λ (x : Leading g.row.C.Denot). x.proposals) e)) greatest) c.lead.ensures.state.0
