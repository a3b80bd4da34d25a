use Rattle.std.proofs.Common.{◌≡◌, Bool, true, false, None, sym, ap, subst, ◌∙◌}
use Rattle.std.proofs.lemmas.Result.{on_ok_weaker}
use Rattle.ballot.specs.Ballots.{is_same}
use Rattle.ballot.specs.Members.{is_member}
use Rattle.leader.specs.Leaders.{Leading, IsLeader}
use Rattle.leader.specs.Promises.{HearsP1b}
use Rattle.leader.proofs.Outcomes.{some_there, none_there}
use Rattle.leader.proofs.PromiseRows.{unheard, of_stranger, of_another}
use Rattle.leader.proofs.VoteRows.{untrue}
use Rattle.leader.proofs.leader.Leader.on_p1b.Goals as goal

pub returns-then-is_none-clause-hears : goal.returns-then-is_none-clause-hears
returns-then-is_none-clause-hears g c =
    let l = c.args.self.now in
    let none : l.scout ≡ None = ap (λ (x : Leading g.row.C.Denot). x.scout) (sym c.self.view_is) ∙ none_there c.self.inside.scout c.if-is_none.ensures in
    unheard l c.args.from c.args.ballot c.args.report.now c.args.out.now.items none

pub returns-then-not-has-clause-hears : goal.returns-then-not-has-clause-hears
returns-then-not-has-clause-hears g c =
    let l = c.args.self.now in
    let leads : IsLeader l = subst IsLeader c.self.view_is c.self.invariant.leader in
    let stranger : is_member l.members c.args.from ≡ false =
    ap (λ (x : Leading g.row.C.Denot). is_member x.members c.args.from)
    (sym c.self.view_is) ∙ sym c.if-not-has.ensures in
    of_stranger l c.args.from c.args.ballot c.args.report.now c.args.out.now.items leads stranger

pub returns-then-ne-clause-hears : goal.returns-then-ne-clause-hears
returns-then-ne-clause-hears g c =
    let l = c.args.self.now in
    let leads : IsLeader l = subst IsLeader c.self.view_is c.self.invariant.leader in
    let now = λ (B : Leading g.row.C.Denot → Bool). ap B (sym c.self.view_is) in
    let found = some_there c.self.inside.scout c.if-is_none.ensures in
    let there = ap (λ (x : Leading g.row.C.Denot). x.scout) (sym c.self.view_is) ∙ found.1 in
    let member : is_member l.members c.args.from ≡ true = now (λ x. is_member x.members c.args.from) ∙ sym c.if-not-has.ensures in
    let other : is_same c.args.ballot l.ballot ≡ false =
    now (λ x. is_same c.args.ballot x.ballot) ∙ untrue
    (is_same c.args.ballot c.self.inside.ballot) c.if-ne.ensures in
    on_ok_weaker c.preempted.result
    (λ e. subst (λ x. HearsP1b l c.args.from c.args.ballot c.args.report.now x c.args.out.now.items c.args.out.now.items) (sym e)
    (of_another l c.args.from c.args.ballot c.args.report.now c.args.out.now.items found.0 there leads member other)) c.preempted.ensures.ok.0
