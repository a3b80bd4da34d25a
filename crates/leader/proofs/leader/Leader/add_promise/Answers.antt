use Rattle.std.proofs.Common.{◌≡◌, Option, Some, None, sym, ap, subst, ◌∙◌}
use Rattle.scout_commander.specs.Scouts.{Scouting, TakesFresh, on_p1b, fresh_of}
use Rattle.leader.specs.Leaders.{Leading, IsLeader, IsScoutOf}
use Rattle.leader.specs.Promises.{HearsP1b}
use Rattle.leader.proofs.PromiseRows.{same_scout, kept_scout, unheard, waits_on}
use Rattle.leader.proofs.leader.Leader.add_promise.Goals as goal

pub returns-in_default-clause-hears : goal.returns-in_default-clause-hears
returns-in_default-clause-hears g c = λ sent.
    let l = c.args.self.now in
    let none : l.scout ≡ None = ap (λ (x : Leading g.row.C.Denot). x.scout) (sym c.self.view_is) ∙ c.in_default.is in
    subst (λ (x : Leading g.row.C.Denot). HearsP1b l c.args.from l.ballot c.args.report.now x sent sent) (sym c.self.view_is)
    (unheard l c.args.from l.ballot c.args.report.now sent none)

pub invariant_of-self-2 : goal.invariant_of-self-2
invariant_of-self-2 g c =
    let p = c.self.inside in
    let s = c.in-Some.scout in
    let l : Leading g.row.C.Denot =
    record {
      members = p.members;
      ballot = p.ballot;
      active = p.active;
      proposals = p.proposals;
      scout =
          p.scout;
      commanders = p.commanders;
    } in
    kept_scout p.node p.boot l c.on_p1b.new.self c.self.invariant
    (subst (IsScoutOf l) (sym c.in_ok-on_p1b.ensures.state.0)
    (same_scout l s c.args.from p.ballot (fresh_of s c.on_p1b.new.self)
    (c.self.invariant.leader.scout s c.in-Some.is)))

pub returns-clause-hears : goal.returns-clause-hears
returns-clause-hears g c = λ sent.
    let p = c.self.inside in
    let l = c.args.self.now in
    let s = c.in-Some.scout in
    let new = c.on_p1b.new.self in
    let fresh = fresh_of s new in
    let there : l.scout ≡ Some s = ap (λ (x : Leading g.row.C.Denot). x.scout) (sym c.self.view_is) ∙ c.in-Some.is in
    let leads : IsLeader l = subst IsLeader c.self.view_is c.self.invariant.leader in
    let takes : TakesFresh s c.args.from l.ballot c.args.report.now fresh =
    subst (λ (x : Leading g.row.C.Denot). TakesFresh s c.args.from x.ballot c.args.report.now fresh) c.self.view_is c.in_ok-on_p1b.ensures.fresh in
    let with : Option (Scouting g.row.C.Denot) → Leading g.row.C.Denot =
    λ scout. record { members = p.members; ballot = p.ballot; active = p.active; proposals = p.proposals; scout = scout; commanders = p.commanders } in
    waits_on l c.args.from c.args.report.now fresh sent s _ there (leads.scout s there) c.requires.member (c.requires.waits s there) takes
    (ap (λ (x : Scouting g.row.C.Denot). with (Some x)) c.in_ok-on_p1b.ensures.state.0 ∙
    ap (λ (x : Leading g.row.C.Denot). record x { scout = Some (on_p1b s c.args.from x.ballot fresh).scout }) c.self.view_is)
