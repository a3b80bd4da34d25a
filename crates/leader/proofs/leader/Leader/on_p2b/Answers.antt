use Rattle.std.proofs.Common.{◌≡◌, Bool, false, refl, sym, ap, subst, ◌∙◌, None, Option}
use Rattle.std.proofs.lemmas.Result.{on_ok_weaker, on_err_weaker}
use Rattle.std.specs.FinMap.{get, contains_key}
use Rattle.ballot.specs.Ballots.{Numbers, is_same}
use Rattle.ballot.specs.Members.{is_member}
use Rattle.leader.specs.Leaders.{Leading, Done, IsLeader, silently, preempted}
use Rattle.leader.specs.Votes as votes
use Rattle.leader.proofs.Outcomes.{on_ok_always, some_there}
use Rattle.leader.proofs.Saying.{said_nothing}
use Rattle.leader.proofs.VoteRows.{of_none, of_stranger, of_another, untrue}
use Rattle.leader.proofs.leader.Leader.on_p2b.Given.{Over}
use Rattle.leader.proofs.leader.Leader.on_p2b.Goals as goal

pub returns-in_default-clause-state : goal.returns-in_default-clause-state
returns-in_default-clause-state g c =
    let l = c.args.self.now in
    let none : c.args.ballot ≡ None = c.in_default.is in (
      sym (ap (λ (o : Option Numbers). (votes.on_p2b l c.args.from o c.args.slot c.args.asked).state) none ∙ ap
          (λ (d : Done (Leading g.row.C.Denot) g.row.C.Denot). d.state) (of_none l c.args.from c.args.slot c.args.asked)),
      tt,
    )

pub returns-then-not-has-clause-state : goal.returns-then-not-has-clause-state
returns-then-not-has-clause-state g c =
    let leads : IsLeader c.args.self.now = subst IsLeader c.self.view_is c.self.invariant.leader in
    let stranger : is_member c.args.self.now.members c.args.from ≡ false =
    ap (λ (l : Leading g.row.C.Denot). is_member l.members c.args.from)
    (sym c.self.view_is) ∙ sym c.if-not-has.ensures in (
      sym (ap (λ (d : Done (Leading g.row.C.Denot) g.row.C.Denot). d.state)
          (of_stranger c.args.self.now c.args.from c.args.slot c.args.ballot c.args.asked leads stranger)),
      tt,
    )

pub returns-then-not-has-clause-out : goal.returns-then-not-has-clause-out
returns-then-not-has-clause-out g c =
    let leads : IsLeader c.args.self.now = subst IsLeader c.self.view_is c.self.invariant.leader in
    let stranger : is_member c.args.self.now.members c.args.from ≡ false =
    ap (λ (l : Leading g.row.C.Denot). is_member l.members c.args.from)
    (sym c.self.view_is) ∙ sym c.if-not-has.ensures in (
      said_nothing c.args.out.now.items c.args.self.now.members c.args.self.now.ballot.node _
          (ap (λ (d : Done (Leading g.row.C.Denot) g.row.C.Denot). d.says)
          (of_stranger c.args.self.now c.args.from c.args.slot c.args.ballot c.args.asked leads stranger)),
      tt,
    )

-- a member's vote of another ballot, where a commander stands
preempts : (g : Over) (c : goal.After-preempted g)
    → votes.on_p2b c.args.self.now c.args.from c.args.ballot c.args.slot c.args.asked
    ≡ silently (preempted c.args.self.now c.in-Some.ballot)
preempts g c =
    let leads : IsLeader c.args.self.now = subst IsLeader c.self.view_is c.self.invariant.leader in
    let now = λ (B : Leading g.row.C.Denot → Bool). ap B (sym c.self.view_is) in
    let found = some_there (get c.args.self.now.commanders c.args.slot) (now (λ l. contains_key l.commanders c.args.slot) ∙ sym c.if-not-contains.ensures) in
    ap (λ (o : Option Numbers). votes.on_p2b c.args.self.now c.args.from o c.args.slot c.args.asked) c.in-Some.is ∙
    of_another c.args.self.now c.args.from c.args.slot c.in-Some.ballot c.args.asked found.0 leads
    (now (λ l. is_member l.members c.args.from) ∙ sym c.if-not-has.ensures)
    (now (λ l. is_same c.in-Some.ballot l.ballot) ∙ untrue (is_same c.in-Some.ballot c.self.inside.ballot) c.if-ne.ensures) found.1

pub returns-then-ne-clause-state : goal.returns-then-ne-clause-state
returns-then-ne-clause-state g c = (
  on_ok_weaker c.preempted.result (λ e. e ∙ sym (ap (λ (d : Done (Leading g.row.C.Denot) g.row.C.Denot). d.state) (preempts g c)))
      c.preempted.ensures.ok.0,
  c.preempted.ensures.ok.1,
)

pub returns-then-ne-clause-out : goal.returns-then-ne-clause-out
returns-then-ne-clause-out g c = (
  on_ok_always c.preempted.result
      (said_nothing c.args.out.now.items c.args.self.now.members c.args.self.now.ballot.node _
      (ap (λ (d : Done (Leading g.row.C.Denot) g.row.C.Denot). d.says) (preempts g c))),
  on_err_weaker c.preempted.result (λ _. refl) c.preempted.ensures.ok.1,
)
