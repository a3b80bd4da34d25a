use Rattle.std.proofs.Common.{◌++◌, ap, sym, ◌∙◌, subst}
use Rattle.std.proofs.lemmas.Result.{on_ok_weaker, IfOk-weaker}
use Rattle.node.specs.Deeds.{own_turn, outcome_of}
use Rattle.node.specs.Holding.{Holding}
use Rattle.node.specs.Kept.{ObeysBook}
use Rattle.node.specs.Nodes.{members_of, number_of}
use Rattle.node.proofs.Holding.{turned_answers, turned_outcome, turned_obeys, either_way}
use Rattle.node.proofs.node.Node.act.Goals as goal

pub invariant_of-self : goal.invariant_of-self
invariant_of-self g c =
    let h = c.self.inside.lean in
    either_way c.act.result c.act.ensures.state.0 c.act.ensures.state.1
    (λ e. subst (λ (y : Holding _ _). ObeysBook g.O.Object.rules y.object y.state.replica) (sym e)
    (turned_obeys
    (record { none = c.filter_remembers.ensures.none; done = c.filter_remembers.ensures.done; stale = c.filter_remembers.ensures.stale })
    g.O.Object.rules h c.self.invariant (members_of h.state) (number_of h.state) c.args.deed))
    (λ e. subst (λ (y : Holding _ _). ObeysBook g.O.Object.rules y.object y.state.replica) (sym e) c.self.invariant)

pub returns-clause-answers : goal.returns-clause-answers
returns-clause-answers g c =
    let h = c.self.inside.lean in (
      on_ok_weaker c.act.result (λ e.
          e ∙ ap (λ l. c.args.answers.now.items ++ l)
          (turned_answers
          (record { none = c.filter_remembers.ensures.none; done = c.filter_remembers.ensures.done; stale = c.filter_remembers.ensures.stale })
          g.O.Object.rules h c.self.invariant (members_of h.state) (number_of h.state) c.args.deed
          ∙ ap (λ x. (own_turn g.O.Object.rules x c.args.deed).answers) c.self.view_is))
          c.act.ensures.answers.0,
      c.act.ensures.answers.1,
    )

pub returns-clause-outcome : goal.returns-clause-outcome
returns-clause-outcome g c =
    let h = c.self.inside.lean in
    IfOk-weaker c.act.result _ _ (λ outcome e.
    e
    ∙ turned_outcome
    (record { none = c.filter_remembers.ensures.none; done = c.filter_remembers.ensures.done; stale = c.filter_remembers.ensures.stale })
    g.O.Object.rules h c.self.invariant (members_of h.state) (number_of h.state) c.args.deed
    ∙ ap (λ x. outcome_of x c.args.deed) c.self.view_is)
    c.act.ensures.outcome
