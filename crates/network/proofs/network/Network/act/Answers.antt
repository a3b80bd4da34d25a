use Rattle.std.proofs.Common.{rules, ◌++◌, ap, ◌∙◌, arith}
use Rattle.std.proofs.lemmas.Bool.{false≢true}
use Rattle.node.specs.Deeds.{Turn, outcome_of}
use Rattle.network.proofs.Sent.{member_bounds}
use Rattle.network.proofs.Turned.{on_err, at_place, within_nodes, node_read, turned_not, stays_quiet}
use Rattle.network.proofs.Acting.{able, idle, turn_is, acted_whole, acted_ok}
use Rattle.network.proofs.network.Network.act.Goals as goal

pub overflow_sub-id : goal.overflow_sub-id
overflow_sub-id g c = (member_bounds c.args.self.now.members c.args.id c.requires.member).0

pub index_mut-requires : goal.index_mut-requires
index_mut-requires g c =
    let h = within_nodes (at_place c.self.invariant c.self.view_is c.from.ensures c.requires.member) in
    omega (arith, h, c.self.inside.nodes.ok.0)

pub act-requires : goal.act-requires
act-requires g c =
    able g.O.Object.rules (at_place c.self.invariant c.self.view_is c.from.ensures c.requires.member)
    c.index_mut.result.now c.index_mut.ensures.value c.args.deed c.requires.able

pub invariant_of-self : goal.invariant_of-self
invariant_of-self g c =
    stays_quiet (at_place c.self.invariant c.self.view_is c.from.ensures c.requires.member) c.index_mut.result.now
    c.act.new.self c.act.new.sent.items c.index_mut.ensures.value c.in_err-outcome.ensures.state.1
    c.in_err-outcome.ensures.sent.1

pub returns-in_err-outcome-clause-ok : goal.returns-in_err-outcome-clause-ok
returns-in_err-outcome-clause-ok g c = (
  search rules,
  on_err c.from_residual.result
      (turned_not (at_place c.self.invariant c.self.view_is c.from.ensures c.requires.member) c.index_mut.result.now
      c.index_mut.ensures.value c.act.new.self c.act.new.sent.items c.in_err-outcome.ensures.state.1
      c.in_err-outcome.ensures.sent.1),
)

pub invariant_of-self-2 : goal.invariant_of-self-2
invariant_of-self-2 g c =
    acted_whole g.O.Object.rules (at_place c.self.invariant c.self.view_is c.from.ensures c.requires.member)
    c.index_mut.result.now c.index_mut.ensures.value c.args.deed c.act.new.self c.act.new.sent.items
    c.in_ok-outcome.ensures.state.0 c.in_ok-outcome.ensures.sent.0

pub returns-clause-ok : goal.returns-clause-ok
returns-clause-ok g c = (
  c.sort_mail.ensures
      ∙ acted_ok g.O.Object.rules (at_place c.self.invariant c.self.view_is c.from.ensures c.requires.member)
      c.index_mut.result.now c.index_mut.ensures.value c.args.deed c.act.new.self c.act.new.sent.items
      c.in_ok-outcome.ensures.state.0 c.in_ok-outcome.ensures.sent.0,
  tt,
)

pub returns-clause-answers : goal.returns-clause-answers
returns-clause-answers g c = (
  c.in_ok-outcome.ensures.answers.0
      ∙ ap (λ (t : Turn g.row.O-Op.Denot g.row.O-Reply.Denot). c.args.answers.now.items ++ t.answers)
      (turn_is g.O.Object.rules (at_place c.self.invariant c.self.view_is c.from.ensures c.requires.member)
      c.index_mut.result.now c.index_mut.ensures.value c.args.deed),
  tt,
)

pub returns-clause-outcome : goal.returns-clause-outcome
returns-clause-outcome g c =
    c.in_ok-outcome.ensures.outcome
    ∙ ap (λ z. outcome_of z c.args.deed)
    (node_read (at_place c.self.invariant c.self.view_is c.from.ensures c.requires.member) c.index_mut.result.now
    c.index_mut.ensures.value)

pub returns-in_err-outcome-clause-idle : goal.returns-in_err-outcome-clause-idle
returns-in_err-outcome-clause-idle g c =
    λ i. absurd (false≢true (c.in_err-outcome.ensures.idle
    (idle g.O.Object.rules (at_place c.self.invariant c.self.view_is c.from.ensures c.requires.member)
    c.index_mut.result.now c.index_mut.ensures.value c.args.deed i)))
