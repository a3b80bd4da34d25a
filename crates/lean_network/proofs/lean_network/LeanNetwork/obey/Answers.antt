use Rattle.std.proofs.Common.{rules, refl, ◌∙◌, arith}
use Rattle.std.proofs.lemmas.Bool.{false≢true}
use Rattle.node.specs.declared.deed.Deed.TheVariants as deeds
use Rattle.network.proofs.Sent.{member_bounds}
use Rattle.network.proofs.Turned.{on_err}
use Rattle.lean_network.proofs.Placed.{at_lean_place, within_leans, lean_turned_not, lean_stays_quiet, lean_idle, lean_outcome}
use Rattle.lean_network.proofs.Placed.{lean_acted_whole, lean_acted_ok, nothing_sent}
use Rattle.lean_network.proofs.lean_network.LeanNetwork.obey.Goals as goal

pub overflow_sub-id : goal.overflow_sub-id
overflow_sub-id g c = (member_bounds c.args.self.now.members c.args.id c.requires).0

pub index_mut-requires : goal.index_mut-requires
index_mut-requires g c =
    let h = within_leans (at_lean_place c.self.invariant c.self.view_is c.from.ensures c.requires) in
    omega (arith, h, c.self.inside.nodes.ok.0)

pub invariant_of-self : goal.invariant_of-self
invariant_of-self g c =
    lean_stays_quiet (at_lean_place c.self.invariant c.self.view_is c.from.ensures c.requires) c.index_mut.result.now
    c.index_mut.ensures.value c.obey.new.self c.self.inside.fresh.items c.in_err-outcome.ensures.state.1
    refl

pub returns-in_err-outcome-clause-ok : goal.returns-in_err-outcome-clause-ok
returns-in_err-outcome-clause-ok g c = (
  search rules,
  on_err c.from_residual.result
      (lean_turned_not (at_lean_place c.self.invariant c.self.view_is c.from.ensures c.requires) c.index_mut.result.now
      c.index_mut.ensures.value c.obey.new.self c.self.inside.fresh.items c.in_err-outcome.ensures.state.1
      refl),
)

pub invariant_of-self-2 : goal.invariant_of-self-2
invariant_of-self-2 g c =
    lean_acted_whole g.O.Object.rules (at_lean_place c.self.invariant c.self.view_is c.from.ensures c.requires)
    c.index_mut.result.now c.index_mut.ensures.value deeds.Perform c.obey.new.self c.self.inside.fresh.items
    c.in_ok-outcome.ensures.state.0 (nothing_sent g.O.Object.rules c.self.inside.fresh.items c.index_mut.result.now)

pub returns-clause-ok : goal.returns-clause-ok
returns-clause-ok g c = (
  c.sort_mail.ensures
      ∙ lean_acted_ok g.O.Object.rules (at_lean_place c.self.invariant c.self.view_is c.from.ensures c.requires)
      c.index_mut.result.now c.index_mut.ensures.value deeds.Perform c.obey.new.self c.self.inside.fresh.items
      c.in_ok-outcome.ensures.state.0 (nothing_sent g.O.Object.rules c.self.inside.fresh.items c.index_mut.result.now),
  tt,
)

pub returns-clause-outcome : goal.returns-clause-outcome
returns-clause-outcome g c =
    c.in_ok-outcome.ensures.outcome
    ∙ lean_outcome g.O.Object.rules (at_lean_place c.self.invariant c.self.view_is c.from.ensures c.requires)
    c.index_mut.result.now c.index_mut.ensures.value deeds.Perform

pub returns-in_err-outcome-clause-idle : goal.returns-in_err-outcome-clause-idle
returns-in_err-outcome-clause-idle g c =
    λ i. absurd (false≢true (c.in_err-outcome.ensures.idle
    (lean_idle g.O.Object.rules (at_lean_place c.self.invariant c.self.view_is c.from.ensures c.requires)
    c.index_mut.result.now c.index_mut.ensures.value deeds.Perform i)))
