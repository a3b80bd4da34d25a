use Rattle.std.proofs.Common.{◌≤◌, ◌∙◌, length, ap, sym, subst}
use Rattle.std.specs.Prelude.{is_some}
use Rattle.slot_log.specs.Decisions.{next_decided}
use Rattle.network.specs.Networks.{node_of}
use Rattle.simulated_hall.proofs.FirstMembers.{none_next, passes_first, passes_none}
use Rattle.simulated_hall.proofs.driver.first_to_perform.Goals as goal

pub loop-before-preserved : goal.loop-before-preserved
loop-before-preserved g c =
    none_next c.args.hall.now.nodes.network.members
    (λ n. is_some (next_decided (node_of c.args.hall.now.nodes.network n).replica)) c.loop-before.before
    c.loop-before.invariant (sym c.work.ensures.decision ∙ c.if-work.false)

pub returns-then-work : goal.returns-then-work
returns-then-work g c =
    passes_first c.args.hall.now.nodes.network.members
    (λ n. is_some (next_decided (node_of c.args.hall.now.nodes.network n).replica)) c.loop-before.before
    c.loop-before.invariant (sym c.work.ensures.decision ∙ c.if-work.true)

pub returns : goal.returns
returns g c =
    passes_none c.args.hall.now.nodes.network.members
    (λ n. is_some (next_decided (node_of c.args.hall.now.nodes.network n).replica)) c.loop-before.before
    (subst (λ n. n ≤ c.loop-before.before)
    (c.count-before-end.ensures.count ∙ ap length c.members.ensures) c.loop-before-test.false)
    c.loop-before.invariant
