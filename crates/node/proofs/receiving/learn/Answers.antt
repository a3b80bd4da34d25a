use Rattle.std.proofs.Common.{sym, ap, ◌∙◌}
use Rattle.node.specs.SlotLaws.{known_again}
use Rattle.node.proofs.receiving.learn.Goals as goal

pub returns-then-knows-clause-state : goal.returns-then-knows-clause-state
returns-then-knows-clause-state g c = (
  ap (λ m. record c.args.replica.now { slots = record c.args.replica.now.slots { decisions = m } })
      (sym (known_again c.args.replica.now.slots.decisions c.args.slot c.args.command.now (sym c.knows.ensures ∙ c.if-knows.true) c.requires)),
  tt,
)
