use Rattle.std.proofs.Common.{refl, sym, ◌∙◌, subst}
use Rattle.std.proofs.lemmas.Bool.{ltb-true}
use Rattle.world.specs.Agreed.{Continues}
use Rattle.world.specs.Quiet.{BringsNothing}
use Rattle.world.specs.Refusals.{IsAllowed}
use Rattle.world.proofs.steps.Acting.{at_member, asks_own, ok_of, err_of, not_err}
use Rattle.world.proofs.steps.Events.{allowed, continues_by, continues_itself}
use Rattle.world.proofs.steps.Idle.{nothing_to_do}
use Rattle.world.proofs.world.World.step.Goals.{in-Act, in-Deliver}
use Rattle.world.proofs.world.World.step.Goals as goal

pub returns-in-Some-clause-continues : goal.returns-in-Some-clause-continues
returns-in-Some-clause-continues g c = continues_itself c.ballot_laws.ensures g.O.Object.rules _ _ c.self.view_is c.self.invariant.world _ refl

pub act-taken-requires-clause-member : goal.act-taken-requires-clause-member
act-taken-requires-clause-member g c =
    at_member c.args.self.now.cluster.members c.in-Act.id c.in-Act.deed
    (subst (IsAllowed g.O.Op.PartialEq.eq c.args.self.now) (sym c.in-Act.ensures)
    (allowed g.O.Op.PartialEq.eq c.args.self.now c.args.event (sym c.refusal.ensures ∙ c.in-None.is))).member

pub act-taken-requires-clause-own : goal.act-taken-requires-clause-own
act-taken-requires-clause-own g c =
    asks_own g.O.Op.PartialEq.eq g.met.O.Op.Value.exact c.args.self.now c.in-Act.id c.in-Act.deed
    (subst (IsAllowed g.O.Op.PartialEq.eq c.args.self.now) (sym c.in-Act.ensures)
    (allowed g.O.Op.PartialEq.eq c.args.self.now c.args.event (sym c.refusal.ensures ∙ c.in-None.is)))

pub act-taken-requires-clause-room : goal.act-taken-requires-clause-room
act-taken-requires-clause-room g c =
    (subst (IsAllowed g.O.Op.PartialEq.eq c.args.self.now) (sym c.in-Act.ensures)
    (allowed g.O.Op.PartialEq.eq c.args.self.now c.args.event (sym c.refusal.ensures ∙ c.in-None.is))).room

pub deliver-taken-requires-clause-sent : goal.deliver-taken-requires-clause-sent
deliver-taken-requires-clause-sent g c =
    ltb-true _ _ (subst (IsAllowed g.O.Op.PartialEq.eq c.args.self.now) (sym c.in-Deliver.ensures)
    (allowed g.O.Op.PartialEq.eq c.args.self.now c.args.event (sym c.refusal.ensures ∙ c.in-None.is))).sent

pub deliver-taken-requires-clause-room : goal.deliver-taken-requires-clause-room
deliver-taken-requires-clause-room g c =
    (subst (IsAllowed g.O.Op.PartialEq.eq c.args.self.now) (sym c.in-Deliver.ensures)
    (allowed g.O.Op.PartialEq.eq c.args.self.now c.args.event (sym c.refusal.ensures ∙ c.in-None.is))).room

pub returns-in_err-taken-clause-continues : goal.returns-in_err-taken-clause-continues
returns-in_err-taken-clause-continues g c =
    elim c.match-task_of.branch [
      | in-Act w ↦ continues_itself c.ballot_laws.ensures g.O.Object.rules _ _ c.self.view_is c.self.invariant.world _
          (w.self-is ∙ err_of _ _ _ w.taken-is c.in_err-taken.was w.act-taken.ensures.err)
      | in-Deliver w ↦ continues_itself c.ballot_laws.ensures g.O.Object.rules _ _ c.self.view_is c.self.invariant.world _
          (w.self-is ∙ err_of _ _ _ w.taken-is c.in_err-taken.was w.deliver-taken.ensures.err)
    ]

pub returns-clause-continues : goal.returns-clause-continues
returns-clause-continues g c =
    elim c.match-task_of.branch [
      | in-Act w ↦ subst (Continues c.args.self.now) (sym w.self-is)
          (continues_by c.ballot_laws.ensures g.O.Object.rules _ _ c.self.view_is c.self.invariant.world _ _
          (ok_of _ _ _ w.taken-is c.in_ok-taken.was w.act-taken.ensures.ok))
      | in-Deliver w ↦ subst (Continues c.args.self.now) (sym w.self-is)
          (continues_by c.ballot_laws.ensures g.O.Object.rules _ _ c.self.view_is c.self.invariant.world _ _
          (ok_of _ _ _ w.taken-is c.in_ok-taken.was w.deliver-taken.ensures.ok))
    ]

pub returns-in_err-taken-clause-idle : goal.returns-in_err-taken-clause-idle
returns-in_err-taken-clause-idle g c =
    λ none i. elim c.match-task_of.branch [
      | in-Act w ↦ not_err _ _ _ w.taken-is c.in_err-taken.was
          (w.act-taken.ensures.idle (nothing_to_do g.O.Object.rules c.args.self.now.cluster w.in-Act.id w.in-Act.deed
          (subst (BringsNothing g.O.Object.rules c.args.self.now.cluster) (sym w.in-Act.ensures) i)))
      | in-Deliver w ↦ not_err _ _ _ w.taken-is c.in_err-taken.was
          (w.deliver-taken.ensures.idle (subst (BringsNothing g.O.Object.rules c.args.self.now.cluster)
          (sym w.in-Deliver.ensures) i))
    ]
