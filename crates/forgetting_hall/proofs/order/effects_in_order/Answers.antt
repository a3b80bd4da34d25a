use Rattle.std.proofs.Common.{[], refl, sym, subst}
use Rattle.object.specs.Lists.{IsBeginning}
use Rattle.object.specs.declared.command.Submission.{Submission}
use Rattle.std.proofs.Common.{List}
use Rattle.node.specs.declared.deed.Deed.{Deed}
use Rattle.node.specs.declared.deed.Deed.TheVariants as deeds
use Rattle.forgetting_hall.specs.Rests.{IsGoingOn}
use Rattle.forgetting_hall.specs.Shown.{AsksForLastSubmitted}
use Rattle.forgetting_hall.proofs.Effects.{effect_next, effect_count, effect_told}
use Rattle.forgetting_hall.proofs.order.effects_in_order.Goals as goal

-- what node n goes on to do asks for nothing
asks : {Op : Type 0} (d : Deed Op) (submitted : List (Submission Op)) → IsGoingOn d → AsksForLastSubmitted d submitted
asks (deeds.Request c) submitted own = absurd own
asks deeds.Wake submitted own = tt
asks deeds.Nudge submitted own = tt
asks deeds.Propose submitted own = tt
asks deeds.Perform submitted own = tt
asks deeds.Restart submitted own = absurd own

pub returns-clause-opening : goal.returns-clause-opening
returns-clause-opening g c = λ members. ([], record { chosen = tt; count = refl }, refl)

pub returns-clause-goes_on : goal.returns-clause-goes_on
returns-clause-goes_on g c = λ w v e order is s took. effect_next c.ballot_laws.ensures g.O.Object.rules w v e order is s took

pub returns-clause-told : goal.returns-clause-told
returns-clause-told g c = λ h w n d i s member own.
    effect_told g.O.Object.rules h w s n member d own
    (c.clusters_rest.ensures.deeds h.base h.network h.objects w n d i s.cluster s.objects member (asks d w.happenings.submitted own)).outcome

pub returns-clause-counted : goal.returns-clause-counted
returns-clause-counted g c = λ h w order i s took. effect_count c.ballot_laws.ensures g.O.Object.rules h w order i s took

pub returns-clause-begins : goal.returns-clause-begins
returns-clause-begins g c = λ w order all i took is.
    subst (λ ds. IsBeginning ds all) (sym took.2) ((c.every_world.ensures.answered w i).begins took.0 all took.1 is)
