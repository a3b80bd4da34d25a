use Rattle.std.proofs.Common.{◌+◌, List, sym, refl, subst, arith}
use Rattle.node.specs.declared.deed.Deed.{Deed}
use Rattle.node.specs.declared.deed.Deed.TheVariants as deeds
use Rattle.object.specs.declared.command.Submission.{Submission}
use Rattle.object.specs.Replays.{kept}
use Rattle.forgetting_hall.specs.Rests.{FollowsLetterOf, IsGoingOn}
use Rattle.forgetting_hall.specs.Shown.{AsksForLastSubmitted}
use Rattle.forgetting_hall.proofs.Showing.{new_shows, next_shows, again_shows, next_is_last, again_is_last}
use Rattle.forgetting_hall.proofs.Showing.{deed_shows, letter_shows, still_shows, open_shows, let_go_shows, repeated_shows, reply_explained}
use Rattle.forgetting_hall.proofs.halls.halls_rest.Goals as goal

-- what node n goes on to do asks for nothing
asks : {Op : Type 0} (d : Deed Op) (submitted : List (Submission Op)) → IsGoingOn d → AsksForLastSubmitted d submitted
asks (deeds.Request c) submitted own = absurd own
asks deeds.Wake submitted own = tt
asks deeds.Nudge submitted own = tt
asks deeds.Propose submitted own = tt
asks deeds.Perform submitted own = tt
asks deeds.Restart submitted own = absurd own

pub returns-clause-opening : goal.returns-clause-opening
returns-clause-opening g c = λ members. new_shows g.O.Object.rules members

pub returns-clause-hands_in : goal.returns-clause-hands_in
returns-clause-hands_in g c = λ h w n k i s member next.
    next_shows g.O.Object.rules c.facts_of_worlds.ensures h w i s n k
    (c.clusters_rest.ensures.deeds h.base h.network h.objects w n (deeds.Request k) i s.cluster s.objects member
    (next_is_last g.O.Object.rules c.facts_of_worlds.ensures h w i s n k next)) next

pub returns-clause-hands_again : goal.returns-clause-hands_again
returns-clause-hands_again g c = λ h w n k i s member last.
    again_shows g.O.Object.rules c.facts_of_worlds.ensures h w i s n k
    (c.clusters_rest.ensures.deeds h.base h.network h.objects w n (deeds.Request k) i s.cluster s.objects member
    (again_is_last g.O.Object.rules c.facts_of_worlds.ensures h w i s n k last)) last

pub returns-clause-acts : goal.returns-clause-acts
returns-clause-acts g c = λ h w n d i s member own.
    deed_shows g.O.Object.rules c.facts_of_worlds.ensures h w i s n d own
    (c.clusters_rest.ensures.deeds h.base h.network h.objects w n d i s.cluster s.objects member (asks d w.happenings.submitted own))

pub returns-clause-receives : goal.returns-clause-receives
returns-clause-receives g c = λ h z w n l left i s member at was received.
    subst (FollowsLetterOf g.O.Object.rules w h.base n l left) (sym received.2)
    (letter_shows g.O.Object.rules c.facts_of_worlds.ensures h w i s n l left received.0
    (c.clusters_rest.ensures.letters h.base h.network received.0 h.objects w n l left i s.cluster s.objects member at was received.1))

pub returns-clause-loses : goal.returns-clause-loses
returns-clause-loses g c = λ h w n i s. still_shows g.O.Object.rules c.facts_of_worlds.ensures h w i s _ h.base refl
    (c.clusters_rest.ensures.lost h.base h.network w n s.cluster)

pub returns-clause-repeats : goal.returns-clause-repeats
returns-clause-repeats g c = λ h w n l i s at. still_shows g.O.Object.rules c.facts_of_worlds.ensures h w i s _ h.base refl
    (repeated_shows h.base h.network w.cluster s.cluster n l at)

pub returns-clause-forgets : goal.returns-clause-forgets
returns-clause-forgets g c = λ h w base i s more out. still_shows g.O.Object.rules c.facts_of_worlds.ensures h w i s _ base refl
    (c.clusters_rest.ensures.forget h.base base h.network w s.cluster more out)

pub returns-clause-opens : goal.returns-clause-opens
returns-clause-opens g c = λ h w i s. open_shows g.O.Object.rules c.facts_of_worlds.ensures h w i s (h.opened + 1) (omega arith)

pub returns-clause-opens_as : goal.returns-clause-opens_as
returns-clause-opens_as g c = λ h w session i s above. open_shows g.O.Object.rules c.facts_of_worlds.ensures h w i s session above

pub returns-clause-lets_go : goal.returns-clause-lets_go
returns-clause-lets_go g c = λ h w session i s. let_go_shows g.O.Object.rules c.facts_of_worlds.ensures h w i s session

pub returns-clause-replies : goal.returns-clause-replies
returns-clause-replies g c = λ h w session client k reply i s there last told.
    let reached = (c.every_world.ensures.answered w i).some in
    reply_explained g.O.Object.rules g.O.Object.promise w (kept reached.0) (c.every_world.ensures.legal_so_far w i reached.0 reached.1)
    (c.keeps_promise.ensures (kept reached.0)) session client (s.summary.clients session client there) k reply last told
