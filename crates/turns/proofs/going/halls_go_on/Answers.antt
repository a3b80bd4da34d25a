use Rattle.std.proofs.Common.{refl}
use Rattle.turns.specs.GoingLaws.{further, stays}
use Rattle.turns.proofs.HallCalls.{did, opened, resubmitted, submitted, ticked}
use Rattle.turns.proofs.going.halls_go_on.Goals as goal

pub returns-clause-stays : goal.returns-clause-stays
returns-clause-stays g c = λ h. stays h h refl

pub returns-clause-further : goal.returns-clause-further
returns-clause-further g c = λ x y z first then. further x y z first then

pub returns-clause-submits : goal.returns-clause-submits
returns-clause-submits g c = λ h z t act n reason result ok next begun refuses.
    submitted g.O.Object.rules h z t act n reason result ok next begun refuses

pub returns-clause-resubmits : goal.returns-clause-resubmits
returns-clause-resubmits g c = λ h z t n reason result ok past refuses. resubmitted g.O.Object.rules h z t n reason result ok past refuses

pub returns-clause-ticks : goal.returns-clause-ticks
returns-clause-ticks g c = λ h z second n reason result ok begun refuses. ticked g.O.Object.rules h z second n reason result ok begun refuses

pub returns-clause-acts : goal.returns-clause-acts
returns-clause-acts g c = λ h z n d result acts. did g.O.Object.rules h z n d result acts

pub returns-clause-opens : goal.returns-clause-opens
returns-clause-opens g c = λ h z result ok err. opened g.O.Object.rules h z result ok err
