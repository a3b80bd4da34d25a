use Rattle.std.proofs.Common.{refl}
use Rattle.world.proofs.steps.Events.{continues_itself}
use Rattle.world.proofs.world.World.take_copy.Goals as goal

pub returns-in_err-event-clause-continues : goal.returns-in_err-event-clause-continues
returns-in_err-event-clause-continues g c = continues_itself c.ballot_laws.ensures g.O.Object.rules _ _ c.self.view_is c.self.invariant.world _ refl

pub returns-in-Some-clause-continues : goal.returns-in-Some-clause-continues
returns-in-Some-clause-continues g c = continues_itself c.ballot_laws.ensures g.O.Object.rules _ _ c.self.view_is c.self.invariant.world _ refl
