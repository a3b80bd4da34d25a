use Rattle.std.proofs.Common.{rules}
use Rattle.agreement.proofs.every.Events.{sound_now}
use Rattle.world.proofs.world.World.voters.Goals as goal

pub loop-before-init : goal.loop-before-init
loop-before-init g c = search (rules, (sound_now c.ballot_laws.ensures g.O.Object.rules _ _ c.self.view_is c.self.invariant.world).size)
