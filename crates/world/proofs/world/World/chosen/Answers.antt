use Rattle.std.proofs.lemmas.Option.{IfSome_then}
use Rattle.agreement.proofs.every.Events.{sound_now}
use Rattle.world.proofs.standing.Voters.{some_chosen, no_chosen}
use Rattle.world.proofs.world.World.chosen.Goals as goal

pub returns-clause-some : goal.returns-clause-some
returns-clause-some g c =
    some_chosen c.args.self.now.cluster c.ballot_laws.ensures
    (sound_now c.ballot_laws.ensures g.O.Object.rules _ _ c.self.view_is c.self.invariant.world)
    (λ d. d.now) c.args.slot c.voted_anywhere.result c.voted_anywhere.ensures.some

pub returns-clause-none : goal.returns-clause-none
returns-clause-none g c =
    no_chosen c.args.self.now.cluster c.ballot_laws.ensures
    (sound_now c.ballot_laws.ensures g.O.Object.rules _ _ c.self.view_is c.self.invariant.world)
    c.args.slot c.voted_anywhere.result c.voted_anywhere.ensures.none

pub returns-clause-within : goal.returns-clause-within
returns-clause-within g c = IfSome_then c.voted_anywhere.result c.voted_anywhere.ensures.some (λ d voted. voted.1.low)
