use Rattle.agreement.proofs.every.Events.{sound_now, order_now}
use Rattle.agreement.proofs.chosen.Invariants.{one_command, keeps_chosen, agree, decides_chosen}
use Rattle.agreement.proofs.answered.Told.{answered_now}
use Rattle.world.proofs.world.World.show_agreement.Goals as goal

pub returns : goal.returns
returns g c =
    let sound = sound_now c.ballot_laws.ensures g.O.Object.rules _ _ c.self.view_is c.self.invariant.world in
    record {
      one_command = one_command c.ballot_laws.ensures c.args.self.now.cluster sound;
      keeps_chosen = keeps_chosen c.ballot_laws.ensures c.args.self.now.cluster sound;
      chooses_one = agree c.ballot_laws.ensures c.args.self.now.cluster sound;
      decides_chosen = decides_chosen c.ballot_laws.ensures c.args.self.now.cluster sound;
      one_order = order_now c.ballot_laws.ensures g.O.Object.rules g.O.Object.waits
          (record {
            idle = g.met.O.Object.idle;
            waited = g.met.O.Object.waited;
            named = g.met.O.Object.named;
            over = g.met.O.Object.over;
            once = g.met.O.Object.once;
          })
          _ _ c.self.view_is c.self.invariant.world;
      promised = λ order is. c.keeps_promise.ensures order;
      answered = answered_now c.ballot_laws.ensures g.O.Object.rules _ _ c.self.view_is c.self.invariant.world;
    }
