use Rattle.std.proofs.Common.{arith}
use Rattle.world.proofs.rounds.Talking.{talk_itself, talk_on}
use Rattle.world.proofs.ways.Going.{goes_on, stays_there}
use Rattle.world.proofs.way.Way.come_to_rest.Goals as goal

pub loop-self-init : goal.loop-self-init
loop-self-init g c = record {
  small = c.requires.small;
  spent = omega arith;
  talked = record { goes = stays_there c.args.self.now.trial c.args.self.now.events.items; talk = talk_itself c.args.self.now.trial };
}

pub turn-requires-clause-room : goal.turn-requires-clause-room
turn-requires-clause-room g c = record {
  small = c.loop-self.invariant.small;
  room = let spent = c.loop-self.invariant.spent in let room = c.requires.room in omega arith;
}

pub loop-self-preserved : goal.loop-self-preserved
loop-self-preserved g c = record {
  small = c.in_ok-turn.ensures.small;
  spent = let a = c.in_ok-turn.ensures.spent in let b = c.loop-self.invariant.spent in omega arith;
  talked = record {
    goes = goes_on c.loop-self.invariant.talked.goes c.in_ok-turn.ensures.talked.goes;
    talk = talk_on c.args.self.now.trial c.loop-self.self.trial c.turn.new.self.trial c.loop-self.invariant.talked.talk c.in_ok-turn.ensures.talked.talk;
  };
}
