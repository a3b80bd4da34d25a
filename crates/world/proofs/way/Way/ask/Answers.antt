use Rattle.std.proofs.Common.{length, refl, ap, arith}
use Rattle.agreement.proofs.every.Every.{counts}
use Rattle.agreement.specs.declared.event.Event.TheVariants as events
use Rattle.world.specs.WaysOut.{is_talk}
use Rattle.world.proofs.ways.Allowing.{may_deliver, question_sent, one_answer, but_for_memory}
use Rattle.world.proofs.ways.Going.{goes_on, one_goes}
use Rattle.world.proofs.way.Way.ask.Goals as goal

pub take-requires : goal.take-requires
take-requires g c = let room =
    c.requires.room in may_deliver g.O.Op.PartialEq.eq c.args.self.now.trial c.args.place
    (question_sent c.args.self.now.trial c.args.place c.requires.question) (omega arith)

pub take-requires-2 : goal.take-requires-2
take-requires-2 g c =
    let room = c.requires.room in
    let step = c.in_ok-take.ensures.step in
    let count = counts c.ballot_laws.ensures g.O.Object.rules c.args.self.now.trial c.take.new.self.trial (events.Deliver c.args.place) step in
    let sent = one_answer g.O.Object.rules c.args.self.now.trial c.take.new.self.trial c.args.place step c.requires.question in
    let reply = ap (λ ls. length ls) c.letters-reply.ensures in
    may_deliver g.O.Op.PartialEq.eq c.take.new.self.trial (length c.letters-reply.result.now) (omega arith) (omega arith)

pub returns-clause-goes : goal.returns-clause-goes
returns-clause-goes g c = but_for_memory c.take-2.result c.take-2.ensures
    (λ one. goes_on (one_goes is_talk c.in_ok-take.ensures refl) (one_goes is_talk one refl))
