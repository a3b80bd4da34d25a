use Rattle.std.proofs.Common.{length, refl, sym, ap, ◌∙◌, subst, arith}
use Rattle.agreement.specs.declared.event.Event.TheVariants as events
use Rattle.agreement.proofs.every.Every.{counts}
use Rattle.world.specs.WaysOut.{Proposes, proposes as ready_proposes}
use Rattle.world.proofs.rounds.RoundMembers.{has_first}
use Rattle.world.proofs.ways.Allowing.{may_deliver, may_propose, but_for_memory, where_done}
use Rattle.world.proofs.ways.LetterTests.{is_sent}
use Rattle.world.proofs.ways.Passing.{passes_on}
use Rattle.world.proofs.ways.Proposing.{own_passage, own_proposal, takes}
use Rattle.world.proofs.way.Way.propose_first.Goals as goal

pub take-requires : goal.take-requires
take-requires g c =
    let room = c.requires.unproposed.undecided.due.room.room in
    may_propose g.O.Op.PartialEq.eq c.args.self.now.trial 1
    (has_first c.ballot_laws.ensures c.show_reachable.ensures.world c.show_reachable.ensures.members).first (omega arith)

pub take-requires-2 : goal.take-requires-2
take-requires-2 g c =
    let room = c.requires.unproposed.undecided.due.room.room in
    let step = c.in_ok-take.ensures.step in
    let own = own_proposal c.ballot_laws.ensures g.O.Object.rules c.show_reachable.ensures.world c.show_reachable.ensures.members
    c.requires.unproposed c.requires.new step in
    let count = counts c.ballot_laws.ensures g.O.Object.rules c.args.self.now.trial c.take.new.self.trial (events.Propose 1) step in
    may_deliver g.O.Op.PartialEq.eq c.take.new.self.trial (length c.letters-place.result.now)
    (is_sent (subst (λ j. Proposes c.take.new.self.trial.cluster.letters j c.args.slot) (ap (λ ls. length ls) (sym c.letters-place.ensures)) own.letter))
    (omega arith)

pub returns-clause-proposal : goal.returns-clause-proposal
returns-clause-proposal g c =
    let own = own_proposal c.ballot_laws.ensures g.O.Object.rules c.show_reachable.ensures.world c.show_reachable.ensures.members
    c.requires.unproposed c.requires.new c.in_ok-take.ensures.step in
    let letter = subst (λ j. Proposes c.take.new.self.trial.cluster.letters j c.args.slot) (ap (λ ls. length ls) (sym c.letters-place.ensures)) own.letter in
    where_done c.take-2.result c.take-2.ensures (λ one.
    let now = takes c.ballot_laws.ensures g.O.Object.rules own.first own.at_rest own.free letter one.step in
    record { led = now.led; ready = ready_proposes c.requires.new (now.book ∙ own.book.book) })

pub returns-clause-passage : goal.returns-clause-passage
returns-clause-passage g c =
    let own = own_proposal c.ballot_laws.ensures g.O.Object.rules c.show_reachable.ensures.world c.show_reachable.ensures.members
    c.requires.unproposed c.requires.new c.in_ok-take.ensures.step in
    let letter = subst (λ j. Proposes c.take.new.self.trial.cluster.letters j c.args.slot) (ap (λ ls. length ls) (sym c.letters-place.ensures)) own.letter in
    but_for_memory c.take-2.result c.take-2.ensures (λ one.
    let now = takes c.ballot_laws.ensures g.O.Object.rules own.first own.at_rest own.free letter one.step in
    passes_on c.ballot_laws.ensures 17 (own_passage own c.in_ok-take.ensures) own.first.sound one refl refl now.spent now.submitted)
