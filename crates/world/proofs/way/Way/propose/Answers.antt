use Rattle.std.proofs.Common.{refl, sym, subst, arith}
use Rattle.world.specs.WaysOut.{Proposes, stays as ready_stays}
use Rattle.world.proofs.rounds.RoundMembers.{has_first}
use Rattle.world.proofs.rounds.Rounds.{place_of}
use Rattle.world.proofs.ways.Allowing.{may_deliver, but_for_memory, where_done}
use Rattle.world.proofs.ways.LetterTests.{is_sent}
use Rattle.world.proofs.ways.Passing.{passage_itself, passes_on}
use Rattle.world.proofs.ways.Proposing.{proposes_at, takes}
use Rattle.world.proofs.way.Way.propose.Goals as goal

pub take-requires : goal.take-requires
take-requires g c =
    let room = c.requires.unproposed.undecided.due.room.room in
    may_deliver g.O.Op.PartialEq.eq c.args.self.now.trial c.in-Some.place
    (is_sent (subst (λ ls. Proposes ls c.in-Some.place c.args.slot) c.letters.ensures c.in-Some.ensures.some)) (omega arith)

pub returns-in-Some-clause-proposal : goal.returns-in-Some-clause-proposal
returns-in-Some-clause-proposal g c =
    let here = has_first c.ballot_laws.ensures c.show_reachable.ensures.world c.show_reachable.ensures.members in
    let proposal = subst (λ ls. Proposes ls c.in-Some.place c.args.slot) c.letters.ensures c.in-Some.ensures.some in
    let open_slot = c.requires.unproposed in
    where_done c.take.result c.take.ensures (λ one.
    let now = takes c.ballot_laws.ensures g.O.Object.rules here open_slot.undecided.due.at_rest open_slot.free proposal one.step in
    record { led = now.led; ready = ready_stays (proposes_at c.args.self.now.trial.cluster c.in-Some.place c.args.slot proposal) now.book })

pub returns-in-Some-clause-passage : goal.returns-in-Some-clause-passage
returns-in-Some-clause-passage g c =
    let here = has_first c.ballot_laws.ensures c.show_reachable.ensures.world c.show_reachable.ensures.members in
    let proposal = subst (λ ls. Proposes ls c.in-Some.place c.args.slot) c.letters.ensures c.in-Some.ensures.some in
    let open_slot = c.requires.unproposed in
    but_for_memory c.take.result c.take.ensures (λ one.
    let now = takes c.ballot_laws.ensures g.O.Object.rules here open_slot.undecided.due.at_rest open_slot.free proposal one.step in
    passes_on c.ballot_laws.ensures 18 (passage_itself c.args.slot 0 c.args.self.now.trial c.args.self.now.events.items) here.sound
    one refl refl (let spent = now.spent in omega arith) now.submitted)

pub propose_first-requires-clause-new : goal.propose_first-requires-clause-new
propose_first-requires-clause-new g c = λ there.
    let p = place_of c.args.self.now.trial.cluster.letters there.letter there.sent in
    c.in-None.ensures.none p.0 (subst (λ ls. Proposes ls p.0 c.args.slot) (sym c.letters.ensures)
    (record { letter = there.letter; command = there.command; at = p.2; to = there.to; body = there.body }))
