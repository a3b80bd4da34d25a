use Rattle.std.proofs.Common.{refl, sym, subst, arith}
use Rattle.world.specs.WaysOut.{first_book, ArePlaces, Decides}
use Rattle.world.proofs.rounds.RoundMembers.{has_first}
use Rattle.world.proofs.ways.Allowing.{may_deliver, but_for_memory, where_done}
use Rattle.world.proofs.ways.Finding.{places_further}
use Rattle.world.proofs.ways.Learning.{ready_unknown, decision_there, learns}
use Rattle.world.proofs.ways.Lengthening.{leads_letters}
use Rattle.world.proofs.ways.LetterTests.{is_sent}
use Rattle.world.proofs.ways.Passing.{due_within, passes_on}
use Rattle.world.proofs.way.Way.decide.Goals as goal

pub lead-requires-clause-undecided : goal.lead-requires-clause-undecided
lead-requires-clause-undecided g c =
    record { due = due_within (omega arith) c.requires.undecided.due; unknown = c.requires.undecided.unknown }

pub take-requires : goal.take-requires
take-requires g c =
    let room = c.requires.undecided.due.room.room in
    let spent = c.in_ok-lead.ensures.passage.passage.spent in
    may_deliver g.O.Op.PartialEq.eq c.lead.new.self.trial c.in-Some.place
    (is_sent (subst (λ ls. Decides ls c.in-Some.place c.args.slot) c.letters.ensures c.in-Some.ensures.some)) (omega arith)

pub unreachable-requires : goal.unreachable-requires
unreachable-requires g c =
    let here = has_first c.ballot_laws.ensures c.show_reachable.ensures.world c.show_reachable.ensures.members in
    let d = decision_there c.ballot_laws.ensures g.O.Object.rules c.show_reachable.ensures.world here.first
    c.in_ok-lead.ensures.passage.at_rest c.args.slot c.in_ok-lead.ensures.proposal.led in
    c.in-None.ensures.none d.0 (subst (λ ls. Decides ls d.0 c.args.slot) (sym c.letters.ensures) d.1)

pub returns-clause-learnt : goal.returns-clause-learnt
returns-clause-learnt g c =
    let here = has_first c.ballot_laws.ensures c.show_reachable.ensures.world c.show_reachable.ensures.members in
    let decision = subst (λ ls. Decides ls c.in-Some.place c.args.slot) c.letters.ensures c.in-Some.ensures.some in
    let ready = c.in_ok-lead.ensures.proposal.ready in
    where_done c.take.result c.take.ensures (λ one. record {
      before = first_book c.lead.new.self.trial.cluster;
      command = decision.command;
      ready = ready;
      unknown = ready_unknown c.args.self.now.trial.cluster c.args.slot (first_book c.lead.new.self.trial.cluster) ready c.requires.undecided.unknown;
      learns = (learns c.ballot_laws.ensures g.O.Object.rules here decision one.step).book;
    })

pub returns-clause-passage : goal.returns-clause-passage
returns-clause-passage g c =
    let here = has_first c.ballot_laws.ensures c.show_reachable.ensures.world c.show_reachable.ensures.members in
    let decision = subst (λ ls. Decides ls c.in-Some.place c.args.slot) c.letters.ensures c.in-Some.ensures.some in
    let led = c.in_ok-lead.ensures.passage in
    but_for_memory c.take.result c.take.ensures (λ one.
    let now = learns c.ballot_laws.ensures g.O.Object.rules here decision one.step in
    record {
      passage = passes_on c.ballot_laws.ensures 1 led.passage here.sound one refl refl now.spent now.submitted;
      at_rest = now.at_rest led.at_rest;
    })

pub decision_for-requires : goal.decision_for-requires
decision_for-requires g c =
    let led = c.in_ok-lead.ensures.passage.passage.goes in
    subst (λ ls. ArePlaces ls c.args.places.now.read c.args.places.now) (sym c.letters.ensures)
    (places_further (leads_letters g.O.Object.rules c.args.self.now.trial c.lead.new.self.trial led.events led.led)
    (let all = c.requires.read.all in omega arith) c.requires.read.found)
