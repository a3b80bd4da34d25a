use Rattle.std.proofs.Common.{refl, sym, ◌∙◌, subst, arith}
use Rattle.agreement.proofs.books.SlotBooksEvery.{books}
use Rattle.world.specs.WaysOut.{IsReady, stays as ready_stays}
use Rattle.world.proofs.rounds.RoundMembers.{has_first}
use Rattle.world.proofs.ways.Allowing.{and_also, where_done}
use Rattle.world.proofs.ways.Learning.{ready_led, small_after}
use Rattle.world.proofs.ways.Passing.{passage_itself, passes_talking}
use Rattle.world.proofs.way.Way.lead.Goals as goal

pub returns-then-has_proposal-clause-proposal : goal.returns-then-has_proposal-clause-proposal
returns-then-has_proposal-clause-proposal g c =
    let some = (books c.ballot_laws.ensures g.O.Object.rules c.args.self.now.trial c.show_reachable.ensures.world 1).performed.first in
    let next = c.requires.undecided.due.next in
    let led = sym c.has_proposal.ensures ∙ c.if-has_proposal.true in
    record {
      led = led;
      ready = ready_stays (ready_led c.ballot_laws.ensures g.O.Object.rules c.args.self.now.trial c.show_reachable.ensures.world
          c.args.slot (omega arith) led) refl;
    }

pub returns-then-has_proposal-clause-passage : goal.returns-then-has_proposal-clause-passage
returns-then-has_proposal-clause-passage g c =
    record { passage = passage_itself _ _ c.args.self.now.trial c.args.self.now.events.items; at_rest = c.requires.undecided.due.at_rest }

pub come_to_rest-requires : goal.come_to_rest-requires
come_to_rest-requires g c =
    let proposed = c.in_ok-propose.ensures.passage in
    let due = c.requires.undecided.due in
    record {
      small = small_after c.args.self.now.trial.cluster c.propose.new.self.trial.cluster c.args.slot proposed.mentions due.room.small due.low;
      room = let room = due.room.room in let spent = proposed.spent in omega arith;
    }

pub returns-clause-proposal : goal.returns-clause-proposal
returns-clause-proposal g c =
    let proposed = c.in_ok-propose.ensures.proposal in
    where_done c.come_to_rest.result c.come_to_rest.ensures.talked (λ talked. record {
      led = talked.talk.covers c.args.slot proposed.led;
      ready = subst (IsReady c.args.self.now.trial.cluster c.args.slot) (sym (talked.talk.replicas 1)) proposed.ready;
    })

pub returns-clause-passage : goal.returns-clause-passage
returns-clause-passage g c =
    let here = has_first c.ballot_laws.ensures c.show_reachable-2.ensures.world c.show_reachable-2.ensures.members in
    and_also c.come_to_rest.result c.come_to_rest.ensures.spent c.come_to_rest.ensures.at_rest c.come_to_rest.ensures.talked (λ spent at_rest talked. record {
      passage = passes_talking c.ballot_laws.ensures c.in_ok-propose.ensures.passage here.sound talked spent;
      at_rest = at_rest;
    })
