use Rattle.std.proofs.Common.{◌≤◌, length, refl, ap, arith}
use Rattle.world.specs.WaysOut.{is_talk, most_slots}
use Rattle.world.proofs.ways.Allowing.{may_wake, but_for_memory, on_ok, on_three, where_done}
use Rattle.world.proofs.ways.Going.{goes_on, one_goes}
use Rattle.world.proofs.rounds.RoundMembers.{has_first}
use Rattle.world.proofs.rounds.Talking.{talk_on}
use Rattle.world.proofs.rounds.Turning.{some_work, turn_costs, turn_spent, talk_mentions}
use Rattle.world.proofs.rounds.Working.{has_scout, wake_talks, wake_counts}
use Rattle.world.proofs.way.Way.turn.Goals as goal

pub take-requires : goal.take-requires
take-requires g c =
    let room = c.requires.room.room in
    let some = some_work c.ballot_laws.ensures g.O.Object.rules c.args.self.now.trial c.requires.left in
    may_wake g.O.Op.PartialEq.eq c.args.self.now.trial 1
    (has_first c.ballot_laws.ensures c.show_reachable.ensures.world c.show_reachable.ensures.members).first (omega arith)

pub ask_all-requires-clause-posted : goal.ask_all-requires-clause-posted
ask_all-requires-clause-posted g c =
    let here = has_first c.ballot_laws.ensures c.show_reachable.ensures.world c.show_reachable.ensures.members in
    has_scout c.ballot_laws.ensures g.O.Object.rules c.args.self.now.trial c.take.new.self.trial here.sound here.first c.in_ok-take.ensures.step

pub ask_all-requires-clause-room : goal.ask_all-requires-clause-room
ask_all-requires-clause-room g c =
    let here = has_first c.ballot_laws.ensures c.show_reachable.ensures.world c.show_reachable.ensures.members in
    let step = c.in_ok-take.ensures.step in
    let talk = wake_talks c.ballot_laws.ensures g.O.Object.rules c.args.self.now.trial c.take.new.self.trial here.sound here.first step in
    let costs = turn_costs c.ballot_laws.ensures g.O.Object.rules c.args.self.now.trial c.take.new.self.trial
    c.show_reachable.ensures.world c.show_reachable.ensures.members c.requires.left step (ap (λ ms. length ms) talk.members) in
    let count = wake_counts c.ballot_laws.ensures g.O.Object.rules c.args.self.now.trial c.take.new.self.trial here.sound here.first step in
    let room = c.requires.room.room in
    omega arith

pub returns-clause-talked : goal.returns-clause-talked
returns-clause-talked g c =
    let here = has_first c.ballot_laws.ensures c.show_reachable.ensures.world c.show_reachable.ensures.members in
    but_for_memory c.ask_all.result c.ask_all.ensures.talked (λ talked. record {
      goes = goes_on (one_goes is_talk c.in_ok-take.ensures refl) talked.goes;
      talk = talk_on c.args.self.now.trial c.take.new.self.trial c.ask_all.new.self.trial
          (wake_talks c.ballot_laws.ensures g.O.Object.rules c.args.self.now.trial c.take.new.self.trial here.sound here.first
          c.in_ok-take.ensures.step) talked.talk;
    })

pub returns-clause-small : goal.returns-clause-small
returns-clause-small g c =
    let here = has_first c.ballot_laws.ensures c.show_reachable.ensures.world c.show_reachable.ensures.members in
    where_done c.ask_all.result (returns-clause-talked g c) (λ talked.
    talk_mentions c.ballot_laws.ensures g.O.Object.rules (λ s command. s ≤ most_slots) c.args.self.now.trial here.sound
    c.ask_all.new.self.trial c.args.self.now.events.items c.ask_all.new.self.events.items talked.goes c.requires.room.small)

pub returns-clause-spent : goal.returns-clause-spent
returns-clause-spent g c =
    let here = has_first c.ballot_laws.ensures c.show_reachable.ensures.world c.show_reachable.ensures.members in
    let step = c.in_ok-take.ensures.step in
    let talk = wake_talks c.ballot_laws.ensures g.O.Object.rules c.args.self.now.trial c.take.new.self.trial here.sound here.first step in
    on_three c.ask_all.result c.ask_all.ensures.spent c.ask_all.ensures.over (returns-clause-small g c) (λ spent over small.
    turn_spent c.ballot_laws.ensures g.O.Object.rules c.args.self.now.trial c.take.new.self.trial
    c.show_reachable.ensures.world c.show_reachable.ensures.members c.requires.left step
    c.ask_all.new.self.trial (ap (λ ms. length ms) talk.members) spent over small)

pub returns-clause-later : goal.returns-clause-later
returns-clause-later g c =
    let here = has_first c.ballot_laws.ensures c.show_reachable.ensures.world c.show_reachable.ensures.members in
    let count = wake_counts c.ballot_laws.ensures g.O.Object.rules c.args.self.now.trial c.take.new.self.trial here.sound here.first
    c.in_ok-take.ensures.step in
    on_ok c.ask_all.result c.ask_all.ensures.spent (λ spent. omega arith)
