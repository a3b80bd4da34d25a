use Rattle.std.proofs.Common.{refl, ◌∙◌, arith}
use Rattle.world.specs.WaysOut.{is_talk}
use Rattle.world.proofs.ways.Allowing.{may_nudge}
use Rattle.world.proofs.ways.Going.{goes_on, one_goes}
use Rattle.world.proofs.rounds.RoundMembers.{first_member, at_end}
use Rattle.world.proofs.rounds.RoundAll.{round_begins, round_question, round_asked, round_ends, round_takes}
use Rattle.world.proofs.way.Way.ask_all.Goals as goal

pub take-requires : goal.take-requires
take-requires g c =
    let room = c.requires.room in
    may_nudge g.O.Op.PartialEq.eq c.args.self.now.trial 1
    (first_member c.args.self.now.trial.cluster.members c.show_reachable.ensures.members) (omega arith)

pub loop-place-init : goal.loop-place-init
loop-place-init g c = record {
  asking = round_begins c.ballot_laws.ensures c.show_reachable.ensures.world c.show_reachable.ensures.members c.requires.posted
      c.requires.room c.in_ok-take.ensures.step _;
  goes = one_goes is_talk c.in_ok-take.ensures refl;
}

pub ask-requires-clause-question : goal.ask-requires-clause-question
ask-requires-clause-question g c =
    round_question c.ballot_laws.ensures c.show_reachable.ensures.world c.show_reachable.ensures.members c.requires.posted
    c.requires.room c.in_ok-take.ensures.step c.letters-first.ensures (c.from.ensures ∙ c.count.ensures) c.awaited_count.ensures
    c.loop-place.invariant.asking c.loop-place.auto.place c.loop-place-test.true

pub loop-place-preserved : goal.loop-place-preserved
loop-place-preserved g c = record {
  asking = round_asked c.ballot_laws.ensures c.show_reachable.ensures.world c.show_reachable.ensures.members c.requires.posted
      c.requires.room c.in_ok-take.ensures.step c.letters-first.ensures (c.from.ensures ∙ c.count.ensures) c.awaited_count.ensures
      c.loop-place.invariant.asking c.loop-place.auto.place c.loop-place-test.true
      c.show_reachable-in-loop-place.ensures.world c.ask.new.self.trial c.in_ok-ask.ensures.asked;
  goes = goes_on c.loop-place.invariant.goes c.in_ok-ask.ensures.goes;
}

pub returns-clause-over : goal.returns-clause-over
returns-clause-over g c =
    round_ends c.ballot_laws.ensures c.show_reachable.ensures.world c.show_reachable.ensures.members c.requires.posted
    c.requires.room c.in_ok-take.ensures.step c.letters-first.ensures (c.from.ensures ∙ c.count.ensures) c.awaited_count.ensures
    c.loop-place.invariant.asking (at_end _ _ _ c.loop-place.auto.place-end c.loop-place-test.false) c.show_reachable-2.ensures.world

pub returns-clause-spent : goal.returns-clause-spent
returns-clause-spent g c =
    round_takes c.ballot_laws.ensures c.show_reachable.ensures.world c.show_reachable.ensures.members c.requires.posted
    c.requires.room c.in_ok-take.ensures.step c.letters-first.ensures (c.from.ensures ∙ c.count.ensures) c.awaited_count.ensures
    c.loop-place.invariant.asking (at_end _ _ _ c.loop-place.auto.place-end c.loop-place-test.false)
