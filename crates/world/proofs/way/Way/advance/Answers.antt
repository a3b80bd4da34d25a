use Rattle.std.proofs.Common.{refl, sym, subst, arith}
use Rattle.world.specs.WaySteps.{IsDueAt}
use Rattle.world.specs.WaysOut.{first_book, HasDecided, IsPassage}
use Rattle.world.proofs.rounds.RoundMembers.{has_first}
use Rattle.world.proofs.ways.Allowing.{may_perform, but_for_memory, where_done}
use Rattle.world.proofs.ways.Learning.{decided_next, performs}
use Rattle.world.proofs.ways.Passing.{due_within, passes_on}
use Rattle.world.proofs.way.Way.advance.Goals as goal

pub learn-requires-clause-due : goal.learn-requires-clause-due
learn-requires-clause-due g c = subst (λ s. IsDueAt c.args.self.now.trial s 19) (sym c.slot_out-slot.ensures) (due_within (omega arith) c.requires.due)

pub take-requires : goal.take-requires
take-requires g c =
    let room = c.requires.due.room.room in
    let spent = c.in_ok-learn.ensures.passage.passage.spent in
    may_perform g.O.Op.PartialEq.eq c.learn.new.self.trial 1
    (has_first c.ballot_laws.ensures c.show_reachable-2.ensures.world c.show_reachable-2.ensures.members).first (omega arith)

pub returns-clause-advanced : goal.returns-clause-advanced
returns-clause-advanced g c =
    let here = has_first c.ballot_laws.ensures c.show_reachable-2.ensures.world c.show_reachable-2.ensures.members in
    let d = decided_next c.args.self.now.trial.cluster _ (first_book c.learn.new.self.trial.cluster) c.in_ok-learn.ensures.decided c.slot_out-slot.ensures in
    where_done c.take.result c.take.ensures (λ one. record {
      before = first_book c.learn.new.self.trial.cluster;
      decided = subst (λ s. HasDecided c.args.self.now.trial.cluster s (first_book c.learn.new.self.trial.cluster))
          c.slot_out-slot.ensures c.in_ok-learn.ensures.decided;
      performed = (performs c.ballot_laws.ensures g.O.Object.rules here d.1 one.step).book;
    })

pub returns-clause-passage : goal.returns-clause-passage
returns-clause-passage g c =
    let here = has_first c.ballot_laws.ensures c.show_reachable-2.ensures.world c.show_reachable-2.ensures.members in
    let d = decided_next c.args.self.now.trial.cluster _ (first_book c.learn.new.self.trial.cluster) c.in_ok-learn.ensures.decided c.slot_out-slot.ensures in
    let learnt = c.in_ok-learn.ensures.passage in
    but_for_memory c.take.result c.take.ensures (λ one.
    let now = performs c.ballot_laws.ensures g.O.Object.rules here d.1 one.step in
    let p = passes_on c.ballot_laws.ensures 1 learnt.passage here.sound one refl refl now.spent now.submitted in
    record {
      passage = subst (λ s. IsPassage g.O.Object.rules s 20 c.args.self.now.trial c.args.self.now.events.items
          c.take.new.self.trial c.take.new.self.events.items) c.slot_out-slot.ensures p;
      at_rest = now.at_rest learnt.at_rest;
    })
