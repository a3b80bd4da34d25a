use Rattle.std.proofs.Common.{refl, sym, ◌∙◌}
use Rattle.std.specs.FinMap.{get}
use Rattle.leader.proofs.Outcomes.{some_there}
use Rattle.world.specs.WaysOut.{first_book, knew}
use Rattle.world.proofs.ways.Passing.{passage_itself}
use Rattle.world.proofs.way.Way.learn.Goals as goal

pub returns-then-knows-clause-decided : goal.returns-then-knows-clause-decided
returns-then-knows-clause-decided g c =
    let d = some_there (get (first_book c.args.self.now.trial.cluster).decisions c.args.slot) (sym c.knows.ensures ∙ c.if-knows.true) in
    knew d.0 d.1 refl

pub returns-then-knows-clause-passage : goal.returns-then-knows-clause-passage
returns-then-knows-clause-passage g c =
    record { passage = passage_itself _ _ c.args.self.now.trial c.args.self.now.events.items; at_rest = c.requires.due.at_rest }
