use Rattle.turns.proofs.watch.Watch.note_round.Goals as goal

pub returns-in_ok-wake-clause-goes_on : goal.returns-in_ok-wake-clause-goes_on
returns-in_ok-wake-clause-goes_on g c = g.N.Nodes.further _ _ _ c.nudge.ensures.goes_on c.wake.ensures.goes_on
