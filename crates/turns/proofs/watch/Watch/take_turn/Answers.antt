use Rattle.turns.proofs.watch.Watch.take_turn.Goals as goal

pub returns-in_err-receive-clause-goes_on : goal.returns-in_err-receive-clause-goes_on
returns-in_err-receive-clause-goes_on g c =
    g.N.Nodes.further _ _ _ (g.N.Nodes.further _ _ _ c.begin.ensures.goes_on c.propose.ensures.goes_on) c.receive.ensures.goes_on

pub returns-in_err-perform-clause-goes_on : goal.returns-in_err-perform-clause-goes_on
returns-in_err-perform-clause-goes_on g c =
    g.N.Nodes.further _ _ _ (g.N.Nodes.further _ _ _
    (g.N.Nodes.further _ _ _ c.begin.ensures.goes_on c.propose.ensures.goes_on) c.receive.ensures.goes_on) c.perform.ensures.goes_on

pub returns-clause-goes_on : goal.returns-clause-goes_on
returns-clause-goes_on g c =
    g.N.Nodes.further _ _ _ (g.N.Nodes.further _ _ _ (g.N.Nodes.further _ _ _
    (g.N.Nodes.further _ _ _ c.begin.ensures.goes_on c.propose.ensures.goes_on) c.receive.ensures.goes_on) c.perform.ensures.goes_on)
    c.note_round.ensures.goes_on
