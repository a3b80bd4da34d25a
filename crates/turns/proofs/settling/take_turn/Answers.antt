use Rattle.turns.proofs.settling.take_turn.Goals as goal

pub returns-in_err-has_performed-clause-goes_on : goal.returns-in_err-has_performed-clause-goes_on
returns-in_err-has_performed-clause-goes_on g c =
    g.N.Nodes.further _ _ _ (g.N.Nodes.further _ _ _ c.propose.ensures.goes_on c.receive.ensures.goes_on) c.perform.ensures.goes_on

pub returns-then-has_received-clause-goes_on : goal.returns-then-has_received-clause-goes_on
returns-then-has_received-clause-goes_on g c =
    g.N.Nodes.further _ _ _ (g.N.Nodes.further _ _ _ c.propose.ensures.goes_on c.receive.ensures.goes_on) c.perform.ensures.goes_on

pub returns-else-has_received-clause-goes_on : goal.returns-else-has_received-clause-goes_on
returns-else-has_received-clause-goes_on g c =
    g.N.Nodes.further _ _ _ (g.N.Nodes.further _ _ _ c.propose.ensures.goes_on c.receive.ensures.goes_on) c.perform.ensures.goes_on
