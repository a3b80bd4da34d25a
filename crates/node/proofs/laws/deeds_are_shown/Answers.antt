use Rattle.node.proofs.Shown.{able_shown, acted_shown, outcome_shown, fit_shown}
use Rattle.node.proofs.laws.deeds_are_shown.Goals as goal

pub returns-clause-able : goal.returns-clause-able
returns-clause-able g c = λ kept x d shows able. able_shown shows d able

pub returns-clause-turn : goal.returns-clause-turn
returns-clause-turn g c = λ members n kept x d shows. acted_shown g.O.Object.rules members n shows d

pub returns-clause-outcome : goal.returns-clause-outcome
returns-clause-outcome g c = λ kept x d shows. outcome_shown shows d

pub returns-clause-fit : goal.returns-clause-fit
returns-clause-fit g c = λ kept x body shows fit. fit_shown shows body fit
