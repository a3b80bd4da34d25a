use Rattle.std.proofs.Common.{◌≡◌, ◌∙◌, Ok, not, true, false, ap}
use Rattle.forgetting_hall.proofs.forgetting_hall.turning.ForgettingHallNodes.perform.Goals as goal
use Rattle.forgetting_hall.proofs.forgetting_hall.turning.ForgettingHallNodes.perform.Goals.{in-Idle, in_default}

pub returns-clause-calm : goal.returns-clause-calm
returns-clause-calm g c = λ e. elim c.match-matches.branch [
  | in-Idle w ↦ c.take_turn.ensures.calm (c.in_ok-outcome.was ∙ ap Ok w.in-Idle.is)
  | in_default w ↦
      let does : not c.match-matches.matches ≡ true = ap not w.matches-is in
      let calm : not c.match-matches.matches ≡ false = cc in
      absurd (cc)
]
