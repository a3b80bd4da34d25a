use Rattle.std.proofs.Common.{◌≡◌, ◌∙◌, Ok, not, true, false, ap}
use Rattle.forgetting_hall.proofs.forgetting_hall.turning.ForgettingHallNodes.deliver.Goals as goal
use Rattle.forgetting_hall.proofs.forgetting_hall.turning.ForgettingHallNodes.deliver.Goals.{in-Nothing, in_default}

pub returns-clause-calm : goal.returns-clause-calm
returns-clause-calm g c = λ e. elim c.match-matches.branch [
  | in-Nothing w ↦ c.receive.ensures.calm (c.in_ok-receipt.was ∙ ap Ok w.in-Nothing.is)
  | in_default w ↦
      let does : not c.match-matches.matches ≡ true = ap not w.matches-is in
      let calm : not c.match-matches.matches ≡ false = cc in
      absurd (cc)
]
