use Rattle.session_store.specs.Lines.{line_cmp}
use Rattle.session_store.proofs.TubeSets.{stays}
use Rattle.session_store.proofs.late_line.LateLine.join.Goals as goal

pub returns-in_ok-insert-clause-grown : goal.returns-in_ok-insert-clause-grown
returns-in_ok-insert-clause-grown c = λ p. stays line_cmp c.in-Some.place p _ _ (c.in_ok-insert.ensures.updates.0 p)
