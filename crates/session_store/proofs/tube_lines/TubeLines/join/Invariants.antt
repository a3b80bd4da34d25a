use Rattle.std.proofs.Common.{◌≡◌, ℕ, List, true, IfSome, take}
use Rattle.job_store.specs.LookUps.{is_among}
use Rattle.session_store.specs.Lines.{HasAll, IsIn, tube_line, rank_place}
use Rattle.session_store.proofs.tube_lines.TubeLines.join.Given as goal

abbrev pub invariant-loop-tube : goal.invariant-loop-tube
invariant-loop-tube l =
    ((t : List ℕ) → HasAll (tube_line t l.initial.self) (tube_line t l.self)) ×
    ((t : List ℕ) → is_among t (take l.tube-index l.watched) ≡ true → IfSome (rank_place l.number l.wait) (IsIn (tube_line t l.self)))
