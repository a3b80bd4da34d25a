use Rattle.std.proofs.Common.{◌≡◌, true, take}
use Rattle.std.specs.Prelude.{All}
use Rattle.loops.proofs.hall_desk.are_set.Given as goal

-- the first ones are set
abbrev pub invariant-loop-place : goal.invariant-loop-place
invariant-loop-place l = All (λ mark. mark ≡ true) (take l.place l.marks)
