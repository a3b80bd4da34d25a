use Rattle.std.proofs.Common.{ℕ, ◌<◌, ◌≤◌}
use Rattle.world.specs.WaysOut.{Decides}
use Rattle.world.proofs.letters.find_decision.Given as goal

abbrev pub invariant-loop-place : goal.invariant-loop-place
invariant-loop-place g l = (j : ℕ) → l.start ≤ j → j < l.place → Decides l.letters j l.slot → ⊥
