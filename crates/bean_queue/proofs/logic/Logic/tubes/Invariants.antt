use Rattle.std.proofs.Common.{◌≡◌, ◌++◌}
use Rattle.bean_queue.specs.Tubes.{all_tubes}
use Rattle.bean_queue.proofs.logic.Logic.tubes.Given as goal

abbrev pub invariant-loop-name : goal.invariant-loop-name
invariant-loop-name g l = l.tubes ++ l.name-iterator ≡ all_tubes l.self.now
