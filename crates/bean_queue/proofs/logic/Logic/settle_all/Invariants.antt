use Rattle.std.proofs.Common.{◌≡◌, drop}
use Rattle.bean_queue.specs.Rows.{settled}
use Rattle.bean_queue.proofs.tubes.Turning.{AreThere}
use Rattle.bean_queue.proofs.logic.Logic.settle_all.Given as goal

abbrev pub invariant-loop-tube : goal.invariant-loop-tube
invariant-loop-tube g l =
    (settled (drop l.tube-index l.tubes) l.self.now ≡ settled l.tubes l.fn.self.now) × AreThere l.there l.tubes l.tube-index l.self.now
