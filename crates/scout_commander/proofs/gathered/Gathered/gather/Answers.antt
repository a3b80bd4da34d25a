use Rattle.std.proofs.Common.{sym, subst}
use Rattle.scout_commander.specs.Starts.{IsIndexOf}
use Rattle.scout_commander.proofs.Places.{fewer}
use Rattle.scout_commander.proofs.gathered.Gathered.gather.Goals as goal

pub invariant_of-self : goal.invariant_of-self
invariant_of-self g c =
    subst (λ ps. IsIndexOf c.self-2.inside.starts ps) (sym c.truncate.ensures.items)
    (fewer c.self-2.inside.starts c.self-2.inside.pvalues.items c.len-len.result c.self-2.invariant)
