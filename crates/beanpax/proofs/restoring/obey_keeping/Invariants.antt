use Rattle.std.proofs.Common.{◌≡◌}
use Rattle.beanpax.specs.Program.{WritesMore}
use Rattle.beanpax.proofs.restoring.obey_keeping.Given as goal

-- the members stay; how far it is was told, or nothing
abbrev pub invariant-loop-done : goal.invariant-loop-done
invariant-loop-done g l = (l.recovery ≡ l.fn.members) × WritesMore g.E.ByteOut l.fn.errors l.errors
