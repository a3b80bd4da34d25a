use Rattle.std.proofs.Common.{◌≡◌}
use Rattle.event_loops.proofs.wire.WireLink.write.Given as goal

-- what was interrupted moved nothing
abbrev pub invariant-loop : goal.invariant-loop
invariant-loop g l = (g.S.Stream.taken l.self.0 ≡ g.S.Stream.taken l.fn.self.0) × (g.S.Stream.given l.self.0 ≡ g.S.Stream.given l.fn.self.0)
