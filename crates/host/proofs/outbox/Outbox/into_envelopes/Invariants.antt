use Rattle.std.proofs.Common.{◌≡◌}
use Rattle.cluster.specs.Clusters.{labelled}
use Rattle.host.proofs.outbox.Outbox.into_envelopes.Given as goal

abbrev pub invariant-loop-letter : goal.invariant-loop-letter
invariant-loop-letter g l = l.envelopes.items ≡ labelled l.fn.self.base l.yielded
