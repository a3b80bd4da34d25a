-- The buffer keeps its length, and an interrupted read consumes nothing.
use Rattle.std.specs.Io.KnownBytes.{Keeps}
use Rattle.log_file.proofs.bytes.read_some.Given as goal

abbrev pub invariant-loop : goal.invariant-loop
invariant-loop g l = Keeps (g.R.Read.remaining l.initial.reader) (g.R.Read.remaining l.reader)
