-- What was read so far gave the commands.
use Rattle.std.proofs.Common.{◌-◌, ◌^◌, ◌<◌, length}
use Rattle.log_file.proofs.Recovering.{IsReadTo}
use Rattle.log_file.proofs.reader.read_by.Given as goal

abbrev pub invariant-loop-log : goal.invariant-loop-log
invariant-loop-log g l = record {
  some : 0 < length l.piece;
  read : IsReadTo (g.R.Read.remaining l.initial.reader) (g.R.Read.remaining l.reader) l.log l.commands.items l.bytes;
}

abbrev pub decreases-loop-log : goal.decreases-loop-log
decreases-loop-log g l = 2 ^ 64 - l.bytes
