use Rattle.std.proofs.Common.{arith}
use Rattle.beanpax.specs.Servers.{cut_line}
use Rattle.beanpax.proofs.opening.tell_cut.Goals as goal

pub returns-then-bytes-gt0 : goal.returns-then-bytes-gt0
unfolding cut_line
returns-then-bytes-gt0 g c = record {
  none = λ none. let some = c.if-bytes-gt0.true in absurd (omega arith);
  some = λ _. c.tell_number.ensures;
}
