use Rattle.std.proofs.Common.{◌≡◌, ◌++◌, map, take, vec_len}
use Rattle.std.specs.List.{range_with_len}
use Rattle.ballot.specs.Letters.{letter}
use Rattle.ballot.proofs.letter.append_to_all.Given as goal

abbrev pub invariant-loop-before : goal.invariant-loop-before
invariant-loop-before g l = record {
  sent : l.out.items ≡ l.initial.out.items ++ map (letter l.fn.from l.fn.body) (range_with_len 1 l.before);
  same : l.body ≡ l.fn.body;
  front : take (vec_len l.initial.out) l.out.items ≡ l.initial.out.items;
}
