use Rattle.std.proofs.Common.{◌≡◌, ◌++◌, map, take, vec_len}
use Rattle.ballot.specs.Letters.{letter}
use Rattle.ballot.specs.declared.letter.LetterBody.TheVariants.{Ask}
use Rattle.replica.proofs.Others.{others}
use Rattle.replica.proofs.replica.Replica.append_asks.Given as goal

abbrev pub invariant-loop-before : goal.invariant-loop-before
invariant-loop-before g l = record {
  sent : l.out.items ≡ l.fn.out.items ++ map (letter l.fn.node (Ask l.slot)) (others l.fn.node l.before);
  front : take (vec_len l.fn.out) l.out.items ≡ l.fn.out.items;
}
