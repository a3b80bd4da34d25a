use Rattle.std.proofs.Common.{◌≡◌, ◌++◌, map, take, vec_len}
use Rattle.std.specs.List.{range_with_len}
use Rattle.ballot.specs.Letters.{letter}
use Rattle.ballot.specs.declared.letter.LetterBody.TheVariants.{Propose}
use Rattle.replica.proofs.replica.send_copies.Given as goal

abbrev pub invariant-loop-before : goal.invariant-loop-before
invariant-loop-before g l = record {
  sent : l.out.items ≡ l.initial.out.items ++ map (letter l.fn.node (Propose l.slot l.command)) (range_with_len 1 l.before);
  front : take (vec_len l.initial.out) l.out.items ≡ l.initial.out.items;
}
