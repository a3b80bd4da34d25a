use Rattle.std.proofs.Common.{◌≡◌, ◌++◌, map, take, vec_len}
use Rattle.std.specs.Map.Iter.{deref_pair}
use Rattle.ballot.specs.Letters.{all_to_all}
use Rattle.ballot.specs.declared.letter.LetterBody.TheVariants.{Propose}
use Rattle.replica.proofs.replica.Replica.append_proposals.Given as goal

abbrev pub invariant-loop-slot : goal.invariant-loop-slot
invariant-loop-slot g l = record {
  said : l.out.items ≡ l.fn.out.items ++ all_to_all l.fn.members l.fn.node (map (λ e. Propose e.0 e.1) (map deref_pair l.yielded));
  front : take (vec_len l.fn.out) l.out.items ≡ l.fn.out.items;
}
