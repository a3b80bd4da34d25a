use Rattle.std.proofs.Common.{◌≡◌, ◌++◌, map, take, vec_len}
use Rattle.std.specs.Map.Iter.{deref_pair}
use Rattle.ballot.specs.Letters.{all_to_all}
use Rattle.ballot.specs.declared.letter.LetterBody.TheVariants.{P2a}
use Rattle.leader.specs.Leaders.{scout_says}
use Rattle.leader.proofs.leader.Leader.append_again.Given as goal

abbrev pub invariant-loop-commander : goal.invariant-loop-commander
invariant-loop-commander g l = record {
  said : l.out.items ≡ l.fn.out.items ++ all_to_all l.self.members l.self.ballot.node
      (scout_says l.self.scout ++ map (λ e. P2a e.1.pvalue) (map deref_pair l.yielded));
  front : take (vec_len l.fn.out) l.out.items ≡ l.fn.out.items;
}
