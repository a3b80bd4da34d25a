use Rattle.std.proofs.Common.{◌≡◌, ◌++◌, map, take, vec_len}
use Rattle.std.specs.FinMap.{from_entries}
use Rattle.std.specs.Map.Iter.{deref_pair}
use Rattle.ballot.specs.Letters.{all_to_all}
use Rattle.ballot.specs.declared.letter.LetterBody.TheVariants.{P2a}
use Rattle.scout_commander.specs.Commanders.{new_commander}
use Rattle.leader.specs.Leaders.{pvalue}
use Rattle.ballot.proofs.Turns.{made}
use Rattle.leader.proofs.leader.Leader.append_asks.Given as goal

abbrev pub invariant-loop-slot : goal.invariant-loop-slot
invariant-loop-slot g l = record {
  commanders : l.commanders ≡ from_entries (map (made (λ s c. new_commander l.self.members (pvalue l.self.ballot s c))) (map deref_pair l.yielded));
  said : l.out.items ≡ l.fn.out.items ++ all_to_all l.self.members l.self.ballot.node
      (map (λ e. P2a (pvalue l.self.ballot e.0 e.1)) (map deref_pair l.yielded));
  front : take (vec_len l.fn.out) l.out.items ≡ l.fn.out.items;
}
