use Rattle.std.proofs.Common.{◌≡◌, map, take, decimal}
use Rattle.options.proofs.WeightWords.{AreLong}
use Rattle.options.proofs.weights.members_in.Given as goal

-- the weights so far are those of the words so far
abbrev pub invariant-loop-word : goal.invariant-loop-word
invariant-loop-word l = record {
  told : map decimal l.weights.items ≡ map (λ w. w.now) (take l.word-index l.word-items);
  long : AreLong l.weights.items;
}
