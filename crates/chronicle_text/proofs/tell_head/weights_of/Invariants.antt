use Rattle.std.proofs.Common.{◌≡◌, []}
use Rattle.chronicle_text.specs.Told.{numbers_after}
use Rattle.chronicle_text.proofs.tell_head.weights_of.Given as goal

abbrev pub invariant-loop-word : goal.invariant-loop-word
invariant-loop-word l = numbers_after [] l.fn.words ≡ numbers_after l.weights.items l.word-iterator
