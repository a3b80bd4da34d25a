use Rattle.std.proofs.Common.{◌≡◌, []}
use Rattle.chronicle_text.specs.Told.{names_after}
use Rattle.chronicle_text.proofs.tell_replies.names_of.Given as goal

abbrev pub invariant-loop-word : goal.invariant-loop-word
invariant-loop-word l = names_after [] l.fn.words ≡ names_after l.names l.word-iterator
