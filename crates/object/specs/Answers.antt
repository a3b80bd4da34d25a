-- Lists of answers.
use Rattle.std.specs.Prelude.{List}
use Rattle.object.specs.declared.command.Answer.{Answer}
use Rattle.object.specs.declared.command.Key.{Key}
use Rattle.object.specs.Keys.{KeysOnce}

-- the key that is answered
abbrev pub answered_key : {Reply : Type 0} → Answer Reply → Key
answered_key a = a.to

-- no key stands in two of the answers
abbrev pub AnswersOnce : {R : Type 0} → List (Answer R) → Type 0
AnswersOnce answers = KeysOnce answered_key answers
