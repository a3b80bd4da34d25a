-- What is left of what a letter says.
use Rattle.std.specs.Prelude.{Option, None, Some}
use Rattle.ballot.specs.declared.letter.LetterBody.{LetterBody}
use Rattle.ballot.specs.declared.left.Left.{Left}
use Rattle.ballot.specs.declared.left.Left.TheVariants.{Nothing, All, Part}

-- nothing is left of a body, or all of it, or a part
abbrev pub what_is_left : {C : Type 0} → LetterBody C → Left C → Option (LetterBody C)
what_is_left body Nothing = None
what_is_left body All = Some body
what_is_left body (Part part) = Some part
