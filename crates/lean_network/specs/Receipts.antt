-- What comes of the letter in front of a mail.
use Rattle.std.specs.Prelude.{ℕ, Option, None, Some}
use Rattle.ballot.specs.declared.letter.Letter.{Letter}
use Rattle.ballot.specs.declared.letter.LetterBody.{LetterBody}
use Rattle.ballot.specs.Rests.{rest_of_body}
use Rattle.lean_network.specs.declared.receipt.Receipt.{Receipt}
use Rattle.lean_network.specs.declared.receipt.Receipt.TheVariants as receipts

-- what is left of a body is received; where nothing is left, it is forgotten
abbrev pub receipt_of_rest : {C : Type 0} → Option (LetterBody C) → Receipt
receipt_of_rest None = receipts.Forgotten
receipt_of_rest (Some left) = receipts.Received

-- and what comes of a letter, where there is one
abbrev pub receipt_of : {C : Type 0} → ℕ → Option (Letter C) → Receipt
receipt_of base None = receipts.Nothing
receipt_of base (Some l) = receipt_of_rest (rest_of_body base l.body)
