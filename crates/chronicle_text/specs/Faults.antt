-- Why a text is not read.
use Rattle.std.specs.Prelude.{ℕ, ⊤, List}
use Rattle.chronicle_text.specs.declared.faults.ReadFault.{ReadFault}
use Rattle.chronicle_text.specs.declared.faults.ReadFault.TheVariants.{OutOfMemory, BadLine}
use Rattle.chronicle_text.specs.Reading.{IsBadLine}

-- what a fault says of the text
abbrev pub IsReadFault : List ℕ → ReadFault → Type 0
IsReadFault text OutOfMemory = ⊤
IsReadFault text (BadLine n) = IsBadLine n text
