-- The lines of a dump, by what they say.
use Rattle.std.specs.Prelude.{◌≡◌, ℕ, ◌<◌, ◌≤◌, ⊤, List, Option, Some, None}
use Rattle.ballot.specs.Members.{IsMembers}
use Rattle.chronicle_text.specs.declared.entry.Entry.{Entry}
use Rattle.chronicle_text.specs.declared.entry.Entry.TheVariants.{Version, Members, Weights, Submitted, Answered, Placed, End}
use Rattle.chronicle_text.specs.Dump.{version_line, members_line, weights_line, submission_line, answer_line, order_line, end_line}
use Rattle.chronicle_text.specs.Values.{IsKeyValue, IsCommandValue, IsAnswerValue}

-- the line that says it
abbrev pub entry_line : Entry → List ℕ
entry_line (Version version) = version_line version
entry_line (Members count) = members_line count
entry_line (Weights weights) = weights_line weights
entry_line (Submitted c) = submission_line c
entry_line (Answered a) = answer_line a
entry_line (Placed key) = order_line key
entry_line End = end_line

-- what a value of the type is
abbrev pub IsEntryValue : Entry → Type 0
IsEntryValue (Members count) = (0 < count) × (count ≤ 7)
IsEntryValue (Weights weights) = IsMembers weights
IsEntryValue (Submitted c) = IsCommandValue c
IsEntryValue (Answered a) = IsAnswerValue a
IsEntryValue (Placed key) = IsKeyValue key
IsEntryValue _ = ⊤

-- the line says what was read of it, or nothing that a line may say
abbrev pub Says : List ℕ → Option Entry → Type 0
Says line (Some entry) = (entry_line entry ≡ line) × IsEntryValue entry
Says line None = (entry : Entry) → IsEntryValue entry → entry_line entry ≡ line → ⊥
