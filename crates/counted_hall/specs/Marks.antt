-- Marks for sessions, by which their tickets are told apart.
use Rattle.std.specs.Prelude.{ℕ, zero, suc, Bool, true, false, not, List, [], ◌∷◌, Option, None, Some, if◌then◌else◌, slice_index_or, slice_set}

-- the session has a mark, which isn't set: sessions are numbered from 1
abbrev pub is_free : List Bool → ℕ → Bool
is_free marks zero = false
is_free marks (suc i) = not (slice_index_or marks i true)

-- it is set
abbrev pub with_mark : List Bool → ℕ → List Bool
with_mark marks zero = marks
with_mark marks (suc i) = slice_set marks i true

-- the marks, when those of these sessions are set one after the other; none where one isn't free
abbrev pub with_marks : List Bool → List ℕ → Option (List Bool)
with_marks marks [] = Some marks
with_marks marks (s ∷ more) = if is_free marks s then with_marks (with_mark marks s) more else None
