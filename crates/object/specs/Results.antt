-- What a call that can fail leaves of a value that it is lent.
use Rattle.std.specs.Prelude.{◌≡◌, ◌++◌, List, Result, OnOk, OnErr, take, vec_len}
use Rattle.std.specs.Global.{Vec}

-- where it succeeds, the value becomes this one; where it fails, it stays as it was
abbrev pub Becomes : {T E S : Type 0} → Result T E → S → S → S → Type 0
Becomes result old new next = OnOk result (new ≡ next) × OnErr result (new ≡ old)

-- where it succeeds, these stand at the end of the list; where it fails, the list stays as it was
abbrev pub AddsAtEnd : {T E A : Type 0} → Result T E → Vec A → Vec A → List A → Type 0
AddsAtEnd result old new more = Becomes result old.items new.items (old.items ++ more)

-- where it succeeds, these stand at the end of the list; where it fails, some of them may; what stood in front stays
abbrev pub WritesAtEnd : {T E A : Type 0} → Result T E → Vec A → Vec A → List A → Type 0
WritesAtEnd result old new more = OnOk result (new.items ≡ old.items ++ more)
    × (take (vec_len old) new.items ≡ old.items)
