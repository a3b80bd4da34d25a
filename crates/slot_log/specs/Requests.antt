-- A request comes in.
use Rattle.std.specs.Prelude.{Bool, ◌||◌, if◌then◌else◌, [], ◌∷◌, ◌++◌}
use Rattle.std.specs.List.{list_any}
use Rattle.std.specs.FinMap.{values}
use Rattle.slot_log.specs.Books.{SlotBook}

-- the command stands in the requests, proposals or decisions
abbrev pub is_known : {C : Type 0} → (C → C → Bool) → SlotBook C → C → Bool
is_known same book c =
    list_any (λ d. same d c) book.requests || (list_any (λ d. same d c) (values book.proposals) || list_any (λ d. same d c) (values book.decisions))

-- it goes last in the requests, unless it is known
abbrev pub requested : {C : Type 0} → (C → C → Bool) → SlotBook C → C → SlotBook C
requested same book c = if is_known same book c then book else record book { requests = book.requests ++ c ∷ [] }
