-- A chronicle as it is read, line by line.
use Rattle.std.specs.Prelude.{◌==◌, ◌&&◌, not, length, replicate, Option, Some, None, if◌then◌else◌}
use Rattle.ballot.specs.Members.{is_unweighted}
use Rattle.chronicle_text.specs.declared.draft.ChronicleDraft.{ChronicleDraft}
use Rattle.chronicle_text.specs.declared.draft.ChronicleDraft.TheVariants.{Start, Head, Counted, Happenings, Order, Whole}
use Rattle.chronicle_text.specs.declared.entry.Entry.{Entry}
use Rattle.chronicle_text.specs.declared.entry.Entry.TheVariants.{Version, Members, Weights, Submitted, Answered, Placed, End}
use Rattle.chronicle_text.specs.declared.version.Version.TheVariants.{One, Two}
use Rattle.recorder.specs.Growing.{begun, submitted_last, answered_last, placed_last}

-- the draft with one line more, if this line may come next
abbrev pub next : ChronicleDraft → Entry → Option ChronicleDraft
next Start (Version version) = Some (Head version)
next (Head One) (Members count) = Some (Happenings (begun (replicate count 1)))
next (Head Two) (Members count) = Some (Counted count)
next (Counted count) (Weights weights) = if length weights == count && not (is_unweighted weights) then Some (Happenings (begun weights)) else None
next (Happenings c) (Submitted command) = Some (Happenings (submitted_last command c))
next (Happenings c) (Answered answer) = Some (Happenings (answered_last answer c))
next (Happenings c) (Placed key) = Some (Order (placed_last key c))
next (Happenings c) End = Some (Whole c)
next (Order c) (Placed key) = Some (Order (placed_last key c))
next (Order c) End = Some (Whole c)
next _ _ = None
