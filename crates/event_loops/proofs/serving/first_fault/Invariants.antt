use Rattle.std.specs.Prelude.{IsOk}
use Rattle.std.specs.List.{AllWithin}
use Rattle.event_loops.proofs.serving.first_fault.Given as goal

-- the first ones have none
abbrev pub invariant-loop-end : goal.invariant-loop-end
invariant-loop-end l = AllWithin IsOk l.ended 0 l.end-index
