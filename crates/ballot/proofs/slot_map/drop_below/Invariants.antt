use Rattle.std.proofs.Common.{◌≡◌, filter, length}
use Rattle.std.specs.Prelude.{nat_le}
use Rattle.ballot.proofs.slot_map.drop_below.Given as goal

-- what is gone isn't to be kept
abbrev pub invariant-loop-first : goal.invariant-loop-first
invariant-loop-first g l = filter (λ e. nat_le l.base e.0) l.entries.entries ≡ filter (λ e. nat_le l.base e.0) l.initial.entries.entries

abbrev pub decreases-loop-first : goal.decreases-loop-first
decreases-loop-first g l = length l.entries.entries
