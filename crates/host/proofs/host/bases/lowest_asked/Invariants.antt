use Rattle.std.proofs.Common.{◌≡◌, ◌++◌}
use Rattle.host.specs.Forgetting.{lowest_asked}
use Rattle.host.proofs.host.bases.lowest_asked.Given as goal

-- the least so far, of what was looked at; what is left lowers it to the least of all
abbrev pub invariant-loop-envelope : goal.invariant-loop-envelope
invariant-loop-envelope g l =
    lowest_asked l.lowest (l.envelope-iterator.head.now ++ l.envelope-iterator.wrapped.now)
    ≡ lowest_asked l.slot l.aside.items
