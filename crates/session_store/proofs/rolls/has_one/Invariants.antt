use Rattle.std.proofs.Common.{◌≡◌}
use Rattle.std.specs.List.{list_any}
use Rattle.session_store.specs.Rolls.{names_tube}
use Rattle.session_store.proofs.rolls.has_one.Given as goal

abbrev pub invariant-loop-number : goal.invariant-loop-number
invariant-loop-number l = list_any (names_tube l.tube l.sessions.entries) l.number-iterator ≡ list_any (names_tube l.tube l.sessions.entries) l.roll.keys
