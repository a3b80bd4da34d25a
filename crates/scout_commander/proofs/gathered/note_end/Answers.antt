use Rattle.std.proofs.Common.{sym, ◌∙◌}
use Rattle.scout_commander.proofs.Places.{same_starts}
use Rattle.scout_commander.proofs.gathered.note_end.Goals as goal

pub returns-in_ok-insert-clause-same : goal.returns-in_ok-insert-clause-same
returns-in_ok-insert-clause-same c =
    same_starts c.args.starts.now c.insert.new.self
    (c.args.slot, c.args.ballot) c.args.len c.in_ok-insert.ensures.updates
    (sym c.start.ensures ∙ c.if-start-len.true)
