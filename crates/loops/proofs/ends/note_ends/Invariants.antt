use Rattle.loops.proofs.Ending.{HasNoted}
use Rattle.loops.proofs.ends.note_ends.Given as goal

abbrev pub invariant-loop-command : goal.invariant-loop-command
invariant-loop-command g l = HasNoted g.O.Object.rules l.fn.hall l.hall l.commands l.fn.free.items l.free.items
