use Rattle.std.proofs.Common.{◌≡◌, ◌+◌}
use Rattle.bean_queue.specs.Groups.{count_in}
use Rattle.bean_queue.proofs.group.Group.count.Given as goal

abbrev pub invariant-loop-session : goal.invariant-loop-session
invariant-loop-session l = l.count + count_in l.self l.session-iterator ≡ count_in l.self l.sessions.entries
