use Rattle.std.proofs.Common.{◌≡◌, take, sum}
use Rattle.ballot.proofs.members.Members.total.Given as goal

-- what the members so far weigh
abbrev pub invariant-loop-weight : goal.invariant-loop-weight
invariant-loop-weight l = l.total ≡ sum (take l.weight-index l.self)
