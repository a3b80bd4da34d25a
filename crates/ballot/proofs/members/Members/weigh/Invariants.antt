use Rattle.std.proofs.Common.{◌≡◌, take}
use Rattle.ballot.specs.Members.{weigh}
use Rattle.ballot.proofs.members.Members.weigh.Given as goal

-- what the members looked at so far weigh
abbrev pub invariant-loop-place : goal.invariant-loop-place
invariant-loop-place l = l.weight ≡ weigh (take l.place l.self) l.set
