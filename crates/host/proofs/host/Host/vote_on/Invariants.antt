use Rattle.std.proofs.Common.{◌≡◌, ◌≤◌}
use Rattle.host.specs.Hearing.{VotesOn}
use Rattle.host.proofs.host.Host.vote_on.Given as goal

-- it voted so far, and at least as often as the loop ran
abbrev pub invariant-loop : goal.invariant-loop
invariant-loop g l = record {
  voted : VotesOn l.upto l.fn.self l.fn.sent.items l.self l.sent.items;
  often : l.counter ≤ l.self.voted;
  base : l.self.shown.base ≡ l.fn.self.shown.base;
}
