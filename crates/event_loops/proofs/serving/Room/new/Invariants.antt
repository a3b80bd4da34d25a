use Rattle.std.proofs.Common.{◌≡◌, vec_len}
use Rattle.event_loops.proofs.serving.Room.new.Given as goal

-- there is one of each for each loop so far
abbrev pub invariant-loop-at : goal.invariant-loop-at
invariant-loop-at g l = (vec_len l.polls ≡ l._at) × (vec_len l.mailboxes ≡ l._at)
