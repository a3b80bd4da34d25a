use Rattle.std.proofs.Common.{◌≡◌, ◌++◌, map}
use Rattle.chronicle.specs.Replaying.{placed}
use Rattle.chronicle.proofs.replay.obey.Given as goal

-- the answers so far stand at the end
abbrev pub invariant-loop-answer : goal.invariant-loop-answer
invariant-loop-answer l = map placed l.given.items ≡ map placed l.fn.given.items ++ map (λ a. record { place = l.place; answer = a }) l.yielded
