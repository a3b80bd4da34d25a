use Rattle.std.proofs.Common.{◌≡◌, ◌++◌}
use Rattle.std.specs.VecDeque.Iter.{deque_iter_rest}
use Rattle.slot_log.proofs.slot_log.copying.copy_requests.Given as goal

abbrev pub invariant-loop-request : goal.invariant-loop-request
invariant-loop-request g l = l.copy.items ++ deque_iter_rest l.request-iterator ≡ l.requests.items
