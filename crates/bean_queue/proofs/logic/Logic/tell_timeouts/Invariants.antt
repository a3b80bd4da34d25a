use Rattle.std.proofs.Common.{◌≡◌, ◌++◌, None}
use Rattle.session_store.specs.LateLines.{HasLate}
use Rattle.bean_queue.specs.Turns.{timeout_turn, all_turns}
use Rattle.bean_queue.proofs.best.Served.{waiters}
use Rattle.bean_queue.proofs.logic.Logic.tell_timeouts.Given as goal

abbrev pub invariant-turns : goal.invariant-turns
invariant-turns g l = record {
  late : HasLate l.self.now.now l.late l.self.now.sessions;
  state : (all_turns timeout_turn l.self.now).state ≡ (all_turns timeout_turn l.fn.self.now).state;
  answers : l.answers.items ++ (all_turns timeout_turn l.self.now).answers ≡ l.fn.answers.items ++ (all_turns timeout_turn l.fn.self.now).answers;
  before : l.self.before ≡ l.fn.self.before;
  begun : timeout_turn l.fn.self.now ≡ None → l.self.now ≡ l.fn.self.now;
}

abbrev pub decreases-turns : goal.decreases-turns
decreases-turns g l = waiters l.self.now.sessions
