use Rattle.std.proofs.Common.{◌≡◌}
use Rattle.job_store.specs.Entries.{each_value}
use Rattle.bean_queue.specs.Counting.{and_more}
use Rattle.bean_queue.specs.Effects.{is_returning, change_if, run_out, returned_job}
use Rattle.bean_queue.specs.Woken.{AreWoken}
use Rattle.bean_queue.proofs.kicks.ReadyAgain.{many}
use Rattle.bean_queue.proofs.ready_again.Returning.make_ready.Given as goal

abbrev pub invariant-again : goal.invariant-again
invariant-again g l = record {
  all : each_value (change_if (is_returning l.self) (returned_job l.self)) l.jobs.now ≡
      each_value (change_if (is_returning l.self) (returned_job l.self)) l.fn.jobs.now;
  woken : AreWoken l.woken.keys l.fn.jobs.now l.jobs.now;
  before : l.jobs.before ≡ l.fn.jobs.before;
  counted : and_more (run_out l.self l.jobs.now) l.over ≡ and_more (run_out l.self l.fn.jobs.now) 0;
}

abbrev pub decreases-again : goal.decreases-again
decreases-again g l = many l.self l.jobs.now
