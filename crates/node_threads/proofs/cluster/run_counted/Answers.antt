use Rattle.std.proofs.Common.{rules}
use Rattle.node_threads.proofs.cluster.run_counted.Goals as goal

pub returns-clause-left : goal.returns-clause-left
returns-clause-left g c = record {
  accounted = search rules;
  untouched = search rules;
  not_asked = search rules;
  each_worker = search rules;
  clients = record {
    ended = search (rules, c.run_threads-finished.ensures.clients.ended);
    none_failed = search (rules, c.run_threads-finished.ensures.clients.none_failed);
    failed = search (rules, c.run_threads-finished.ensures.clients.failed);
  };
}
