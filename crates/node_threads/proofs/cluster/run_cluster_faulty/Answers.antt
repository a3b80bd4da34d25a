use Rattle.std.proofs.Common.{ap, rules}
use Rattle.counted_hall.specs.Accounts.{all_tickets}
use Rattle.counted_hall.proofs.Judging.{none_opened}
use Rattle.node_threads.proofs.cluster.run_cluster_faulty.Goals as goal

pub returns-in_default : goal.returns-in_default
returns-in_default g c = record {
  left = record {
    accounted = record {
      opened = search rules;
      handed_in = search rules;
      agree = λ other. none_opened c.args.hall (all_tickets c.new-in_default.result.items) c.requires.none
          (ap (λ l. all_tickets l) c.new-in_default.ensures.items);
      disagree = search rules;
    };
    untouched = search rules;
    not_asked = search rules;
    each_worker = search rules;
    clients = search rules;
  };
}
