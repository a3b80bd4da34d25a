use Rattle.host.proofs.Counting.{few_of_counted}
use Rattle.host.proofs.laws.counted_hosts.Goals as goal

pub returns-clause-few : goal.returns-clause-few
returns-clause-few g c = λ k members counted. few_of_counted k c.every_cluster.ensures.few members counted

pub returns-clause-legal : goal.returns-clause-legal
returns-clause-legal g c = λ owner members k are few counted.
    c.every_cluster.ensures.legal owner members k are (few_of_counted k c.every_cluster.ensures.few few counted)
