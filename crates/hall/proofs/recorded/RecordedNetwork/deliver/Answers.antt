use Rattle.hall.proofs.Recording.{received_so}
use Rattle.hall.proofs.recorded.RecordedNetwork.deliver.Goals as goal

pub returns-then-came-clause-ok : goal.returns-then-came-clause-ok
returns-then-came-clause-ok g c = received_so _ _ c.self.view_is c.args.node _ c.in_ok-came.ensures.ok
