use Rattle.bean_queue.proofs.kicks.KickCount.{kick-counts}
use Rattle.bean_queue.proofs.laws.kick_counts.Goals as goal

pub returns : goal.returns
returns c = kick-counts
