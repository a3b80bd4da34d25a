use Rattle.bean_queue.proofs.kicks.KickFirst.{kicks-first}
use Rattle.bean_queue.proofs.laws.kick_makes_the_first_ready.Goals as goal

pub returns : goal.returns
returns c = kicks-first
