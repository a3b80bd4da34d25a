use Rattle.bean_queue.specs.Turns.{serve}
use Rattle.bean_queue.proofs.best.Best.{turn-best}
use Rattle.bean_queue.proofs.best.Served.{serve-done, idle_none}
use Rattle.bean_queue.proofs.laws.serve_gives_the_best.Goals as goal

pub returns-clause-turn : goal.returns-clause-turn
returns-clause-turn c = turn-best c.least_is_least.ensures.found c.least_is_least-2.ensures.found

pub returns-clause-end : goal.returns-clause-end
returns-clause-end c = λ s w i t. idle_none (serve s).state (serve-done s) w i t
