use Rattle.bean_queue.proofs.calm.Sound.{fresh-sound, effect-sound}
use Rattle.bean_queue.proofs.laws.queue_stays_sound.Goals as goal

pub returns-clause-fresh : goal.returns-clause-fresh
returns-clause-fresh c = fresh-sound

pub returns-clause-effect : goal.returns-clause-effect
returns-clause-effect c = effect-sound
