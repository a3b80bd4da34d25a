use Rattle.std.proofs.Common.{◌∙◌, sym, subst}
use Rattle.bean_queue.specs.Sound.{IsSoundQueue}
use Rattle.bean_queue.proofs.calm.Sound.{fresh-sound}
use Rattle.bean_queue.proofs.queue.QueueOverObject.new.Goals as goal

pub invariant_of-result : goal.invariant_of-result
invariant_of-result g c = (c.new.ensures.before ∙ sym c.new.ensures.now, subst IsSoundQueue (sym c.new.ensures.now) fresh-sound, tt)
