use Rattle.bean_queue.proofs.tubes.TubeSets.{AreAdded}
use Rattle.bean_queue.proofs.scan_jobs.add_tubes.Given as goal

abbrev pub invariant-loop-stored : goal.invariant-loop-stored
invariant-loop-stored l = AreAdded l.initial.names.keys l.names.keys l.stored-iterator l.jobs.entries
