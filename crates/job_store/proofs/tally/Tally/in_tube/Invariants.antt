use Rattle.job_store.specs.LookUps.{is_in}
use Rattle.job_store.proofs.counting.Tallies.{IsTallied}
use Rattle.job_store.proofs.tally.Tally.in_tube.Given as goal

abbrev pub invariant-loop-stored : goal.invariant-loop-stored
invariant-loop-stored l = IsTallied (is_in l.tube) l.tally l.stored-iterator l.jobs.entries
