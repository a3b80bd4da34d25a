use Rattle.std.proofs.Common.{true}
use Rattle.job_store.proofs.counting.Tallies.{IsTallied}
use Rattle.job_store.proofs.tally.Tally.of_all.Given as goal

abbrev pub invariant-loop-stored : goal.invariant-loop-stored
invariant-loop-stored l = IsTallied (λ e. true) l.tally l.stored-iterator l.jobs.entries
