use Rattle.std.proofs.Common.{◌≡◌, true}
use Rattle.std.specs.Map.{keys_of}
use Rattle.job_store.specs.LookUps.{has_jobs}
use Rattle.bean_words.proofs.naming.NameSets.{AreAdded}
use Rattle.job_store.proofs.jobs.add_shelved.Given as goal

abbrev pub invariant-loop-tube : goal.invariant-loop-tube
invariant-loop-tube g l =
    AreAdded (λ t. has_jobs t l.jobs.jobs ≡ true) (λ t. has_jobs t l.jobs.jobs ≡ true) l.initial.names.keys l.names.keys
    (keys_of l.tube-iterator) (keys_of l.rack.shelves.entries)
