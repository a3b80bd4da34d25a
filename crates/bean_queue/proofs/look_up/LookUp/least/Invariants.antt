use Rattle.std.proofs.Common.{◌≡◌, option_map}
use Rattle.job_store.specs.Least.{least, first_of}
use Rattle.bean_queue.specs.Searches.{passes, look_up_number}
use Rattle.bean_queue.proofs.look_up.LookUp.least.Given as goal

abbrev pub invariant-loop-id : goal.invariant-loop-id
invariant-loop-id l =
    first_of (look_up_number l.self) (option_map (λ e. (e.0, e.1.now)) l.least)
    (least (passes l.self) (look_up_number l.self) l.id-iterator)
    ≡ least (passes l.self) (look_up_number l.self) l.jobs.entries
