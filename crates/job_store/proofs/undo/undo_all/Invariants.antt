use Rattle.std.proofs.Common.{◌≡◌, ◌^◌, length}
use Rattle.job_store.specs.Entries.{Rising}
use Rattle.job_store.specs.Undone.{all_undone}
use Rattle.job_store.proofs.undo.undo_all.Given as goal

abbrev pub invariant-loop-undo : goal.invariant-loop-undo
invariant-loop-undo l =
    (all_undone l.log.items l.jobs.entries ≡ all_undone l.initial.log.items l.initial.jobs.entries) × Rising 0 (2 ^ 64) l.jobs.entries

abbrev pub decreases-loop-undo : goal.decreases-loop-undo
decreases-loop-undo l = length l.log.items
