-- A look-up as a value: what passes, and by which number the least is found.
use Rattle.std.specs.Prelude.{ℕ, Bool, [], ◌∷◌}
use Rattle.std.specs.Map.{keys_of}
use Rattle.job_store.specs.declared.job.Job.{Job}
use Rattle.bean_queue.specs.declared.look_up.LookUp.{LookUp}
use Rattle.job_store.specs.LookUps.{not_paused, ready_in, delayed_in, buried_in, due_by, due_after, held_by, pri_of_job, due_of_job, rank_of_job}

-- whether a job passes
abbrev pub passes : LookUp → ℕ × Job → Bool
passes (LookUp.ReadyIn tubes paused) e = ready_in (not_paused (keys_of paused.now.entries) tubes.now.keys) e
passes (LookUp.Ready tube) e = ready_in (tube.now ∷ []) e
passes (LookUp.Delayed tube) e = delayed_in tube.now e
passes (LookUp.Buried tube) e = buried_in tube.now e
passes (LookUp.Due second) e = due_by second e
passes (LookUp.DueAfter second place) e = due_after second place e
passes (LookUp.Held x) e = held_by x e

-- the number of which the least is wanted
abbrev pub look_up_number : LookUp → Job → ℕ
look_up_number (LookUp.ReadyIn tubes paused) job = pri_of_job job
look_up_number (LookUp.Ready tube) job = pri_of_job job
look_up_number (LookUp.Delayed tube) job = due_of_job job
look_up_number (LookUp.Buried tube) job = rank_of_job job
look_up_number (LookUp.Due second) job = due_of_job job
look_up_number (LookUp.DueAfter second place) job = due_of_job job
look_up_number (LookUp.Held x) job = due_of_job job
