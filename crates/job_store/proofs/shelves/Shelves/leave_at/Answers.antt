use Rattle.std.proofs.Common.{◌≡◌, Some, ◌++◌, ◌∷◌, [], ap, ◌∙◌}
use Rattle.job_store.specs.declared.job.Job.{Job}
use Rattle.job_store.specs.Spots.{spot_of}
use Rattle.job_store.proofs.shelving.Shelving.{last-listed}
use Rattle.job_store.proofs.shelves.Shelves.leave_at.Goals as goal

pub returns-in_ok-leave-clause-ok : goal.returns-in_ok-leave-clause-ok
returns-in_ok-leave-clause-ok c job there =
    let both : Some c.in-Some.stored.now ≡ Some job = c.in-Some.ensures.value ∙ there in
    let found : c.in-Some.stored.now ≡ job = cc in
    let same : c.as_job.result.now ≡ job = c.as_job.ensures ∙ found in
    last-listed c.args.self.now.went.items c.leave.new.self.went.items (c.args.id, job)
    (c.in_ok-leave.ensures.ok ∙ ap (λ (j : Job). c.args.self.now.went.items ++ (c.args.id, spot_of j) ∷ []) same)
