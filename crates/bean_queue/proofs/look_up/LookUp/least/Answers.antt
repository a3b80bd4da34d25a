use Rattle.std.proofs.Common.{◌≡◌, rules, Some, option_map, ap, sym, ◌∙◌}
use Rattle.job_store.specs.declared.job.Job.{Job}
use Rattle.job_store.specs.Least.{least, first_of}
use Rattle.bean_queue.specs.Searches.{passes, look_up_number}
use Rattle.job_store.proofs.least.Least.{least-shown}
use Rattle.bean_queue.proofs.best.Searches.{least-step}
use Rattle.bean_queue.proofs.look_up.LookUp.least.Goals as goal

pub loop-id-preserved-then-passes : goal.loop-id-preserved-then-passes
loop-id-preserved-then-passes c =
    least-step (passes c.args.self.now) (look_up_number c.args.self.now)
    (option_map (λ e. (e.0, e.1.now)) c.loop-id.least) (c.in-Some.id.now, c.in-Some.stored.now)
    (c.first_of.result.0, c.first_of.result.1.now) c.next.new.self c.args.jobs.now.entries (search rules)
    (ap (λ (j : Job). passes c.args.self.now (c.in-Some.id.now, j)) (sym c.as_job-job.ensures) ∙ sym c.passes.ensures ∙
    c.if-passes.true)
    (c.first_of.ensures ∙
    ap (λ (j : Job). first_of (look_up_number c.args.self.now) (option_map (λ e. (e.0, e.1.now)) c.loop-id.least)
    (Some (c.in-Some.id.now, j))) c.as_job-job.ensures)

pub returns-clause-found : goal.returns-clause-found
returns-clause-found c =
    let whole : option_map (λ e. (e.0, e.1.now)) c.loop-id.least
    ≡ least (passes c.args.self.now) (look_up_number c.args.self.now) c.args.jobs.now.entries = search rules in
    (least-shown (passes c.args.self.now) (look_up_number c.args.self.now) (λ e. (e.0, e.1.now)) c.args.jobs.now.entries c.loop-id.least whole).0

pub returns-clause-none : goal.returns-clause-none
returns-clause-none c =
    let whole : option_map (λ e. (e.0, e.1.now)) c.loop-id.least
    ≡ least (passes c.args.self.now) (look_up_number c.args.self.now) c.args.jobs.now.entries = search rules in
    (least-shown (passes c.args.self.now) (look_up_number c.args.self.now) (λ e. (e.0, e.1.now)) c.args.jobs.now.entries c.loop-id.least whole).1
