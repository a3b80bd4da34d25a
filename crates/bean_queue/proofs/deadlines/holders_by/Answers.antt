use Rattle.std.proofs.Common.{◌≡◌, ℕ, ◌<◌, ◌^◌, Option, Some, option_map, Bor, sym, ap, subst}
use Rattle.job_store.specs.declared.job.Job.{Job}
use Rattle.job_store.specs.LookUps.{first_due_after}
use Rattle.object.proofs.KeyMaps.{on_err}
use Rattle.bean_queue.proofs.due.Holders.{AreNoted, IsNoted, far, noted-first, noted-next, noted-all, noted-by, noted-often, nearer, some-holder}
use Rattle.bean_queue.specs.Holders.{waits_at}
use Rattle.bean_queue.proofs.deadlines.holders_by.Goals as goal

seen : Option (ℕ × Bor Job) → Option (ℕ × Job)
seen o = option_map (λ e. (e.0, e.1.now)) o

pub jobs-init : goal.jobs-init
unfolding seen
jobs-init g c =
    let jobs = g.M.JobMap.entries c.args.jobs.now in
    subst (λ ns. AreNoted (waits_at c.args.sessions.now.entries) (seen c.due-next.result) ns c.args.second jobs)
    (sym c.new-numbers.ensures.items)
    (noted-first (waits_at c.args.sessions.now.entries)
    (seen c.due-next.result) c.args.second jobs c.due-next.ensures.job)

pub jobs-smaller : goal.jobs-smaller
unfolding seen
jobs-smaller g c =
    let jobs = g.M.JobMap.entries c.args.jobs.now in
    let n : ℕ × Job = (c.in-Some.id, c.in-Some.job.now) in
    let were : AreNoted (waits_at c.args.sessions.now.entries) (Some n) c.jobs.numbers.items c.args.second jobs =
    subst (λ o. AreNoted (waits_at c.args.sessions.now.entries) (seen o) c.jobs.numbers.items c.args.second jobs)
    c.in-Some.is c.jobs.invariant in
    subst (λ o. far c.args.second (seen c.due_after-next.result) < far c.args.second (seen o)) (sym c.in-Some.is)
    (nearer (waits_at c.args.sessions.now.entries) n
    (seen c.due_after-next.result) c.jobs.numbers.items c.args.second jobs c.by_id.ensures.rising were
    (subst (λ due. seen c.due_after-next.result ≡ first_due_after c.args.second (due, c.in-Some.id) jobs)
    c.due.ensures c.due_after-next.ensures.job))

pub jobs-preserved : goal.jobs-preserved
unfolding seen
jobs-preserved g c =
    let jobs = g.M.JobMap.entries c.args.jobs.now in
    let n : ℕ × Job = (c.in-Some.id, c.in-Some.job.now) in
    let were : AreNoted (waits_at c.args.sessions.now.entries) (Some n) c.jobs.numbers.items c.args.second jobs =
    subst (λ o. AreNoted (waits_at c.args.sessions.now.entries) (seen o) c.jobs.numbers.items c.args.second jobs)
    c.in-Some.is c.jobs.invariant in
    let more : IsNoted (waits_at c.args.sessions.now.entries) c.in-Some.job.now.state c.jobs.numbers.items c.note_holder.new.numbers.items =
    noted-by c.args.sessions.now.entries c.in-Some.job.now.state c.jobs.numbers.items c.note_holder.new.numbers.items c.in_ok-note_holder.ensures.ok in
    noted-next (waits_at c.args.sessions.now.entries) n
    (seen c.due_after-next.result) c.jobs.numbers.items c.note_holder.new.numbers.items c.args.second
    (2 ^ 64) jobs c.by_id.ensures.rising were more
    (subst (λ due. seen c.due_after-next.result ≡ first_due_after c.args.second (due, c.in-Some.id) jobs)
    c.due.ensures c.due_after-next.ensures.job)

pub returns-clause-ok : goal.returns-clause-ok
unfolding seen
returns-clause-ok g c =
    noted-all (seen c.jobs.next) c.jobs.numbers.items c.args.second
    (g.M.JobMap.entries c.args.jobs.now) c.args.sessions.now.entries (ap seen c.in_default.is) c.jobs.invariant

pub returns-in_err-note_holder-clause-err : goal.returns-in_err-note_holder-clause-err
unfolding seen
returns-in_err-note_holder-clause-err g c =
    let jobs = g.M.JobMap.entries c.args.jobs.now in
    let n : ℕ × Job = (c.in-Some.id, c.in-Some.job.now) in
    let were : AreNoted (waits_at c.args.sessions.now.entries) (Some n) c.jobs.numbers.items c.args.second jobs =
    subst (λ o. AreNoted (waits_at c.args.sessions.now.entries) (seen o) c.jobs.numbers.items c.args.second jobs)
    c.in-Some.is c.jobs.invariant in
    on_err c.from_residual.result (some-holder c.args.second n jobs c.args.sessions.now.entries were.due c.in_err-note_holder.ensures.err)

pub returns-clause-often : goal.returns-clause-often
unfolding seen
returns-clause-often g c =
    noted-often (seen c.jobs.next) c.jobs.numbers.items c.args.second
    (g.M.JobMap.entries c.args.jobs.now) c.args.sessions.now.entries (ap seen c.in_default.is) c.jobs.invariant
