use Rattle.std.proofs.Common.{◌≡◌, true, false, is_some, rules}
use Rattle.job_store.specs.LookUps.{pri_of_job, due_of_job, rank_of_job}
use Rattle.job_store.proofs.readiness.TubeJobs.{ready-has, delayed-has, buried-has, none-has}
use Rattle.job_store.proofs.jobs.JobsJobMap.has_jobs.Goals as goal

pub returns-then-is_some : goal.returns-then-is_some
returns-then-is_some c =
    let there : is_some c.first_ready.result ≡ true = search rules in
    ready-has (λ e. (e.0, e.1.now)) c.args.tube.now c.args.self.now.jobs pri_of_job c.first_ready.result c.first_ready.ensures.found there

pub returns-then-is_some-2 : goal.returns-then-is_some-2
returns-then-is_some-2 c =
    let there : is_some c.first_delayed.result ≡ true = search rules in
    delayed-has (λ e. (e.0, e.1.now)) c.args.tube.now c.args.self.now.jobs due_of_job c.first_delayed.result c.first_delayed.ensures.found there

pub returns-then-is_some-3 : goal.returns-then-is_some-3
returns-then-is_some-3 c =
    let there : is_some c.first_buried.result ≡ true = search rules in
    buried-has (λ e. (e.0, e.1.now)) c.args.tube.now c.args.self.now.jobs rank_of_job c.first_buried.result c.first_buried.ensures.found there

pub returns : goal.returns
returns c =
    let result : c.is_some-4.result ≡ is_some c.first_reserved.result = search rules in
    let no_ready : is_some c.first_ready.result ≡ false = search rules in
    let no_delayed : is_some c.first_delayed.result ≡ false = search rules in
    let no_buried : is_some c.first_buried.result ≡ false = search rules in
    none-has (λ e. (e.0, e.1.now)) c.args.tube.now c.args.self.now.jobs due_of_job c.first_ready.result
    c.first_delayed.result c.first_buried.result c.first_reserved.result c.is_some-4.result result no_ready
    no_delayed no_buried
    c.first_ready.ensures.none c.first_delayed.ensures.none c.first_buried.ensures.none c.first_reserved.ensures.none c.first_reserved.ensures.found
