use Rattle.std.proofs.Common.{◌≡◌, ◌^◌, [], rules, option_map, subst, sym, ap, ◌∙◌}
use Rattle.std.specs.Map.{keys_of}
use Rattle.job_store.specs.Undone.{MapState}
use Rattle.job_store.specs.Entries.{Rising}
use Rattle.job_store.specs.LookUps.{not_paused, ready_in, pri_of_job}
use Rattle.job_store.proofs.least.Least.{least-shown-by}
use Rattle.job_store.proofs.readiness.Readiness.{IsBestSoFar, best-none, best-past, best-open, best-answer, best-found, best-missed, key-among}
use Rattle.job_store.proofs.jobs.JobsJobMap.best_ready.Goals as goal

pub loop-tube-init : goal.loop-tube-init
loop-tube-init c = best-none _ _ _ (ap (not_paused (keys_of c.args.paused.now.entries)) (search rules))

pub loop-tube-preserved-then-not-contains_key : goal.loop-tube-preserved-then-not-contains_key
loop-tube-preserved-then-not-contains_key c =
    let tube = c.in-Some.tube.now in
    best-open (keys_of c.args.paused.now.entries) _ c.loop-tube.tube-iterator c.next.new.self tube _
    (option_map (λ e. (e.0, e.1.now)) c.loop-tube.best) (option_map (λ e. (e.0, e.1.now)) c.first_ready.result) _
    (search rules) (sym (key-among tube c.args.paused.now.entries) ∙ sym c.contains_key.ensures ∙
    c.if-not-contains_key.true) c.loop-tube.invariant c.first_ready.ensures.job c.more_urgent-best.ensures

pub loop-tube-preserved : goal.loop-tube-preserved
loop-tube-preserved c =
    let tube = c.in-Some.tube.now in
    best-past (keys_of c.args.paused.now.entries) _ c.loop-tube.tube-iterator c.next.new.self tube _
    (option_map (λ e. (e.0, e.1.now)) c.loop-tube.best) (search rules)
    (sym (key-among tube c.args.paused.now.entries) ∙ sym c.contains_key.ensures ∙ c.if-not-contains_key.false)
    c.loop-tube.invariant

pub returns-clause-found : goal.returns-clause-found
returns-clause-found c =
    let tubes = not_paused (keys_of c.args.paused.now.entries) c.args.tubes.now.keys in
    let none : c.loop-tube.tube-iterator ≡ [] = search rules in
    best-found (λ e. (e.0, e.1.now)) tubes c.args.self.now.jobs c.loop-tube.best
    (best-answer tubes c.args.self.now.jobs _
    (subst (λ rest. IsBestSoFar tubes (not_paused (keys_of c.args.paused.now.entries) rest) c.args.self.now.jobs
    (option_map (λ e. (e.0, e.1.now)) c.loop-tube.best)) none c.loop-tube.invariant))

pub returns-clause-none : goal.returns-clause-none
returns-clause-none c =
    let tubes = not_paused (keys_of c.args.paused.now.entries) c.args.tubes.now.keys in
    let none : c.loop-tube.tube-iterator ≡ [] = search rules in
    best-missed (λ e. (e.0, e.1.now)) tubes c.args.self.now.jobs c.loop-tube.best
    (best-answer tubes c.args.self.now.jobs _
    (subst (λ rest. IsBestSoFar tubes (not_paused (keys_of c.args.paused.now.entries) rest) c.args.self.now.jobs
    (option_map (λ e. (e.0, e.1.now)) c.loop-tube.best)) none c.loop-tube.invariant))

pub returns-clause-job : goal.returns-clause-job
returns-clause-job c =
    least-shown-by (ready_in (not_paused (keys_of c.args.paused.now.entries) c.args.tubes.now.keys)) pri_of_job
    (λ e. (e.0, e.1.now)) c.args.self.now.jobs _ _ c.loop-tube.best
    (subst (Rising 0 (2 ^ 64)) (ap (λ (m : MapState). m.jobs) c.self.view_is) c.self.invariant.held.rising) (returns-clause-found c) (returns-clause-none c)
