use Rattle.std.proofs.Common.{rules, ◌≡◌, ◌||◌, ◌∙◌, ℕ, List, [], ◌∷◌, ap, sym, bytes_eq}
use Rattle.job_store.specs.declared.job.Job.{Job}
use Rattle.job_store.specs.LookUps.{has_jobs}
use Rattle.bean_queue.proofs.tubes.TubeSets.{none-added, only-more, one-added, all-added}
use Rattle.bean_queue.proofs.scan_jobs.add_tubes.Goals as goal

pub loop-stored-init : goal.loop-stored-init
loop-stored-init c = none-added _ _ _ (search rules)

pub loop-stored-preserved : goal.loop-stored-preserved
loop-stored-preserved c =
    let next : c.loop-stored.stored-iterator ≡ (c.in-Some.field-0-0.now, c.in-Some.stored.now) ∷ c.next.new.self = search rules in
    let cut : (t : List ℕ) → has_jobs t c.loop-stored.stored-iterator
    ≡ (bytes_eq t c.as_job.result.now.tube || has_jobs t c.next.new.self) =
    λ t. ap (has_jobs t) next ∙ ap (λ (j : Job). bytes_eq t j.tube || has_jobs t c.next.new.self) (sym c.as_job.ensures) in
    one-added _ _ _ _ _ _ c.as_job.result.now.tube cut c.add_name.ensures.kept c.add_name.ensures.only c.loop-stored.invariant c.in_ok-add_name.ensures.there

pub returns-in_err-add_name-clause-kept : goal.returns-in_err-add_name-clause-kept
returns-in_err-add_name-clause-kept c = λ t i. c.add_name.ensures.kept t (c.loop-stored.invariant.kept t i)

pub returns-in_err-add_name-clause-only : goal.returns-in_err-add_name-clause-only
returns-in_err-add_name-clause-only c =
    let next : c.loop-stored.stored-iterator ≡ (c.in-Some.field-0-0.now, c.in-Some.stored.now) ∷ c.next.new.self = search rules in
    let cut : (t : List ℕ) → has_jobs t c.loop-stored.stored-iterator
    ≡ (bytes_eq t c.as_job.result.now.tube || has_jobs t c.next.new.self) =
    λ t. ap (has_jobs t) next ∙ ap (λ (j : Job). bytes_eq t j.tube || has_jobs t c.next.new.self) (sym c.as_job.ensures) in
    only-more _ _ _ _ _ _ c.as_job.result.now.tube cut c.add_name.ensures.kept c.add_name.ensures.only c.loop-stored.invariant

pub returns-clause-all : goal.returns-clause-all
returns-clause-all c =
    let none : c.loop-stored.stored-iterator ≡ [] = search rules in
    λ t has. all-added _ _ _ _ none c.loop-stored.invariant t has
