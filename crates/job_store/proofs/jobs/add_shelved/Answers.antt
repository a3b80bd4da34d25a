use Rattle.std.proofs.Common.{◌≡◌, true, [], ◌∷◌, rules, ap}
use Rattle.std.specs.Map.{keys_of}
use Rattle.job_store.specs.LookUps.{has_jobs}
use Rattle.bean_words.proofs.naming.NameSets.{none-added, one-added, all-added, adds-twice}
use Rattle.job_store.proofs.jobs.add_shelved.Goals as goal

pub loop-tube-init : goal.loop-tube-init
loop-tube-init g c = none-added _ _ _ _ _ (ap keys_of (search rules))

pub loop-tube-preserved : goal.loop-tube-preserved
loop-tube-preserved g c =
    let cut : keys_of c.loop-tube.tube-iterator ≡ c.in-Some.tube.now ∷ keys_of c.next.new.self = search rules in
    one-added (λ t. has_jobs t c.args.jobs.now.jobs ≡ true)
    (λ t. has_jobs t c.args.jobs.now.jobs ≡ true) _ _ _ _ _ _ c.in-Some.tube.now cut c.add_filled.ensures.added
    c.in_ok-add_filled.ensures.there c.loop-tube.invariant

pub returns-in_err-add_filled-clause-added : goal.returns-in_err-add_filled-clause-added
returns-in_err-add_filled-clause-added g c = adds-twice c.loop-tube.invariant.added c.add_filled.ensures.added

pub returns-clause-all : goal.returns-clause-all
returns-clause-all g c =
    let none : c.loop-tube.tube-iterator ≡ [] = search rules in
    λ t has i. all-added (λ t. has_jobs t c.args.jobs.now.jobs ≡ true)
    (λ t. has_jobs t c.args.jobs.now.jobs ≡ true) _ _ _ _ (ap keys_of none) c.loop-tube.invariant t has i
