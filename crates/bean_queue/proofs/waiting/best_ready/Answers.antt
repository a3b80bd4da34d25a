use Rattle.std.proofs.Common.{◌≡◌, ◌<◌, ◌+◌, ℕ, suc, List, [], ◌∷◌, length, get_or, drop, drop-cons, option_map, rules, arith, ap₂, sym, subst, ◌∙◌}
use Rattle.std.proofs.lemmas.List.{drop_all}
use Rattle.std.specs.Map.{keys_of}
use Rattle.job_store.specs.LookUps.{not_paused, ready_in, pri_of_job}
use Rattle.job_store.proofs.least.Least.{least-shown-by}
use Rattle.job_store.proofs.readiness.Readiness.{IsBestSoFar, best-past, best-open, best-answer, best-found, best-missed}
use Rattle.bean_queue.proofs.waiting.best_ready.Goals.{then-not-is_paused, else-not-is_paused}
use Rattle.bean_queue.proofs.waiting.best_ready.Goals as goal

next-tube : (xs : List (List ℕ)) (i : ℕ) (x y : List ℕ) → i < length xs → x ≡ get_or xs i y → drop i xs ≡ x ∷ drop (i + 1) xs
next-tube xs i x y below here = let next : suc i ≡ i + 1 = omega arith in drop-cons xs i y below ∙ ap₂ (λ z n. z ∷ drop n xs) (sym here) next

pub loop-tube-preserved : goal.loop-tube-preserved
loop-tube-preserved g c =
    let paused = keys_of c.args.pauses.now.now.pauses in
    let tubes = c.args.tubes.now in
    let jobs = g.M.JobMap.entries c.args.jobs.now in
    let i = c.loop-tube.tube-index in
    let tube = c.tube-item.result in
    let cut = next-tube tubes i tube tube (search rules) c.tube-item.is in
    elim c.if-not-is_paused.branch [
      | then-not-is_paused w ↦
          subst (λ o. IsBestSoFar (not_paused paused tubes) (not_paused paused (drop (i + 1) tubes)) jobs (option_map (λ e. (e.0, e.1.now)) o)) (sym w.best-is)
          (best-open paused (not_paused paused tubes) (drop i tubes) (drop (i + 1) tubes) tube jobs
          (option_map (λ e. (e.0, e.1.now)) c.loop-tube.best)
          (option_map (λ e. (e.0, e.1.now)) w.first_ready-first.result) _ cut
          (sym c.is_paused.ensures ∙ w.if-not-is_paused.true) c.loop-tube.invariant w.first_ready-first.ensures.job
          w.more_urgent-best.ensures)
      | else-not-is_paused w ↦
          subst (λ o. IsBestSoFar (not_paused paused tubes) (not_paused paused (drop (i + 1) tubes)) jobs (option_map (λ e. (e.0, e.1.now)) o)) (sym w.best-is)
          (best-past paused (not_paused paused tubes) (drop i tubes) (drop (i + 1) tubes) tube jobs
          (option_map (λ e. (e.0, e.1.now)) c.loop-tube.best) cut
          (sym c.is_paused.ensures ∙ w.if-not-is_paused.false) c.loop-tube.invariant)
    ]

pub returns : goal.returns
returns g c =
    let paused = keys_of c.args.pauses.now.now.pauses in
    let tubes = not_paused paused c.args.tubes.now in
    let jobs = g.M.JobMap.entries c.args.jobs.now in
    let none : drop c.loop-tube.tube-index c.args.tubes.now ≡ [] = drop_all c.loop-tube.tube-index c.args.tubes.now (search rules) in
    let all = best-answer tubes jobs _
    (subst (λ rest. IsBestSoFar tubes (not_paused paused rest) jobs
    (option_map (λ e. (e.0, e.1.now)) c.loop-tube.best)) none c.loop-tube.invariant) in
    least-shown-by (ready_in tubes) pri_of_job (λ e. (e.0, e.1.now)) jobs _ _ c.loop-tube.best c.by_id.ensures.rising
    (best-found (λ e. (e.0, e.1.now)) tubes jobs c.loop-tube.best all)
    (best-missed (λ e. (e.0, e.1.now)) tubes jobs c.loop-tube.best all)
