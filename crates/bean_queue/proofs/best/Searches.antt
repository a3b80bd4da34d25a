-- The least of some entries, of which one is looked at after another.
use Rattle.std.proofs.Common.{◌≡◌, ℕ, Bool, true, List, ◌∷◌, Option, Some, sym, ap, ◌∙◌}
use Rattle.std.proofs.lemmas.Bool.{cond-true}
use Rattle.job_store.specs.declared.job.Job.{Job}
use Rattle.job_store.specs.Least.{lesser, first_of, least}
use Rattle.job_store.proofs.least.Firsts.{first_of-assoc}

first_of-lesser : (by : Job → ℕ) (o : Option (ℕ × Job)) (e new : ℕ × Job) (r : Option (ℕ × Job))
    → Some new ≡ first_of by o (Some e) → Some (lesser by new r) ≡ first_of by o (Some (lesser by e r))
first_of-lesser by o e new r h = ap (λ x. first_of by x r) h ∙ first_of-assoc by o (Some e) r

-- an entry that passes, after those of which the least is known
pub least-step : (test : ℕ × Job → Bool) (by : Job → ℕ) (o : Option (ℕ × Job)) (e new : ℕ × Job)
    (es all : List (ℕ × Job)) → first_of by o (least test by (e ∷ es)) ≡ least test by all → test e ≡ true
    → Some new ≡ first_of by o (Some e) → Some (lesser by new (least test by es)) ≡ least test by all
least-step test by o e new es all h t n =
    first_of-lesser by o e new (least test by es) n ∙
    sym (ap (first_of by o) (cond-true (test e) (Some (lesser by e (least test by es))) (least test by es) t)) ∙
    h
