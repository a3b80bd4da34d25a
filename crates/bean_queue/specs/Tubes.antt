-- Which tubes there are.
use Rattle.std.specs.Prelude.{◌≡◌, ℕ, List, [], ◌∷◌, ◌++◌, map, flat_map, fold, codes}
use Rattle.std.specs.Ordering.{nat_cmp}
use Rattle.std.specs.Cmp.Lexicographic.{slice_cmp}
use Rattle.std.specs.BTreeSet.{insert_key}
use Rattle.object.specs.Lists.{In}
use Rattle.job_store.specs.declared.job.Job.{Job}
use Rattle.session_store.specs.declared.session.SessionState.{SessionState}
use Rattle.bean_queue.specs.Queue.{QueueState}

-- the names, each once, by their bytes
abbrev pub in_order : List (List ℕ) → List (List ℕ)
in_order names = fold (insert_key (slice_cmp nat_cmp)) [] names

-- `default`, and each tube that has a job, or is used or watched (protocol.txt of beanstalkd, "list-tubes")
unfoldable pub all_tubes : QueueState → List (List ℕ)
all_tubes s =
    in_order (codes "default" ∷ map (λ e. e.1.tube) s.jobs ++ flat_map (λ e. e.1.used ∷ e.1.watched) s.sessions)

-- the tube is `default`, or has a job, or a session uses or watches it
pub data IsTube (s : QueueState) (tube : List ℕ) : Type 0 where
  default : tube ≡ codes "default" → IsTube s tube
  of_job : (j : ℕ × Job) → In j s.jobs → tube ≡ j.1.tube → IsTube s tube
  used : (w : ℕ × SessionState) → In w s.sessions → tube ≡ w.1.used → IsTube s tube
  watched : (w : ℕ × SessionState) → In w s.sessions → In tube w.1.watched → IsTube s tube
