-- What a turn of Serve gives is the best.
use Rattle.std.proofs.Common.{◌≡◌, ℕ, Bool, true, ◌&&◌, List, Some, None, IfSome, filter_map, refl, ◌∙◌}
use Rattle.std.proofs.lemmas.Bool.{cond-true, and_from}
use Rattle.object.specs.Lists.{In}
use Rattle.job_store.specs.declared.job.Job.{Job}
use Rattle.job_store.specs.Least.{ComesBefore, IsLeast, least}
use Rattle.job_store.specs.LookUps.{is_among, ready_in, best_ready, pri_of_job, not_paused}
use Rattle.job_store.specs.States.{is_ready}
use Rattle.job_store.proofs.least.Least.{never_between}
use Rattle.session_store.specs.declared.session.SessionState.{SessionState}
use Rattle.session_store.specs.Sessions.{first_waiting, is_waiting, wait_rank}
use Rattle.bean_queue.specs.Best.{IsWanted, IsBestTurn}
use Rattle.bean_queue.specs.Queue.{QueueState, paused_tubes}
use Rattle.bean_queue.specs.TurnLaws.{least-none, next_job-in}
use Rattle.bean_queue.specs.Turns.{QueueTurn, wanted, next_job, give, give_to, given, serve_turn}
use Rattle.bean_queue.proofs.best.Paused.{open-watched, watched-open}
use Rattle.bean_queue.proofs.best.Served.{filter_map-there, wanted-by}

-- what is found is least: of jobs, and of sessions
abbrev pub FindsLeast : Type 0 → Type 0
FindsLeast X = (test : ℕ × X → Bool) (by : X → ℕ) (es : List (ℕ × X)) → IfSome (least test by es) (IsLeast test by es)

urgent : FindsLeast Job → (s : QueueState) (j : ℕ × Job)
    → IsLeast (λ e. true) pri_of_job (filter_map (wanted (paused_tubes s) s.jobs) s.sessions) j → (d : ℕ × Job)
    → IsWanted s d → ComesBefore pri_of_job d j → ⊥
urgent finds s j best d w before =
    let x = w.watched.0 in
    elim (best_ready (not_paused (paused_tubes s) w.watched.0.1.watched) s.jobs) as (λ o. best_ready
    (not_paused (paused_tubes s) w.watched.0.1.watched) s.jobs ≡ o
    → IfSome o (IsLeast (ready_in (not_paused (paused_tubes s) w.watched.0.1.watched)) pri_of_job s.jobs) → ⊥) [
      | None ↦ λ e h. least-none (ready_in (not_paused (paused_tubes s) w.watched.0.1.watched)) pri_of_job s.jobs d e
          w.there (and_from (is_ready d.1.state)
          (is_among d.1.tube (not_paused (paused_tubes s) w.watched.0.1.watched)) w.ready
          (watched-open (paused_tubes s) w.watched.0.1.watched d.1.tube w.watched.3 w.unpaused))
      | Some b ↦ λ e h.
          let there : In b (filter_map (wanted (paused_tubes s) s.jobs) s.sessions) =
          filter_map-there (wanted (paused_tubes s) s.jobs) s.sessions w.watched.0 b w.watched.1
          (cond-true (is_waiting w.watched.0.1)
          (best_ready (not_paused (paused_tubes s) w.watched.0.1.watched) s.jobs) None w.watched.2 ∙ e) in
          never_between pri_of_job d j b (best.least b there refl)
          (h.least d w.there (and_from (is_ready d.1.state)
          (is_among d.1.tube (not_paused (paused_tubes s) w.watched.0.1.watched)) w.ready
          (watched-open (paused_tubes s) w.watched.0.1.watched d.1.tube w.watched.3 w.unpaused)))
          before
    ] refl (finds (ready_in (not_paused (paused_tubes s) w.watched.0.1.watched)) pri_of_job s.jobs)

none≢some : {X : Type 0} (x : X) → None ≡ Some x → ⊥
none≢some x e = cc

same_turn : (t u : QueueTurn) → Some t ≡ Some u → u ≡ t
same_turn t u e = cc

pub turn-best : FindsLeast Job → FindsLeast SessionState → (s : QueueState) (t : QueueTurn) → serve_turn s ≡ Some t → IsBestTurn s t
unfolding serve_turn
turn-best jobs sessions s t e =
    elim (next_job s) as (λ o. IfSome o (λ j. In j s.jobs × (is_ready j.1.state ≡ true))
    → IfSome o (IsLeast (λ e. true) pri_of_job (filter_map (wanted (paused_tubes s) s.jobs) s.sessions))
    → give s o ≡ Some t → IsBestTurn s t) [
      | None ↦ λ i l e. absurd (none≢some t e)
      | Some j ↦ λ i l e.
          elim (first_waiting (λ e. is_among j.1.tube e.1.watched) s.sessions) as (λ o. IfSome o
          (IsLeast (λ e. is_waiting e.1 && is_among j.1.tube e.1.watched) wait_rank s.sessions)
          → give_to s j o ≡ Some t → IsBestTurn s t) [
            | None ↦ λ f e. absurd (none≢some t e)
            | Some w ↦ λ f e. record {
              job = j;
              session = w;
              made = same_turn (given s j w) t e;
              wanted =
                  let by = wanted-by (paused_tubes s) s.jobs s.sessions j l.member in
                  let clear = open-watched (paused_tubes s) by.0.1.watched j.1.tube by.3 in
                  record { there = i.0; ready = i.1; unpaused = clear.1; watched = (by.0, by.1, by.2, clear.0) };
              urgent = urgent jobs s j l;
              first = f;
            }
          ] (sessions (λ e. is_waiting e.1 && is_among j.1.tube e.1.watched) wait_rank s.sessions) e
    ] (next_job-in s) (jobs (λ e. true) pri_of_job (filter_map (wanted (paused_tubes s) s.jobs) s.sessions)) e
