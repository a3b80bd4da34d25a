-- Which tubes there are doesn't change where jobs change their states and sessions their waits.
use Rattle.std.proofs.Common.{◌≡◌, ℕ, Bool, true, false, cond, ◌==◌, List, [], ◌∷◌, ◌++◌, length, codes, refl, sym, ap, ap₂, ◌∙◌}
use Rattle.std.proofs.Common.{Option, Some, None, IfSome, nat_lt, ◌+◌, ◌<◌, ◌≤◌, ◌⊎◌, inl, inr, drop, get_or, subst}
use Rattle.std.proofs.lemmas.List.{drop_more}
use Rattle.std.proofs.Math.ListN.{drop_of_length-le}
use Rattle.object.specs.Lists.{In}
use Rattle.object.specs.declared.command.Key.{Key}
use Rattle.job_store.specs.declared.job.Job.{Job}
use Rattle.job_store.specs.Entries.{each_value, altered}
use Rattle.job_store.specs.LookUps.{is_among}
use Rattle.job_store.specs.States.{is_due, is_held, with_state, over_job, reserved_job}
use Rattle.job_store.specs.declared.state.State.{State}
use Rattle.session_store.specs.declared.session.SessionState.{SessionState}
use Rattle.session_store.specs.Sessions.{session_of, with_wait, with_wait_ended, is_waiting}
use Rattle.pause_store.specs.Pauses.{tubes_over}
use Rattle.bean_words.specs.declared.op.Op.{Op}
use Rattle.bean_words.specs.declared.reply.Reply.{Reply}
use Rattle.bean_queue.specs.Queue.{QueueState, with_sessions, holds_by}
use Rattle.bean_queue.specs.Rows.{settled}
use Rattle.bean_queue.specs.Tubes.{all_tubes, in_order}
use Rattle.bean_queue.specs.Turns.{QueueTurn, QueueOutcome, stop, given, told_turn, all_turns, serve, serve_turn, deadline_turn, timeout_turn}
use Rattle.bean_queue.specs.Effects.{turned_away, is_zero, change_if, released, second_begun, second_passed, then_settled, tick_effect}
use Rattle.bean_queue.specs.TurnLaws.{turns-keep, serve_turn-is, deadline_turn-is, timeout_turn-is, IfSome-map}
use Rattle.bean_queue.proofs.tubes.TubeLists.{tubes_of_jobs, tubes_of_sessions}

module _ (f : Job → Job) (same : (job : Job) → (f job).tube ≡ job.tube) where
  kept-tube : (b : Bool) (job : Job) → (cond b (f job) job).tube ≡ job.tube
  kept-tube true job = same job
  kept-tube false job = refl

  pub altered-jobs : (k : ℕ) (jobs : List (ℕ × Job)) → tubes_of_jobs (altered k f jobs) ≡ tubes_of_jobs jobs
  altered-jobs k [] = refl
  altered-jobs k (e ∷ es) = ap₂ (λ t ts. t ∷ ts) (kept-tube (k == e.0) e.1) (altered-jobs k es)

  pub each-jobs : (jobs : List (ℕ × Job)) → tubes_of_jobs (each_value f jobs) ≡ tubes_of_jobs jobs
  each-jobs [] = refl
  each-jobs (e ∷ es) = ap₂ (λ t ts. t ∷ ts) (same e.1) (each-jobs es)

module _ (f : SessionState → SessionState) (same : (c : SessionState) → ((f c).used ∷ (f c).watched) ≡ c.used ∷ c.watched) where
  kept-tubes : (b : Bool) (c : SessionState) → ((cond b (f c) c).used ∷ (cond b (f c) c).watched) ≡ c.used ∷ c.watched
  kept-tubes true c = same c
  kept-tubes false c = refl

  pub altered-sessions : (x : ℕ) (sessions : List (ℕ × SessionState)) → tubes_of_sessions (altered x f sessions) ≡ tubes_of_sessions sessions
  altered-sessions x [] = refl
  altered-sessions x (e ∷ es) = ap₂ (λ (ts us : List (List ℕ)). ts ++ us) (kept-tubes (x == e.0) e.1) (altered-sessions x es)

ended-sessions : (x : ℕ) (sessions : List (ℕ × SessionState)) → tubes_of_sessions (with_wait_ended x sessions) ≡ tubes_of_sessions sessions
ended-sessions x sessions = altered-sessions (with_wait None) (λ c. refl) x sessions

-- the same tubes of jobs, and the same of sessions
pub same-lists : (s t : QueueState) → tubes_of_jobs t.jobs ≡ tubes_of_jobs s.jobs → tubes_of_sessions t.sessions ≡ tubes_of_sessions s.sessions
    → all_tubes t ≡ all_tubes s
unfolding all_tubes
same-lists s t jobs sessions = ap₂ (λ (js ws : List (List ℕ)). in_order (codes "default" ∷ js ++ ws)) jobs sessions

pub ended-tubes : (x : ℕ) (s : QueueState) → all_tubes (with_sessions s (with_wait_ended x s.sessions)) ≡ all_tubes s
ended-tubes x s = same-lists s (with_sessions s (with_wait_ended x s.sessions)) refl (ended-sessions x s.sessions)

-- what is counted of tubes has no part in it
pub settled-tubes : (tubes : List (List ℕ)) (s : QueueState) → all_tubes (settled tubes s) ≡ all_tubes s
settled-tubes tubes s = same-lists s (settled tubes s) refl refl

-- Turns

given-tubes : (s : QueueState) (j : ℕ × Job) (w : ℕ × SessionState) → all_tubes (given s j w).state ≡ all_tubes s
unfolding given
given-tubes s j w =
    same-lists s (given s j w).state (altered-jobs (reserved_job w.0 (s.now + j.1.ttr)) (λ job. refl) j.0 s.jobs) (ended-sessions w.0 s.sessions)

told-tubes : (s : QueueState) (reply : Reply) (w : ℕ × SessionState) → all_tubes (told_turn s reply w).state ≡ all_tubes s
unfolding told_turn
told-tubes s reply w = ended-tubes w.0 s

pub serve-tubes : (s : QueueState) → all_tubes (serve s).state ≡ all_tubes s
unfolding serve all_turns
serve-tubes s = (turns-keep serve_turn (λ t. all_tubes t ≡ all_tubes s) (λ a. Unit {0})
    (λ t same. IfSome-map _ _ (serve_turn t)
    (λ u i. (ap (λ (u : QueueTurn). all_tubes u.state) i.made ∙ given-tubes t i.job i.session ∙ same, tt)) (serve_turn-is t))
    (length s.sessions) s refl).0

deadlines-tubes : (s : QueueState) → all_tubes (all_turns deadline_turn s).state ≡ all_tubes s
unfolding all_turns
deadlines-tubes s = (turns-keep deadline_turn (λ t. all_tubes t ≡ all_tubes s) (λ a. Unit {0})
    (λ t same. IfSome-map _ _ (deadline_turn t)
    (λ u i. (ap (λ (u : QueueTurn). all_tubes u.state) i.made ∙ told-tubes t Reply.DeadlineSoon i.session ∙ same, tt)) (deadline_turn-is t))
    (length s.sessions) s refl).0

timeouts-tubes : (s : QueueState) → all_tubes (all_turns timeout_turn s).state ≡ all_tubes s
unfolding all_turns
timeouts-tubes s = (turns-keep timeout_turn (λ t. all_tubes t ≡ all_tubes s) (λ a. Unit {0})
    (λ t same. IfSome-map _ _ (timeout_turn t)
    (λ u i. (ap (λ (u : QueueTurn). all_tubes u.state) i.made ∙ told-tubes t Reply.TimedOut i.session ∙ same, tt)) (timeout_turn-is t))
    (length s.sessions) s refl).0

tubes_if : (s : QueueState) (b : Bool) (o p : QueueOutcome) → all_tubes o.state ≡ all_tubes s → all_tubes p.state ≡ all_tubes s
    → all_tubes (cond b o p).state ≡ all_tubes s
tubes_if s true o p h k = h
tubes_if s false o p h k = k

pub turned_away-tubes : (op : Op) (key : Key) (s : QueueState) → all_tubes (turned_away op key s).state ≡ all_tubes s
unfolding turned_away
turned_away-tubes (Op.Reserve seconds) key s =
    tubes_if s (is_waiting (session_of key.session s.sessions)) _ _
    (tubes_if s (holds_by key.session (s.now + 1) s.jobs) _ _ (ended-tubes key.session s)
    (tubes_if s (is_zero seconds) _ _ (ended-tubes key.session s) refl))
    refl
turned_away-tubes _ key s = refl

-- A second, and what a session gives back

kept_if : (which : State → Bool) (f : Job → Job) → ((job : Job) → (f job).tube ≡ job.tube) → (job : Job) → (change_if which f job).tube ≡ job.tube
kept_if which f same job = kept-tube f same (which job.state) job

pub released-tubes : (x : ℕ) (s : QueueState) → all_tubes (released x s) ≡ all_tubes s
released-tubes x s =
    same-lists s (released x s) (each-jobs _ (kept_if (is_held x) (with_state State.Ready) (λ job. refl)) s.jobs) (ended-sessions x s.sessions)

begun-tubes : (second : ℕ) (s : QueueState) → all_tubes (second_begun second s) ≡ all_tubes s
begun-tubes second s = same-lists s (second_begun second s) (each-jobs _ (kept_if (is_due second) over_job (λ job. refl)) s.jobs) refl

pub tick-tubes : (second : ℕ) (s : QueueState) → all_tubes (tick_effect second s).state ≡ all_tubes s
unfolding tick_effect
tick-tubes second s =
    let o = serve (second_begun second s) in
    let p = all_turns deadline_turn o.state in
    tubes_if s (nat_lt s.now second) (then_settled (tubes_over second s.pauses) (second_passed second s)) (stop s)
    (settled-tubes (tubes_over second s.pauses) (second_passed second s).state ∙
    timeouts-tubes p.state ∙ deadlines-tubes o.state ∙ serve-tubes (second_begun second s) ∙ begun-tubes second s)
    refl

-- names that are listed stay so where the tubes stay
pub still-listed : (listed : Option (List (List ℕ))) (s t : QueueState) → all_tubes t ≡ all_tubes s
    → IfSome listed (λ names. names ≡ all_tubes s) → IfSome listed (λ names. names ≡ all_tubes t)
still-listed None s t same h = tt
still-listed (Some names) s t same h = h ∙ sym same

-- Tubes that are settled one after the other

-- where all are said to be there, each is one of those that come from place i on, or is there
abbrev pub AreThere : Bool → List (List ℕ) → ℕ → QueueState → Type 0
AreThere there tubes i s =
    there ≡ true → (t : List ℕ) → In t tubes → In t (drop i tubes) ⊎ (is_among t (all_tubes s) ≡ true)

pub there-step : (tubes : List (List ℕ)) (i : ℕ) (tube : List ℕ) (s t : QueueState) (there one both : Bool) → i < length tubes
    → tube ≡ get_or tubes i tube → t ≡ settled (tube ∷ []) s → one ≡ is_among tube (all_tubes t)
    → (both ≡ true → (there ≡ true) × (one ≡ true)) → AreThere there tubes i s → AreThere both tubes (i + 1) t
there-step tubes i tube s t there one both within is made asked parts seen so u among =
    let same : all_tubes t ≡ all_tubes s = ap all_tubes made ∙ settled-tubes (tube ∷ []) s in
    elim (seen (parts so).0 u among) as (λ v. In u (drop (i + 1) tubes) ⊎ (is_among u (all_tubes t) ≡ true)) [
      | inr was ↦ inr (ap (is_among u) same ∙ was)
      | inl left ↦
          elim (subst (In u) (drop_more tubes i tube within ∙ ap (λ x. x ∷ drop (i + 1) tubes) (sym is)) left)
          as (λ v. In u (drop (i + 1) tubes) ⊎ (is_among u (all_tubes t) ≡ true)) [
            | inl it ↦ inr (ap (λ x. is_among x (all_tubes t)) it ∙ sym asked ∙ (parts so).1)
            | inr later ↦ inl later
          ]
    ]

pub there-end : (tubes : List (List ℕ)) (i : ℕ) (s : QueueState) (there : Bool) → length tubes ≤ i → AreThere there tubes i s
    → there ≡ true → (t : List ℕ) → In t tubes → is_among t (all_tubes s) ≡ true
there-end tubes i s there past seen so t among =
    elim (seen so t among) as (λ v. is_among t (all_tubes s) ≡ true) [
      | inl never ↦ absurd (subst (In t) (drop_of_length-le tubes past) never)
      | inr was ↦ was
    ]
