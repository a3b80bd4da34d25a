-- Where nothing is left to give, nothing is after less: fewer ready jobs, and fewer sessions that wait.
use Rattle.std.proofs.Common.{◌≡◌, ℕ, ◌+◌, Bool, true, false, cond, inl, inr, List, [], ◌∷◌, ◌++◌, append-nil}
use Rattle.std.proofs.Common.{filter_map, length, Option, Some, None, is_some, IsSome, ◌==◌, nat_lt, refl, sym, ap, subst, ◌∙◌}
use Rattle.std.proofs.Common.{eqb-true, true≢false}
use Rattle.std.proofs.lemmas.Bool.{and_parts, and_from}
use Rattle.std.specs.List.{cons_option}
use Rattle.object.specs.Lists.{In}
use Rattle.object.specs.declared.command.Key.{Key}
use Rattle.job_store.specs.declared.job.Job.{Job}
use Rattle.job_store.specs.Entries.{value_at, with_value, altered}
use Rattle.job_store.specs.EntryLaws.{altered-in, insert-in, without-in}
use Rattle.job_store.specs.Least.{least}
use Rattle.job_store.specs.LookUps.{best_ready, ready_in, is_among, pri_of_job, not_paused}
use Rattle.job_store.specs.States.{is_ready, is_held}
use Rattle.session_store.specs.declared.session.SessionState.{SessionState}
use Rattle.session_store.specs.declared.session.Wait.{Wait}
use Rattle.session_store.specs.Sessions.{session_of, new_session, with_wait, with_wait_ended, known, is_waiting}
use Rattle.session_store.specs.WatchLists.{is_alone}
use Rattle.session_store.specs.WaitLaws.{known-waits}
use Rattle.pause_store.specs.Pauses.{is_paused, tubes_over}
use Rattle.bean_words.specs.declared.op.Op.{Op}
use Rattle.bean_words.specs.declared.reply.Reply.{Reply}
use Rattle.bean_queue.specs.Queue.{QueueState, paused_tubes, with_sessions, fresh, watched_by, holds_by}
use Rattle.bean_queue.specs.Rows.{Row, settled, row, put_row, use_row, watch_row, ignore_row, reserve_row, delete_row}
use Rattle.bean_queue.specs.Rows.{may_delete, delete_found, is_job_that, release_row, touch_row, bury_row, kick_row, kick_job_row}
use Rattle.bean_queue.specs.Rows.{is_unreserved, reserve_found, reserve_job_row, peek_row, stats_job_row, stats_tube_row, stats_row}
use Rattle.bean_queue.specs.Turns.{QueueOutcome, after_option, QueueTurn, stop, all_turns, wanted, next_job, give, serve_turn}
use Rattle.bean_queue.specs.Turns.{told_turn, deadline_turn, timeout_turn, serve}
use Rattle.bean_queue.specs.Effects.{own, own_outcome, then_do, with_ask_noted, called, ends_wait, is_zero, turned_away, has_no_number}
use Rattle.bean_queue.specs.Effects.{carried_out, do_effect, released, forgotten, second_begun, tick_effect, is_quiet}
use Rattle.bean_queue.specs.TurnLaws.{least-none, none-least, turns-keep, deadline_turn-is, timeout_turn-is, IsTold, IfSome-map}
use Rattle.bean_queue.proofs.best.Paused.{open-watched, watched-open}
use Rattle.bean_queue.proofs.best.Served.{serve-done, idle_none, turns-unroll, serves}

-- every ready job and every session that waits was there before
pub record IsCalmer (s t : QueueState) : Type 0 where
  pub jobs : (j : ℕ × Job) → In j t.jobs → is_ready j.1.state ≡ true → In j s.jobs
  pub sessions : (w : ℕ × SessionState) → In w t.sessions → is_waiting w.1 ≡ true → In w s.sessions
  pub pauses : (tube : List ℕ) → is_paused tube s.pauses ≡ true → is_paused tube t.pauses ≡ true

-- what is not paused after was not so before
pub was-open : (s t : QueueState) (tube : List ℕ) → IsCalmer s t → is_paused tube t.pauses ≡ false → is_paused tube s.pauses ≡ false
was-open s t tube c open-now =
    elim (is_paused tube s.pauses) as (λ b. is_paused tube s.pauses ≡ b → b ≡ false) [
      | true ↦ λ e. absurd (true≢false (sym (c.pauses tube e) ∙ open-now))
      | false ↦ λ e. refl
    ] refl

none-wanted : (paused : List (List ℕ)) (jobs : List (ℕ × Job)) (sessions : List (ℕ × SessionState))
    → ((w : ℕ × SessionState) → In w sessions → is_waiting w.1 ≡ true
    → best_ready (not_paused paused w.1.watched) jobs ≡ None) → filter_map (wanted paused jobs) sessions ≡ []
none-wanted paused jobs [] h = refl
none-wanted paused jobs (w ∷ ws) h =
    elim (is_waiting w.1) as (λ b. is_waiting w.1 ≡ b
    → cons_option (cond b (best_ready (not_paused paused w.1.watched) jobs) None)
    (filter_map (wanted paused jobs) ws) ≡ []) [
      | true ↦ λ t. ap (λ o. cons_option o (filter_map (wanted paused jobs) ws)) (h w (inl refl) t) ∙ none-wanted paused jobs ws (λ v i. h v (inr i))
      | false ↦ λ t. none-wanted paused jobs ws (λ v i. h v (inr i))
    ] refl

pub no-turn : (s : QueueState)
    → ((w : ℕ × SessionState) → In w s.sessions → is_waiting w.1 ≡ true
    → best_ready (not_paused (paused_tubes s) w.1.watched) s.jobs ≡ None) → serve_turn s ≡ None
unfolding serve_turn
no-turn s h = ap (λ es. give s (least (λ e. true) pri_of_job es)) (none-wanted (paused_tubes s) s.jobs s.sessions h)

-- where there is a job to give, there is a turn
pub next-serves : (s : QueueState) → IsSome (next_job s) → IsSome (serve_turn s)
next-serves s some =
    elim (serve_turn s) as (λ o. serve_turn s ≡ o → IsSome o) [
      | None ↦ λ none.
          let idle : filter_map (wanted (paused_tubes s) s.jobs) s.sessions ≡ [] = none-wanted (paused_tubes s) s.jobs s.sessions (idle_none s none) in
          absurd (true≢false (sym some ∙ ap (λ es. is_some (least (λ (e : ℕ × Job). true) pri_of_job es)) idle))
      | Some t ↦ λ turn. refl
    ] refl

pub calm : (s t : QueueState) → serve_turn s ≡ None → IsCalmer s t → serve_turn t ≡ None
calm s t none c =
    no-turn t
    (λ w i waits.
    let before : best_ready (not_paused (paused_tubes s) w.1.watched) s.jobs ≡ None = idle_none s none w (c.sessions w i waits) waits in
    none-least (ready_in (not_paused (paused_tubes t) w.1.watched)) pri_of_job t.jobs
    (λ j there passes.
    let parts = and_parts (is_ready j.1.state) (is_among j.1.tube (not_paused (paused_tubes t) w.1.watched)) passes in
    let clear = open-watched (paused_tubes t) w.1.watched j.1.tube parts.1 in
    least-none (ready_in (not_paused (paused_tubes s) w.1.watched)) pri_of_job s.jobs j before (c.jobs j there parts.0)
    (and_from (is_ready j.1.state) (is_among j.1.tube (not_paused (paused_tubes s) w.1.watched)) parts.0
    (watched-open (paused_tubes s) w.1.watched j.1.tube clear.0 (was-open s t j.1.tube c clear.1)))))

-- Sessions

the_wait : (o : Option Wait) → is_some o ≡ true → (w : Wait) × (o ≡ Some w)
the_wait None e = cc
the_wait (Some w) e = (w, refl)

pub ended-calmer : (x : ℕ) (sessions : List (ℕ × SessionState)) (w : ℕ × SessionState)
    → In w (with_wait_ended x sessions) → is_waiting w.1 ≡ true → In w sessions
ended-calmer x sessions w i =
    altered-in x (with_wait None) (λ w. is_waiting w.1 ≡ true → In w sessions) sessions
    (λ d there.
    elim (x == d.0) as (λ b. is_waiting (cond b (with_wait None d.1) d.1) ≡ true → In (d.0, cond b (with_wait None d.1) d.1) sessions) [
      | true ↦ λ t. cc
      | false ↦ λ t. there
    ])
    w i

known-calmer : (x : ℕ) (sessions : List (ℕ × SessionState)) (w : ℕ × SessionState) → In w (known x sessions) → is_waiting w.1 ≡ true → In w sessions
known-calmer x sessions w i =
    elim (is_some (value_at x sessions)) as (λ b. In w
    (cond b (with_wait_ended x sessions) (with_value x new_session sessions)) → is_waiting w.1 ≡ true
    → In w sessions) [
      | true ↦ λ i. ended-calmer x sessions w i
      | false ↦ λ i. insert-in (λ w. is_waiting w.1 ≡ true → In w sessions) x new_session sessions (λ q t. cc) (λ d there t. there) w i
    ] i

-- of sessions among which x does not wait, a change of x that keeps its wait
kept-calmer : (x : ℕ) (f : SessionState → SessionState) (sessions : List (ℕ × SessionState))
    → ((c : SessionState) → (f c).wait ≡ c.wait)
    → ((d : ℕ × SessionState) → In d sessions → x ≡ d.0 → is_waiting d.1 ≡ true → ⊥) → (w : ℕ × SessionState)
    → In w (altered x f sessions) → is_waiting w.1 ≡ true → In w sessions
kept-calmer x f sessions same idle w i =
    altered-in x f (λ w. is_waiting w.1 ≡ true → In w sessions) sessions
    (λ d there.
    elim (x == d.0) as (λ b. (x == d.0) ≡ b → is_waiting (cond b (f d.1) d.1) ≡ true → In (d.0, cond b (f d.1) d.1) sessions) [
      | true ↦ λ e t. absurd (idle d there (eqb-true x d.0 e) (ap is_some (sym (same d.1)) ∙ t))
      | false ↦ λ e t. there
    ] refl)
    w i

known-idle : (x : ℕ) (sessions : List (ℕ × SessionState)) (d : ℕ × SessionState) → In d (known x sessions) → x ≡ d.0 → is_waiting d.1 ≡ true → ⊥
known-idle x sessions d i same t =
    let w = the_wait d.1.wait t in
    (known-waits x sessions (record { session = d.0; number = w.0.number }) (d, w.0, i, refl, w.1, refl)).1 (sym same)

-- Jobs

-- a change to a state that is not ready
pub changed-calmer : (k : ℕ) (f : Job → Job) (jobs : List (ℕ × Job)) → ((job : Job) → is_ready (f job).state ≡ false)
    → (j : ℕ × Job) → In j (altered k f jobs) → is_ready j.1.state ≡ true → In j jobs
changed-calmer k f jobs unready j i =
    altered-in k f (λ j. is_ready j.1.state ≡ true → In j jobs) jobs
    (λ d there.
    elim (k == d.0) as (λ b. is_ready (cond b (f d.1) d.1).state ≡ true → In (d.0, cond b (f d.1) d.1) jobs) [
      | true ↦ λ t. absurd (true≢false (sym t ∙ unready d.1))
      | false ↦ λ t. there
    ])
    j i

-- Rows of quiet operations

same-calmer : (s : QueueState) → IsCalmer s s
same-calmer s = record { jobs = λ j i t. i; sessions = λ w i t. i; pauses = λ tube p. p }

calmer_if : (s : QueueState) (b : Bool) (r q : Row) → IsCalmer s r.state → IsCalmer s q.state → IsCalmer s (cond b r q).state
calmer_if s true r q h k = h
calmer_if s false r q h k = k

-- session x doesn't wait
abbrev pub IsIdleIn : ℕ → QueueState → Type 0
IsIdleIn x s = (d : ℕ × SessionState) → In d s.sessions → x ≡ d.0 → is_waiting d.1 ≡ true → ⊥

quiet-row : (op : Op) (key : Key) (s : QueueState) → is_quiet op ≡ true → IsIdleIn key.session s → IsCalmer s (row op key s).state
unfolding row put_row use_row watch_row ignore_row reserve_row delete_row release_row touch_row bury_row kick_row kick_job_row
    reserve_job_row peek_row stats_job_row stats_tube_row stats_row
quiet-row (Op.Put pri delay ttr body) key s q idle = cc
quiet-row (Op.Use tube) key s q idle =
    record {
      jobs = λ j i t. i;
      sessions =
          kept-calmer key.session _ s.sessions (λ c. refl) idle;
      pauses =
          λ tube p. p;
    }
quiet-row (Op.Watch tube) key s q idle =
    record {
      jobs = λ j i t. i;
      sessions =
          kept-calmer key.session _ s.sessions (λ c. refl) idle;
      pauses =
          λ tube p. p;
    }
quiet-row (Op.Ignore tube) key s q idle =
    calmer_if s (is_alone tube (watched_by s key.session)) _ _ (same-calmer s)
    (record {
      jobs = λ j i t. i;
      sessions =
          kept-calmer key.session _ s.sessions (λ c. refl) idle;
      pauses = λ tube p. p;
    })
quiet-row (Op.Reserve seconds) key s q idle = cc
quiet-row (Op.Delete id) key s q idle =
    elim (value_at id s.jobs) as (λ o. IsCalmer s (delete_found s key.session id o).state) [
      | None ↦ same-calmer s
      | Some job ↦
          calmer_if s (may_delete key.session job.state) _ _
          (record { jobs = λ j i t. without-in id s.jobs j i; sessions = λ w i t. i; pauses = λ tube p. p }) (same-calmer s)
    ]
quiet-row (Op.Touch id) key s q idle =
    calmer_if s (is_job_that (is_held key.session) (value_at id s.jobs)) _ _
    (record { jobs = changed-calmer id _ s.jobs (λ job. refl); sessions = λ w i t. i; pauses = λ tube p. p }) (same-calmer s)
quiet-row (Op.Release id pri delay) key s q idle = cc
quiet-row (Op.Bury id pri) key s q idle =
    calmer_if s (is_job_that (is_held key.session) (value_at id s.jobs)) _ _
    (record { jobs = changed-calmer id _ s.jobs (λ job. refl); sessions = λ w i t. i; pauses = λ tube p. p }) (same-calmer s)
quiet-row (Op.Kick bound) key s q idle = cc
quiet-row (Op.KickJob id) key s q idle = cc
quiet-row (Op.ReserveJob id) key s q idle =
    elim (value_at id s.jobs) as (λ o. IsCalmer s (reserve_found s key.session id o).state) [
      | None ↦ same-calmer s
      | Some job ↦
          calmer_if s (is_unreserved job.state) _ _
          (record { jobs = changed-calmer id _ s.jobs (λ job. refl); sessions = λ w i t. i; pauses = λ tube p. p }) (same-calmer s)
    ]
quiet-row (Op.Peek id) key s q idle = same-calmer s
quiet-row Op.PeekReady key s q idle = same-calmer s
quiet-row Op.PeekDelayed key s q idle = same-calmer s
quiet-row Op.PeekBuried key s q idle = same-calmer s
quiet-row Op.ListTubes key s q idle = same-calmer s
quiet-row Op.ListTubeUsed key s q idle = same-calmer s
quiet-row Op.ListTubesWatched key s q idle = same-calmer s
quiet-row (Op.Pause tube seconds) key s q idle = cc
quiet-row (Op.StatsJob id) key s q idle = same-calmer s
quiet-row (Op.StatsTube tube) key s q idle = same-calmer s
quiet-row Op.Stats key s q idle = same-calmer s

-- the session that was called doesn't wait
asked-idle : (op : Op) (x : ℕ) (sessions : List (ℕ × SessionState)) (d : ℕ × SessionState) → In d (altered x (with_ask_noted op) (known x sessions))
    → x ≡ d.0 → is_waiting d.1 ≡ true → ⊥
asked-idle op x sessions d i same t =
    altered-in x (with_ask_noted op) (λ d. x ≡ d.0 → is_waiting d.1 ≡ true → ⊥) (known x sessions)
    (λ e there.
    elim (x == e.0) as (λ b. x ≡ e.0 → is_waiting (cond b (with_ask_noted op e.1) e.1) ≡ true → ⊥) [
      | true ↦ λ same t. known-idle x sessions e there same t
      | false ↦ λ same t. known-idle x sessions e there same t
    ])
    d i same t

asked-calmer : (op : Op) (x : ℕ) (sessions : List (ℕ × SessionState)) (w : ℕ × SessionState)
    → In w (altered x (with_ask_noted op) (known x sessions)) → is_waiting w.1 ≡ true → In w sessions
asked-calmer op x sessions w i t =
    known-calmer x sessions w (kept-calmer x (with_ask_noted op) (known x sessions) (λ c. refl) (known-idle x sessions) w i t) t

pub called-calm : (op : Op) (x : ℕ) (s : QueueState) → serve_turn s ≡ None → serve_turn (called op x s) ≡ None
called-calm op x s none =
    calm s (called op x s) none (record { jobs = λ j i t. i; sessions = asked-calmer op x s.sessions; pauses = λ tube p. p })

quiet-turned_away : (op : Op) (key : Key) (s : QueueState) → is_quiet op ≡ true → turned_away op key s ≡ stop s
unfolding turned_away
quiet-turned_away (Op.Reserve seconds) key s q = cc
quiet-turned_away _ key s q = refl

pub serve-none : (s : QueueState) → serve_turn s ≡ None → serve s ≡ stop s
unfolding serve
serve-none s none = turns-unroll serve_turn serves s ∙ ap (after_option (all_turns serve_turn) s) none

-- after a quiet operation nobody is served
pub quiet-effect : (op : Op) (key : Key) (s : QueueState) → is_quiet op ≡ true → serve_turn s ≡ None
    → carried_out op key s ≡ own_outcome key (row op key (called op key.session s))
unfolding carried_out
quiet-effect op key s q none =
    let r = row op key (called op key.session s) in
    let after : serve_turn r.state ≡ None = calm (called op key.session s) r.state (called-calm op key.session s none)
    (quiet-row op key (called op key.session s) q (asked-idle op key.session s.sessions)) in
    ap (λ o. then_do (record { state = o.state; answers = own key r.reply ++ o.answers }) (turned_away op key)) (serve-none r.state after) ∙
    ap (λ o. record { state = o.state; answers = (own key r.reply ++ []) ++ o.answers }) (quiet-turned_away op key r.state q) ∙
    ap (λ xs. record { state = r.state; answers = xs }) (append-nil (own key r.reply ++ []) ∙ append-nil (own key r.reply))

-- Every effect leaves nothing to give

outcome_if : (b : Bool) (o p : QueueOutcome) → serve_turn o.state ≡ None → serve_turn p.state ≡ None → serve_turn (cond b o p).state ≡ None
outcome_if true o p h k = h
outcome_if false o p h k = k

ended-calm : (x : ℕ) (s : QueueState) → serve_turn s ≡ None → serve_turn (with_sessions s (with_wait_ended x s.sessions)) ≡ None
ended-calm x s none = calm s _ none (record { jobs = λ j i t. i; sessions = ended-calmer x s.sessions; pauses = λ tube p. p })

turned_away-calm : (op : Op) (key : Key) (s : QueueState) → serve_turn s ≡ None → serve_turn (turned_away op key s).state ≡ None
unfolding turned_away
turned_away-calm (Op.Reserve seconds) key s none =
    outcome_if (is_waiting (session_of key.session s.sessions)) _ _
    (outcome_if (holds_by key.session (s.now + 1) s.jobs) _ _ (ended-calm key.session s none)
    (outcome_if (is_zero seconds) _ _ (ended-calm key.session s none) none))
    none
turned_away-calm _ key s none = none

told-calm : (reply : Reply) (s : QueueState) (t : QueueTurn) → IsTold reply s t → serve_turn s ≡ None → serve_turn t.state ≡ None
unfolding told_turn
told-calm reply s t i none = subst (λ (t : QueueTurn). serve_turn t.state ≡ None) (sym i.made) (ended-calm i.session.0 s none)

pub deadlines-calm : (s : QueueState) → serve_turn s ≡ None → serve_turn (all_turns deadline_turn s).state ≡ None
unfolding all_turns
deadlines-calm s none = (turns-keep deadline_turn (λ s. serve_turn s ≡ None) (λ a. Unit {0})
    (λ s n. IfSome-map _ _ (deadline_turn s) (λ t i. (told-calm Reply.DeadlineSoon s t i n, tt)) (deadline_turn-is s))
    (length s.sessions) s none).0

pub timeouts-calm : (s : QueueState) → serve_turn s ≡ None → serve_turn (all_turns timeout_turn s).state ≡ None
unfolding all_turns
timeouts-calm s none = (turns-keep timeout_turn (λ s. serve_turn s ≡ None) (λ a. Unit {0})
    (λ s n. IfSome-map _ _ (timeout_turn s) (λ t i. (told-calm Reply.TimedOut s t i n, tt)) (timeout_turn-is s))
    (length s.sessions) s none).0

carried_out-calm : (op : Op) (key : Key) (s : QueueState) → serve_turn (carried_out op key s).state ≡ None
unfolding carried_out
carried_out-calm op key s = turned_away-calm op key _ (serve-done (row op key (called op key.session s)).state)

pub do-calm : (op : Op) (key : Key) (s : QueueState) → serve_turn s ≡ None → serve_turn (do_effect op key s).state ≡ None
unfolding do_effect
do-calm op key s none = outcome_if (has_no_number op s) (ends_wait s key Reply.InternalError) (carried_out op key s)
    (ended-calm key.session s none) (carried_out-calm op key s)

pub close-calm : (x : ℕ) (s : QueueState) → serve_turn (forgotten x (serve (released x s)).state) ≡ None
close-calm x s =
    let o = serve (released x s) in
    calm o.state (forgotten x o.state) (serve-done (released x s))
    (record { jobs = λ j i t. i; sessions = λ w i t. without-in x o.state.sessions w i; pauses = λ tube p. p })

settled-calm : (tubes : List (List ℕ)) (s : QueueState) → serve_turn s ≡ None → serve_turn (settled tubes s) ≡ None
settled-calm tubes s none = calm s (settled tubes s) none (record { jobs = λ j i t. i; sessions = λ w i t. i; pauses = λ tube p. p })

pub tick-calm : (second : ℕ) (s : QueueState) → serve_turn s ≡ None → serve_turn (tick_effect second s).state ≡ None
unfolding tick_effect
tick-calm second s none =
    outcome_if (nat_lt s.now second) _ _
    (settled-calm (tubes_over second s.pauses) _ (timeouts-calm _ (deadlines-calm _ (serve-done (second_begun second s))))) none

pub fresh-calm : serve_turn fresh ≡ None
unfolding serve_turn
fresh-calm = refl
