-- What a command does is the same but for histories, whatever they were.
use Rattle.std.proofs.Common.{◌≡◌, ℕ, ◌+◌, Bool, true, false, cond, ◌++◌, nat_lt, refl, sym, ap, ap₂, subst, ◌∙◌}
use Rattle.object.specs.declared.command.Act.{Act}
use Rattle.object.specs.declared.command.Command.{Command}
use Rattle.object.specs.declared.command.Key.{Key}
use Rattle.job_store.specs.declared.job.Job.{Job}
use Rattle.job_store.specs.declared.state.State.{State}
use Rattle.job_store.specs.Entries.{without}
use Rattle.job_store.specs.States.{is_due, is_held, with_state, over_job}
use Rattle.session_store.specs.Sessions.{session_of, with_wait_ended, is_waiting}
use Rattle.pause_store.specs.Pauses.{left_at}
use Rattle.bean_words.specs.declared.op.Op.{Op}
use Rattle.bean_words.specs.declared.reply.Reply.{Reply}
use Rattle.bean_queue.specs.Queue.{QueueState, with_sessions}
use Rattle.bean_queue.specs.Forgetful.{without_history, uncounted, without_counts, is_report, asks_for_report}
use Rattle.bean_queue.specs.Rows.{row, stats_job_row, stats_tube_row, stats_row}
use Rattle.bean_queue.specs.Turns.{QueueOutcome, stop, all_turns, serve, deadline_turn, timeout_turn}
use Rattle.bean_queue.specs.Effects.{then_do, own, own_outcome, called, ends_wait, is_zero, turned_away, has_no_number, carried_out, do_effect}
use Rattle.bean_queue.specs.Effects.{change_if, released, close_effect, second_begun, tick_effect, act_effect, effect}
use Rattle.bean_queue.proofs.blind.Jobs.{IsBlind, blanks-twice, each-blind}
use Rattle.bean_queue.proofs.blind.Rows.{row-blind}
use Rattle.bean_queue.proofs.blind.Serving.{SameOutcome, Respects, serve-respects, holds-blind, deadlines-respect, timeouts-respect}

-- what takes no notice of histories respects them
respects-from : (f : QueueState → QueueOutcome) → ((s : QueueState) → SameOutcome (f (without_counts s)) (f s)) → Respects f
respects-from f blind s t e = record {
  answers = sym (blind s).answers ∙ ap (λ u. (f u).answers) e ∙ (blind t).answers;
  state = sym (blind s).state ∙ ap (λ u. without_counts (f u).state) e ∙ (blind t).state;
}

then-respects : (f g : QueueState → QueueOutcome) → Respects f → Respects g → Respects (λ s. then_do (f s) g)
then-respects f g first next s t e =
    let a = first s t e in
    let b = next (f s).state (f t).state a.state in
    record { answers = ap₂ (λ xs ys. xs ++ ys) a.answers b.answers; state = b.state }

outcome_if : (b c : Bool) (o p q r : QueueOutcome) → b ≡ c → SameOutcome o q → SameOutcome p r → SameOutcome (cond b o p) (cond c q r)
outcome_if b c o p q r e h k =
    subst (λ d. SameOutcome (cond b o p) (cond d q r)) e (elim b as (λ b. SameOutcome (cond b o p) (cond b q r)) [ true ↦ h | false ↦ k ])

-- An operation

called-respects : (op : Op) (key : Key) → Respects (λ s. stop (called op key.session s))
called-respects op key =
    respects-from (λ s. stop (called op key.session s))
    (λ s. record { answers = refl; state = ap (uncounted (called op key.session s)) (blanks-twice s.jobs) })

row-respects : (op : Op) (key : Key) → is_report op ≡ false → Respects (λ s. own_outcome key (row op key s))
row-respects op key plain =
    respects-from (λ s. own_outcome key (row op key s))
    (λ s. let r = row-blind op key s plain in record { answers = ap (own key) r.reply; state = r.state })

own-respects : (op : Op) (key : Key) → is_report op ≡ false → Respects (λ s. own_outcome key (row op key (called op key.session s)))
own-respects op key plain s t e =
    row-respects op key plain (called op key.session s) (called op key.session t) (called-respects op key s t e).state

stop-blind : (s : QueueState) → SameOutcome (stop (without_counts s)) (stop s)
stop-blind s = record { answers = refl; state = ap (uncounted s) (blanks-twice s.jobs) }

ends_wait-blind : (s : QueueState) (key : Key) (reply : Reply) → SameOutcome (ends_wait (without_counts s) key reply) (ends_wait s key reply)
ends_wait-blind s key reply = record {
  answers = refl;
  state = ap (uncounted (with_sessions s (with_wait_ended key.session s.sessions))) (blanks-twice s.jobs);
}

turned_away-blind : (op : Op) (key : Key) (s : QueueState) → SameOutcome (turned_away op key (without_counts s)) (turned_away op key s)
unfolding turned_away
turned_away-blind (Op.Reserve seconds) key s =
    outcome_if (is_waiting (session_of key.session s.sessions)) _ _ _ _ _ refl
    (outcome_if _ _ _ _ _ _ (holds-blind key.session (s.now + 1) s.jobs) (ends_wait-blind s key Reply.DeadlineSoon)
    (outcome_if (is_zero seconds) _ _ _ _ _ refl (ends_wait-blind s key Reply.TimedOut) (stop-blind s)))
    (stop-blind s)
turned_away-blind _ key s = stop-blind s

carried_out-respects : (op : Op) (key : Key) → is_report op ≡ false → Respects (carried_out op key)
unfolding carried_out
carried_out-respects op key plain =
    then-respects (λ s. then_do (own_outcome key (row op key (called op key.session s))) serve) (turned_away op key)
    (then-respects (λ s. own_outcome key (row op key (called op key.session s))) serve (own-respects op key plain) serve-respects)
    (respects-from (turned_away op key) (turned_away-blind op key))

no_number-blind : (op : Op) (s : QueueState) → has_no_number op (without_counts s) ≡ has_no_number op s
no_number-blind (Op.Put pri delay ttr body) s = refl
no_number-blind (Op.Reserve seconds) s = refl
no_number-blind (Op.Bury id pri) s = refl
no_number-blind _ s = refl

do-respects : (op : Op) (key : Key) → is_report op ≡ false → Respects (do_effect op key)
unfolding do_effect
do-respects op key plain s t e =
    outcome_if (has_no_number op s) (has_no_number op t) _ _ _ _
    (sym (no_number-blind op s) ∙ ap (has_no_number op) e ∙ no_number-blind op t)
    (respects-from (λ u. ends_wait u key Reply.InternalError) (λ u. ends_wait-blind u key Reply.InternalError) s t e)
    (carried_out-respects op key plain s t e)

-- after a report, whatever it tells, waiting sessions are served
report-state : (op : Op) (key : Key) (s : QueueState) → is_report op ≡ true → (do_effect op key s).state ≡ (serve (called op key.session s)).state
unfolding do_effect carried_out row stats_job_row stats_tube_row stats_row turned_away
report-state (Op.StatsJob id) key s report = refl
report-state (Op.StatsTube tube) key s report = refl
report-state Op.Stats key s report = refl
report-state _ key s report = cc

report-respects : (op : Op) (key : Key) (s t : QueueState) → is_report op ≡ true → without_counts s ≡ without_counts t
    → without_counts (do_effect op key s).state ≡ without_counts (do_effect op key t).state
report-respects op key s t report e =
    ap without_counts (report-state op key s report) ∙
    (serve-respects (called op key.session s) (called op key.session t) (called-respects op key s t e).state).state ∙
    ap without_counts (sym (report-state op key t report))

-- The end of a session

if-blind : (which : State → Bool) (f : Job → Job) → IsBlind f → IsBlind (change_if which f)
if-blind which f blind job =
    elim (which job.state) as (λ b. without_history (cond b (f (without_history job)) (without_history job)) ≡ without_history (cond b (f job) job)) [
      | true ↦ blind job
      | false ↦ refl
    ]

released-respects : (x : ℕ) → Respects (λ s. stop (released x s))
released-respects x =
    respects-from (λ s. stop (released x s)) (λ s. record {
      answers = refl;
      state = ap (uncounted (with_sessions s (with_wait_ended x s.sessions)))
          (each-blind (change_if (is_held x) (with_state State.Ready)) s.jobs
          (if-blind (is_held x) (with_state State.Ready) (λ job. refl)));
    })

close-respects : (x : ℕ) → Respects (close_effect x)
unfolding close_effect
close-respects x s t e =
    let served = serve-respects (released x s) (released x t) (released-respects x s t e).state in
    record { answers = served.answers; state = ap (λ u. with_sessions u (without x u.sessions)) served.state }

-- A second

second-respects : (second : ℕ) → Respects (λ s. stop (second_begun second s))
second-respects second =
    respects-from (λ s. stop (second_begun second s)) (λ s. record {
      answers = refl;
      state = ap (uncounted (record s { now = second; pauses = left_at second s.pauses }))
          (each-blind (change_if (is_due second) over_job) s.jobs (if-blind (is_due second) over_job (λ job. refl)));
    })

tick-respects : (second : ℕ) → Respects (tick_effect second)
unfolding tick_effect
tick-respects second s t e =
    outcome_if (nat_lt s.now second) (nat_lt t.now second) _ _ _ _ (ap (λ (u : QueueState). nat_lt u.now second) e)
    (let told = then-respects (λ u. then_do (serve u) (all_turns deadline_turn)) (all_turns timeout_turn)
    (then-respects serve (all_turns deadline_turn) serve-respects deadlines-respect)
    timeouts-respect (second_begun second s) (second_begun second t) (second-respects second s t e).state in
    record { answers = told.answers; state = told.state })
    (record { answers = refl; state = e })

pub effect-respects : (c : Command Op) → asks_for_report c.act ≡ false → Respects (effect c)
unfolding effect act_effect
effect-respects c plain =
    elim c.act as (λ act. asks_for_report act ≡ false → Respects (act_effect act c.key)) [
      | Act.Do op ↦ do-respects op c.key
      | Act.Close ↦ λ plain. close-respects c.key.session
      | Act.Tick ↦ λ plain. tick-respects c.key.number
    ] plain

-- the state after a command is the same but for what is counted, also where it asks for that
pub effect-state : (c : Command Op) (s t : QueueState) → without_counts s ≡ without_counts t
    → without_counts (effect c s).state ≡ without_counts (effect c t).state
unfolding effect act_effect
effect-state c s t e =
    elim c.act as (λ act. without_counts (act_effect act c.key s).state ≡ without_counts (act_effect act c.key t).state) [
      | Act.Do op ↦
          elim (is_report op) as (λ b. is_report op ≡ b → without_counts (do_effect op c.key s).state ≡ without_counts (do_effect op c.key t).state) [
            | true ↦ λ report. report-respects op c.key s t report e
            | false ↦ λ plain. (do-respects op c.key plain s t e).state
          ] refl
      | Act.Close ↦ (close-respects c.key.session s t e).state
      | Act.Tick ↦ (tick-respects c.key.number s t e).state
    ]
