-- What waiting sessions get is the same, whatever has happened to the jobs.
use Rattle.std.proofs.Common.{◌≡◌, ℕ, zero, suc, ◌+◌, Bool, true, false, cond, ◌&&◌, List, [], ◌∷◌, Option, Some, None, option_map}
use Rattle.std.proofs.Common.{filter_map, length, nat_le, refl, sym, ap, ap₂, subst, ◌∙◌}
use Rattle.std.specs.List.{cons_option}
use Rattle.job_store.specs.declared.job.Job.{Job}
use Rattle.job_store.specs.Least.{lesser, least}
use Rattle.job_store.specs.LookUps.{is_among, ready_in, best_ready, not_paused, pri_of_job}
use Rattle.job_store.specs.States.{is_held, due_of, reserved_job}
use Rattle.session_store.specs.declared.session.SessionState.{SessionState}
use Rattle.session_store.specs.Sessions.{first_waiting, with_wait_ended, is_waiting, wait_rank, has_timed_out}
use Rattle.bean_words.specs.declared.reply.Reply.{Reply}
use Rattle.bean_queue.specs.Queue.{QueueState, holds_by, paused_tubes}
use Rattle.bean_queue.specs.Forgetful.{uncounted, without_counts}
use Rattle.bean_queue.specs.Turns.{QueueOutcome, QueueTurn, turns, all_turns, after_option, wanted, next_job, answer_to, given, give, give_to}
use Rattle.bean_queue.specs.Turns.{serve_turn, told_turn, tell, deadline_turn, timeout_turn, serve}
use Rattle.bean_queue.proofs.blind.Jobs.{blank, blanks, blanks-twice, altered-blind, least-blind, any-blind}

-- the answers are the same, and the states but for histories
pub record SameOutcome (o p : QueueOutcome) : Type 0 where
  pub answers : o.answers ≡ p.answers
  pub state : without_counts o.state ≡ without_counts p.state

-- of states that are the same but for histories it makes outcomes that are
abbrev pub Respects : (QueueState → QueueOutcome) → Type 0
Respects f = (s t : QueueState) → without_counts s ≡ without_counts t → SameOutcome (f s) (f t)

-- a turn, but for histories
abbrev seen : QueueTurn → QueueTurn
seen t = record { state = without_counts t.state; answer = t.answer }

-- the turn that there may be doesn't depend on histories
abbrev IsBlindTurn : (QueueState → Option QueueTurn) → Type 0
IsBlindTurn turn = (s : QueueState) → option_map seen (turn (without_counts s)) ≡ option_map seen (turn s)

after-respects : (next : QueueState → QueueOutcome) (s t : QueueState) (o p : Option QueueTurn) → Respects next
    → without_counts s ≡ without_counts t → option_map seen o ≡ option_map seen p
    → SameOutcome (after_option next s o) (after_option next t p)
after-respects next s t None None respects e same = record { answers = refl; state = e }
after-respects next s t None (Some u) respects e same = cc
after-respects next s t (Some u) None respects e same = cc
after-respects next s t (Some u) (Some v) respects e same =
    let one : seen u ≡ seen v = cc in
    let rest = respects u.state v.state (ap (λ (w : QueueTurn). w.state) one) in
    record { answers = ap₂ (λ a more. a ∷ more) (ap (λ (w : QueueTurn). w.answer) one) rest.answers; state = rest.state }

turns-respect : (turn : QueueState → Option QueueTurn) → IsBlindTurn turn → (n : ℕ) → Respects (turns turn n)
unfolding turns
turns-respect turn blind zero s t e = record { answers = refl; state = e }
turns-respect turn blind (suc n) s t e =
    after-respects (turns turn n) s t (turn s) (turn t) (turns-respect turn blind n) e
    (sym (blind s) ∙ ap (λ u. option_map seen (turn u)) e ∙ blind t)

all_turns-respect : (turn : QueueState → Option QueueTurn) → IsBlindTurn turn → Respects (all_turns turn)
unfolding all_turns
all_turns-respect turn blind s t e =
    subst (λ n. SameOutcome (turns turn (length s.sessions) s) (turns turn n t)) (ap (λ (u : QueueState). length u.sessions) e)
    (turns-respect turn blind (length s.sessions) s t e)

-- A job is given

wanted-blind : (paused : List (List ℕ)) (jobs : List (ℕ × Job)) (e : ℕ × SessionState) → wanted paused (blanks jobs) e ≡ option_map blank (wanted paused jobs e)
wanted-blind paused jobs e =
    elim (is_waiting e.1) as (λ b. cond b (best_ready (not_paused paused e.1.watched) (blanks jobs)) None
    ≡ option_map blank (cond b (best_ready (not_paused paused e.1.watched) jobs) None)) [
      | true ↦ least-blind (ready_in (not_paused paused e.1.watched)) pri_of_job jobs (λ e. refl) (λ job. refl)
      | false ↦ refl
    ]

cons-blind : (o : Option (ℕ × Job)) (jobs : List (ℕ × Job)) → cons_option (option_map blank o) (blanks jobs) ≡ blanks (cons_option o jobs)
cons-blind None jobs = refl
cons-blind (Some j) jobs = refl

all_wanted-blind : (paused : List (List ℕ)) (jobs : List (ℕ × Job)) (sessions : List (ℕ × SessionState))
    → filter_map (wanted paused (blanks jobs)) sessions ≡ blanks (filter_map (wanted paused jobs) sessions)
all_wanted-blind paused jobs [] = refl
all_wanted-blind paused jobs (e ∷ es) =
    ap₂ cons_option (wanted-blind paused jobs e) (all_wanted-blind paused jobs es) ∙
    cons-blind (wanted paused jobs e) (filter_map (wanted paused jobs) es)

next_job-blind : (s : QueueState) → next_job (without_counts s) ≡ option_map blank (next_job s)
next_job-blind s =
    ap (least (λ e. true) pri_of_job) (all_wanted-blind (paused_tubes s) s.jobs s.sessions) ∙
    least-blind (λ e. true) pri_of_job (filter_map (wanted (paused_tubes s) s.jobs) s.sessions) (λ e. refl) (λ job. refl)

given-blind : (s : QueueState) (j : ℕ × Job) (w : ℕ × SessionState) → seen (given (without_counts s) (blank j) w) ≡ seen (given s j w)
unfolding given
given-blind s j w =
    ap (λ jobs. let t : QueueTurn = record {
      state = uncounted (record s { sessions = with_wait_ended w.0 s.sessions }) jobs;
      answer = answer_to w (Reply.Reserved j.0 j.1.body);
    } in t)
    (altered-blind j.0 (reserved_job w.0 (s.now + j.1.ttr)) s.jobs (λ job. refl))

give-blind : (s : QueueState) (o : Option (ℕ × Job)) → option_map seen (give (without_counts s) (option_map blank o)) ≡ option_map seen (give s o)
give-blind s None = refl
give-blind s (Some j) =
    elim (first_waiting (λ e. is_among j.1.tube e.1.watched) s.sessions) as (λ w. option_map seen (give_to (without_counts s) (blank j) w) ≡
    option_map seen (give_to s j w)) [
      | None ↦ refl
      | Some w ↦ ap Some (given-blind s j w)
    ]

serve_turn-blind : IsBlindTurn serve_turn
unfolding serve_turn
serve_turn-blind s = ap (λ o. option_map seen (give (without_counts s) o)) (next_job-blind s) ∙ give-blind s (next_job s)

pub serve-respects : Respects serve
unfolding serve
serve-respects = all_turns-respect serve_turn serve_turn-blind

-- A session is told

told-blind : (s : QueueState) (reply : Reply) (w : ℕ × SessionState) → seen (told_turn (without_counts s) reply w) ≡ seen (told_turn s reply w)
unfolding told_turn
told-blind s reply w =
    ap (λ jobs. let t : QueueTurn = record {
      state = uncounted (record s { sessions = with_wait_ended w.0 s.sessions }) jobs;
      answer = answer_to w reply;
    } in t)
    (blanks-twice s.jobs)

tell-blind : (s : QueueState) (reply : Reply) (o : Option (ℕ × SessionState)) → option_map seen (tell (without_counts s) reply o) ≡
    option_map seen (tell s reply o)
tell-blind s reply None = refl
tell-blind s reply (Some w) = ap Some (told-blind s reply w)

pub holds-blind : (x second : ℕ) (jobs : List (ℕ × Job)) → holds_by x second (blanks jobs) ≡ holds_by x second jobs
holds-blind x second jobs = any-blind (λ e. is_held x e.1.state && nat_le (due_of e.1.state) second) jobs (λ e. refl)

-- tests that say the same find the same
first_waiting-alike : (test other : ℕ × SessionState → Bool) (sessions : List (ℕ × SessionState)) → ((e : ℕ × SessionState) → test e ≡ other e)
    → first_waiting test sessions ≡ first_waiting other sessions
first_waiting-alike test other [] same = refl
first_waiting-alike test other (e ∷ es) same =
    ap₂ (λ b o. cond (is_waiting e.1 && b) (Some (lesser wait_rank e o)) o) (same e) (first_waiting-alike test other es same)

pub deadline_turn-blind : IsBlindTurn deadline_turn
unfolding deadline_turn
deadline_turn-blind s =
    ap (λ o. option_map seen (tell (without_counts s) Reply.DeadlineSoon o))
    (first_waiting-alike (λ e. holds_by e.0 (s.now + 1) (blanks s.jobs)) (λ e. holds_by e.0 (s.now + 1) s.jobs) s.sessions
    (λ e. holds-blind e.0 (s.now + 1) s.jobs)) ∙
    tell-blind s Reply.DeadlineSoon (first_waiting (λ e. holds_by e.0 (s.now + 1) s.jobs) s.sessions)

pub timeout_turn-blind : IsBlindTurn timeout_turn
unfolding timeout_turn
timeout_turn-blind s = tell-blind s Reply.TimedOut (first_waiting (λ e. has_timed_out s.now e.1.wait) s.sessions)

pub deadlines-respect : Respects (all_turns deadline_turn)
deadlines-respect = all_turns-respect deadline_turn deadline_turn-blind

pub timeouts-respect : Respects (all_turns timeout_turn)
timeouts-respect = all_turns-respect timeout_turn timeout_turn-blind
