-- Sessions: the tubes that they use and watch, who waits, and who has put or reserved.
use Rattle.std.specs.Prelude.{ℕ, Bool, false, ◌&&◌, List, [], ◌∷◌, Option, None, Some, nat_le, is_some, unwrap_or, codes, if◌then◌else◌}
use Rattle.job_store.specs.Entries.{value_at, with_value, altered}
use Rattle.job_store.specs.Least.{least}
use Rattle.session_store.specs.declared.session.Role.{Role}
use Rattle.session_store.specs.declared.session.SessionState.{SessionState}
use Rattle.session_store.specs.declared.session.Wait.{Wait}

-- the role of a session that has put no job, and asked for none (protocol.txt of beanstalkd, "stats": current-producers,
-- current-workers)
abbrev pub no_role : Role
no_role = record { has_put = false; has_reserved = false }

-- a new session uses `default`, watches it alone, and has neither put nor reserved (protocol.txt of beanstalkd, "use"
-- and "watch")
abbrev pub new_session : SessionState
new_session = record { used = codes "default"; watched = codes "default" ∷ []; wait = None; role = no_role }

-- session x, as it is or as it would be made
abbrev pub session_of : ℕ → List (ℕ × SessionState) → SessionState
session_of x sessions = unwrap_or (value_at x sessions) new_session

-- the session, with this wait or none
abbrev pub with_wait : Option Wait → SessionState → SessionState
with_wait wait session = record session { wait = wait }

-- the session, with this role
abbrev pub with_role : Role → SessionState → SessionState
with_role role session = record session { role = role }

-- session x waits no longer
abbrev pub with_wait_ended : ℕ → List (ℕ × SessionState) → List (ℕ × SessionState)
with_wait_ended x sessions = altered x (with_wait None) sessions

-- session x is there, and waits no longer
abbrev pub known : ℕ → List (ℕ × SessionState) → List (ℕ × SessionState)
known x sessions = if is_some (value_at x sessions) then with_wait_ended x sessions else with_value x new_session sessions

-- the session waits for a job
abbrev pub is_waiting : SessionState → Bool
is_waiting session = is_some session.wait

-- the number of the command that waits, and 0 where none does
abbrev pub wait_number : Option Wait → ℕ
wait_number None = 0
wait_number (Some wait) = wait.number

-- the rank of a session that waits, and 0 of others
abbrev pub wait_rank : SessionState → ℕ
wait_rank session = elim session.wait [ None ↦ 0 | Some wait ↦ wait.rank ]

-- of the waiting sessions that pass, that of the least rank
abbrev pub first_waiting : (ℕ × SessionState → Bool) → List (ℕ × SessionState) → Option (ℕ × SessionState)
first_waiting test sessions = least (λ e. is_waiting e.1 && test e) wait_rank sessions

-- at this second the wait is over (protocol.txt of beanstalkd, "reserve-with-timeout")
abbrev pub has_timed_out : ℕ → Option Wait → Bool
has_timed_out second None = false
has_timed_out second (Some wait) = elim wait.time_out [ None ↦ false | Some time_out ↦ nat_le time_out second ]
