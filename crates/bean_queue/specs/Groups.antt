-- Which sessions are counted (protocol.txt of beanstalkd, "stats-tube": current-using and its kin; "stats":
-- current-producers and its kin).
use Rattle.std.specs.Prelude.{ℕ, Bool, ◌&&◌, List, filter, length, bytes_eq}
use Rattle.job_store.specs.LookUps.{is_among}
use Rattle.session_store.specs.declared.session.SessionState.{SessionState}
use Rattle.session_store.specs.Sessions.{is_waiting}
use Rattle.bean_queue.specs.declared.group.Group.{Group}

-- the session is one of them
abbrev pub is_of_group : Group → SessionState → Bool
is_of_group (Group.Using tube) c = bytes_eq tube.now c.used
is_of_group (Group.Watching tube) c = is_among tube.now c.watched
is_of_group (Group.WaitingFor tube) c = is_waiting c && is_among tube.now c.watched
is_of_group Group.Waiting c = is_waiting c
is_of_group Group.Producers c = c.role.has_put
is_of_group Group.Workers c = c.role.has_reserved

-- how many sessions pass
abbrev pub sessions_that : (SessionState → Bool) → List (ℕ × SessionState) → ℕ
sessions_that test sessions = length (filter (λ e. test e.1) sessions)

-- how many of them there are
abbrev pub count_in : Group → List (ℕ × SessionState) → ℕ
count_in group sessions = sessions_that (is_of_group group) sessions
