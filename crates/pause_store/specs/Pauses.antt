-- Until which second tubes are paused.
use Rattle.std.specs.Prelude.{◌≡◌, ℕ, ◌+◌, ◌^◌, ◌<◌, ◌≤◌, Bool, not, List, [], ◌==◌, nat_lt, bytes_eq, unwrap_or, if◌then◌else◌}
use Rattle.std.specs.declared.cmp.Ordering.{Ordering}
use Rattle.std.specs.Ordering.{nat_cmp, ordering_then}
use Rattle.std.specs.List.{filter}
use Rattle.std.specs.Map.{keys_of, lookup}
use Rattle.std.specs.BTreeMap.{insert_entry, is_at}
use Rattle.object.specs.Lists.{In}
use Rattle.job_store.specs.LookUps.{is_among}
use Rattle.bean_words.specs.Names.{name_cmp}
use Rattle.session_store.specs.Drafts.{Draft}
use Rattle.pause_store.specs.declared.pause.Pause.{Pause}

-- the second that it is, and for each paused tube the later second at which its pause is over, by the order of names
pub record PauseState : Type 0 where
  pub second : ℕ
  pub pauses : List (List ℕ × ℕ)

-- whether the tube is paused
abbrev pub is_paused : List ℕ → List (List ℕ × ℕ) → Bool
is_paused tube pauses = is_among tube (keys_of pauses)

-- the second at which the pause of the tube is over, and 0 where it isn't paused
abbrev pub pause_end : List ℕ → List (List ℕ × ℕ) → ℕ
pause_end tube pauses = unwrap_or (lookup (is_at (name_cmp tube)) pauses) 0

-- those of the pauses that are not over at this second
abbrev pub left_at : ℕ → List (List ℕ × ℕ) → List (List ℕ × ℕ)
left_at second pauses = filter (λ p. nat_lt second p.1) pauses

-- the pauses of the other tubes
abbrev pub unpaused : List ℕ → List (List ℕ × ℕ) → List (List ℕ × ℕ)
unpaused tube pauses = filter (λ p. not (bytes_eq tube p.0)) pauses

-- the pauses, with this second for the tube
abbrev pub paused_until : List ℕ → ℕ → List (List ℕ × ℕ) → List (List ℕ × ℕ)
paused_until tube second pauses = insert_entry name_cmp pauses tube second

-- the tube is paused for so many seconds from now on, or no longer where they are none (protocol.txt of beanstalkd,
-- "pause-tube")
abbrev pub paused_for : List ℕ → ℕ → PauseState → PauseState
paused_for tube seconds s = record s {
  pauses = if seconds == 0 then unpaused tube s.pauses else paused_until tube (s.second + seconds) s.pauses;
}

-- it is this second: the pauses that are over by it are gone
abbrev pub at_second : ℕ → PauseState → PauseState
at_second second s = record { second = second; pauses = left_at second s.pauses }

-- the tubes whose pauses are over at this second
abbrev pub tubes_over : ℕ → List (List ℕ × ℕ) → List (List ℕ)
tubes_over second pauses = keys_of (filter (λ p. not (nat_lt second p.1)) pauses)

-- no tube is paused
abbrev pub none_paused : PauseState
none_paused = record { second = 0; pauses = [] }

-- what a map of seconds says at this second
abbrev pub pauses_at : ℕ → List (List ℕ × ℕ) → PauseState
pauses_at second es = record { second = second; pauses = left_at second es }

-- of what was there, some that is over at this second has gone, and nothing else
pub record DropsOver (second : ℕ) (old new : List (List ℕ × ℕ)) : Type 0 where
  pub left : left_at second new ≡ left_at second old
  pub fewer : (p : List ℕ × ℕ) → In p new → In p old

-- ends go by their second, and then by the tube's name
abbrev pub pause_cmp : Pause → Pause → Ordering
pause_cmp p q = ordering_then (nat_cmp p.until q.until) (name_cmp p.tube q.tube)

-- each pause that is not over at this second has its place among the ends
abbrev pub HasEnds : ℕ → List Pause → List (List ℕ × ℕ) → Type 0
HasEnds second ends es = (p : List ℕ × ℕ) → In p es → second < p.1 → In (record { until = p.1; tube = p.0 }) ends

-- what a draft of pauses keeps: it goes back in time only to what was kept, and its ends are complete, now and before
pub record IsComplete (kept second : ℕ) (ends : List Pause) (seconds : Draft (List (List ℕ × ℕ))) : Type 0 where
  pub later : kept ≤ second
  pub in_range : second ≤ 2 ^ 40
  pub now : HasEnds kept ends seconds.now
  pub before : HasEnds kept ends seconds.before
