-- The lines in which waiting sessions stand.
use Rattle.std.specs.Prelude.{◌≡◌, ◌^◌, ℕ, Bool, true, ◌&&◌, List, Option, None, Some, option_map, IfSome, ◌==◌, if◌then◌else◌}
use Rattle.std.specs.declared.cmp.Ordering.{Ordering}
use Rattle.std.specs.Ordering.{nat_cmp, ordering_then}
use Rattle.std.specs.declared.ops.Bound.TheVariants.{Included, Unbounded}
use Rattle.std.specs.BTreeSet.{BTreeSet, contains, keys_between}
use Rattle.object.specs.Lists.{In}
use Rattle.job_store.specs.Entries.{Rising, value_at}
use Rattle.job_store.specs.LookUps.{is_among}
use Rattle.session_store.specs.declared.session.SessionState.{SessionState}
use Rattle.session_store.specs.declared.session.Wait.{Wait}
use Rattle.session_store.specs.declared.place.LinePlace.{LinePlace}
use Rattle.session_store.specs.declared.time_outs.TimeOuts.{TimeOuts}
use Rattle.session_store.specs.declared.tube_lines.TubeLines.{TubeLines}
use Rattle.session_store.specs.declared.lines.Lines.{Lines}
use Rattle.session_store.specs.Sessions.{is_waiting, wait_rank, has_timed_out}
use Rattle.session_store.specs.TubeSets.{tube_set}
use Rattle.session_store.specs.Rolls.{IsEnrolled, HaveAll}

-- places go by their number, and then by the session's
abbrev pub line_cmp : LinePlace → LinePlace → Ordering
line_cmp p q = ordering_then (nat_cmp p.order q.order) (nat_cmp p.session q.session)

-- the place is in the line
abbrev pub IsIn : BTreeSet LinePlace → LinePlace → Type 0
IsIn line place = contains line_cmp line place ≡ true

-- session x, at this number
abbrev pub place : ℕ → ℕ → LinePlace
place order x = record { order = order; session = x }

-- the places in the line up to this second
abbrev pub places_by : ℕ → BTreeSet LinePlace → List LinePlace
places_by second line = keys_between line_cmp Unbounded (Included (place second 4294967295)) line

-- the places in the line from this one on
abbrev pub line_from : LinePlace → BTreeSet LinePlace → List LinePlace
line_from p line = keys_between line_cmp (Included p) Unbounded line

-- the place of a wait among those that end
abbrev pub time_out_place : ℕ → Option Wait → Option LinePlace
time_out_place x None = None
time_out_place x (Some wait) = option_map (λ second. place second x) wait.time_out

-- the place of a wait in the line of a tube
abbrev pub rank_place : ℕ → Option Wait → Option LinePlace
rank_place x wait = option_map (λ w. place w.rank x) wait

-- the line of a tube, in which nobody stands where there is none
abbrev pub tube_line : List ℕ → TubeLines → BTreeSet LinePlace
tube_line tube tubes = tube_set tube tubes.lines

-- the session stands among the time-outs, if it waits and its wait ends
abbrev pub StandsByTimeOut : TimeOuts → ℕ × SessionState → Type 0
StandsByTimeOut time_outs e = IfSome (time_out_place e.0 e.1.wait) (IsIn time_outs.line)

-- the session stands in the line of each tube that it watches, if it waits
abbrev pub StandsByTubes : TubeLines → ℕ × SessionState → Type 0
StandsByTubes tubes e = (tube : List ℕ) → is_among tube e.1.watched ≡ true → IfSome (rank_place e.0 e.1.wait) (IsIn (tube_line tube tubes))

-- the session stands in the lines wherever it waits, and on the rolls
abbrev pub StandsIn : Lines → ℕ × SessionState → Type 0
StandsIn lines e = StandsByTimeOut lines.time_outs e × StandsByTubes lines.tubes e × IsEnrolled lines.rolls e

-- each session stands so
abbrev pub EachStands : (ℕ × SessionState → Type 0) → List (ℕ × SessionState) → Type 0
EachStands stands sessions = (e : ℕ × SessionState) → In e sessions → stands e

-- the numbers rise, and each session stands so
pub record AllStand (stands : ℕ × SessionState → Type 0) (sessions : List (ℕ × SessionState)) : Type 0 where
  pub rising : Rising 0 (2 ^ 32) sessions
  pub each : EachStands stands sessions

-- where all stood so before, all stand so after
abbrev pub StillStand : (before after : ℕ × SessionState → Type 0) → List (ℕ × SessionState) → Type 0
StillStand before after sessions = AllStand before sessions → AllStand after sessions

-- the other line has all places of the one
abbrev pub HasAll : BTreeSet LinePlace → BTreeSet LinePlace → Type 0
HasAll line line' = (p : LinePlace) → IsIn line p → IsIn line' p

-- each line and each roll has all that it had
abbrev pub HasGrown : Lines → Lines → Type 0
HasGrown lines lines' =
    HasAll lines.time_outs.line lines'.time_outs.line ×
    ((tube : List ℕ) → HasAll (tube_line tube lines.tubes) (tube_line tube lines'.tubes)) ×
    HaveAll lines.rolls lines'.rolls

-- the session at a place, if its wait is over by the second
abbrev pub over_at : ℕ → List (ℕ × SessionState) → LinePlace → Option (ℕ × SessionState)
over_at second sessions p =
    elim (value_at p.session sessions) [ None ↦ None | Some s ↦ if has_timed_out second s.wait then Some (p.session, s) else None ]

-- the session at a place, if it passes the test and its wait has the place's rank
abbrev pub stander_at : (ℕ × SessionState → Bool) → List (ℕ × SessionState) → LinePlace → Option (ℕ × SessionState)
stander_at test sessions p =
    elim (value_at p.session sessions) [
      | None ↦ None
      | Some s ↦ if test (p.session, s) && wait_rank s == p.order then Some (p.session, s) else None
    ]

-- the session waits for a job of the tube, among others
abbrev pub wants_from : List ℕ → ℕ × SessionState → Bool
wants_from tube e = is_waiting e.1 && is_among tube e.1.watched

-- the session at a place, if it waits there for a job of the tube
abbrev pub waiter_at : List ℕ → List (ℕ × SessionState) → LinePlace → Option (ℕ × SessionState)
waiter_at tube sessions p = stander_at (wants_from tube) sessions p
