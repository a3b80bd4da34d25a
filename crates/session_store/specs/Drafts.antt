-- Changes that may be taken back.
use Rattle.std.specs.Prelude.{◌≡◌, ℕ, ◌^◌, List, Result, [], ◌∷◌, IsSome, OnOk, OnErr}
use Rattle.job_store.specs.Entries.{Rising, value_at, altered, without}
use Rattle.session_store.specs.declared.session.SessionState.{SessionState}
use Rattle.session_store.specs.declared.session_step.SessionStep.{SessionStep}
use Rattle.session_store.specs.declared.lines.Lines.{Lines}
use Rattle.session_store.specs.Sessions.{with_wait, with_role}
use Rattle.session_store.specs.Lines.{StandsIn, EachStands, AllStand}

-- something as it is by now, and as it was when it was kept last
pub record Draft (X : Type 0) : Type 0 where
  pub now : X
  pub before : X

-- this is so now, or where memory was refused what was so; what was kept stays
pub record DraftsState {X T E : Type 0} (old new : Draft X) (state : X) (result : Result T E) : Type 0 where
  pub now : OnOk result (new.now ≡ state)
  pub err : OnErr result (new.now ≡ old.now)
  pub before : new.before ≡ old.before

-- this is so now, and kept
pub record IsKept {X : Type 0} (draft : Draft X) (state : X) : Type 0 where
  pub now : draft.now ≡ state
  pub before : draft.before ≡ state

-- what is so now is kept
abbrev pub KeepsDraft : {X : Type 0} → Draft X → Draft X → Type 0
KeepsDraft old new = IsKept new old.now

-- what was kept is so now
abbrev pub TakesDraftBack : {X : Type 0} → Draft X → Draft X → Type 0
TakesDraftBack old new = IsKept new old.before

-- the sessions, where a step is taken back
abbrev pub session_step_back : SessionStep → List (ℕ × SessionState) → List (ℕ × SessionState)
session_step_back (SessionStep.Waited x before after) sessions = altered x (with_wait before) sessions
session_step_back (SessionStep.Played x before) sessions = altered x (with_role before) sessions
session_step_back (SessionStep.Made x) sessions = without x sessions

-- the sessions, where all these steps are taken back, the last one first
abbrev pub sessions_before : List SessionStep → List (ℕ × SessionState) → List (ℕ × SessionState)
sessions_before [] sessions = sessions
sessions_before (step ∷ steps) sessions = session_step_back step (sessions_before steps sessions)

-- the numbers rise, and session x is there
pub record IsThere (x : ℕ) (sessions : List (ℕ × SessionState)) : Type 0 where
  pub rising : Rising 0 (2 ^ 32) sessions
  pub there : IsSome (value_at x sessions)

-- the sessions stand in the lines where they wait, now and before the steps
pub record AreInLines (lines : Lines) (steps : List SessionStep) (sessions : List (ℕ × SessionState)) : Type 0 where
  pub now : AllStand (StandsIn lines) sessions
  pub before : EachStands (StandsIn lines) (sessions_before steps sessions)
