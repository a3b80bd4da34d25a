-- Sessions that are taken back are as they were before.
use Rattle.std.proofs.Common.{◌≡◌, ℕ, ◌<◌, List, [], ◌∷◌, ◌++◌, Option, Some, None, refl, sym, ap, ap₂, subst, ◌∙◌}
use Rattle.std.proofs.Common.{arith, ◌==◌, cond, true, false, suc, ◌≤◌, ◌-◌, length, take, is_some}
use Rattle.std.proofs.lemmas.Bool.{cond-true}
use Rattle.std.proofs.Math.ListN.{get_or}
use Rattle.std.proofs.Math.Seq.{take-suc}
use Rattle.job_store.specs.Entries.{Rising, value_at, with_value, altered, without}
use Rattle.job_store.specs.EntryLaws.{altered-alike, altered-back, without-insert, Rising-altered, Rising-without}
use Rattle.session_store.specs.declared.session.Role.{Role}
use Rattle.session_store.specs.declared.session.SessionState.{SessionState}
use Rattle.session_store.specs.declared.session.Wait.{Wait}
use Rattle.session_store.specs.declared.session_step.SessionStep.{SessionStep}
use Rattle.session_store.specs.declared.lines.Lines.{Lines}
use Rattle.session_store.specs.Sessions.{new_session, known, with_wait, with_wait_ended, with_role}
use Rattle.session_store.specs.Lines.{StandsIn, EachStands, AllStand, HasGrown}
use Rattle.session_store.specs.Drafts.{session_step_back, sessions_before, AreInLines}
use Rattle.session_store.proofs.Standing.{each-grown, all-grown}

sessions_before-push : (steps : List SessionStep) (step : SessionStep) (sessions : List (ℕ × SessionState))
    → sessions_before (steps ++ step ∷ []) sessions ≡ sessions_before steps (session_step_back step sessions)
sessions_before-push [] step sessions = refl
sessions_before-push (s ∷ steps) step sessions = ap (session_step_back s) (sessions_before-push steps step sessions)

-- one step more
pub before-step : (steps steps' steps'' : List SessionStep) (step : SessionStep)
    (sessions sessions' before : List (ℕ × SessionState)) → sessions_before steps sessions ≡ before → steps' ≡ steps
    → steps'' ≡ steps' ++ step ∷ [] → session_step_back step sessions' ≡ sessions
    → sessions_before steps'' sessions' ≡ before
before-step steps steps' steps'' step sessions sessions' before was same more back =
    ap (λ zs. sessions_before zs sessions') more ∙ sessions_before-push steps' step sessions' ∙ ap₂ (λ zs es. sessions_before zs es) same back ∙ was

-- one step less
pub before-less : (steps steps' : List SessionStep) (step : SessionStep)
    (sessions sessions' before : List (ℕ × SessionState)) → steps ≡ steps' ++ step ∷ []
    → sessions_before steps sessions ≡ before → sessions' ≡ session_step_back step sessions
    → sessions_before steps' sessions' ≡ before
before-less steps steps' step sessions sessions' before less was e =
    ap (sessions_before steps') e ∙ sym (sessions_before-push steps' step sessions) ∙ sym (ap (λ zs. sessions_before zs sessions) less) ∙ was

-- one step less of some
pub steps-less : (steps : List SessionStep) (left : ℕ) (d : SessionStep)
    (sessions sessions' before : List (ℕ × SessionState)) → 0 < left → left ≤ length steps
    → sessions_before (take left steps) sessions ≡ before
    → sessions' ≡ session_step_back (get_or steps (left - 1) d) sessions
    → sessions_before (take (left - 1) steps) sessions' ≡ before
steps-less steps left d sessions sessions' before some most was e =
    let next : suc (left - 1) ≡ left = omega arith in
    before-less (take left steps) (take (left - 1) steps) (get_or steps (left - 1) d) sessions sessions' before
    (ap (λ n. take n steps) (sym next) ∙ take-suc steps (left - 1) d (omega arith)) was e

-- the step after a session was made
pub made-back : (x : ℕ) (v : SessionState) (sessions sessions' : List (ℕ × SessionState)) → value_at x sessions ≡ None
    → sessions' ≡ with_value x v sessions → session_step_back (SessionStep.Made x) sessions' ≡ sessions
made-back x v sessions sessions' absent e = ap (without x) e ∙ without-insert x v sessions absent

-- the step after a session's wait was set
pub waited-back : (x lo hi : ℕ) (wait : Option Wait) (v : SessionState) (sessions sessions' : List (ℕ × SessionState))
    → Rising lo hi sessions → value_at x sessions ≡ Some v → sessions' ≡ altered x (with_wait wait) sessions
    → session_step_back (SessionStep.Waited x v.wait wait) sessions' ≡ sessions
waited-back x lo hi wait v sessions sessions' r there e =
    ap (altered x (with_wait v.wait)) e ∙ altered-back x lo hi (with_wait wait)
    (with_wait v.wait) sessions v r there refl

unaltered : (x : ℕ) (sessions : List (ℕ × SessionState)) → altered x (λ c. c) sessions ≡ sessions
unaltered x [] = refl
unaltered x (e ∷ es) = ap₂ (λ v zs. (e.0, v) ∷ zs) (elim (x == e.0) as (λ b. cond b e.1 e.1 ≡ e.1) [ true ↦ refl | false ↦ refl ]) (unaltered x es)

altered_itself : (x lo hi : ℕ) (f : SessionState → SessionState) (sessions : List (ℕ × SessionState)) (v : SessionState)
    → Rising lo hi sessions → value_at x sessions ≡ Some v → f v ≡ v → altered x f sessions ≡ sessions
altered_itself x lo hi f sessions v r there same = altered-alike x lo hi f (λ c. c) sessions v r there same ∙ unaltered x sessions

-- the step before a session's wait was set
pub waited-still : (x lo hi : ℕ) (wait : Option Wait) (v : SessionState) (sessions : List (ℕ × SessionState))
    → Rising lo hi sessions → value_at x sessions ≡ Some v
    → session_step_back (SessionStep.Waited x v.wait wait) sessions ≡ sessions
waited-still x lo hi wait v sessions r there = altered_itself x lo hi (with_wait v.wait) sessions v r there refl

unwaiting : (v : SessionState) → v.wait ≡ None → with_wait None v ≡ v
unwaiting v none = λ i. record v { wait = sym none i }

-- that a session which doesn't wait waits no longer changes nothing
pub unwaited : (x lo hi : ℕ) (v : SessionState) (sessions : List (ℕ × SessionState)) → Rising lo hi sessions
    → value_at x sessions ≡ Some v → v.wait ≡ None → altered x (with_wait None) sessions ≡ sessions
unwaited x lo hi v sessions r there none = altered_itself x lo hi (with_wait None) sessions v r there (unwaiting v none)

-- such a session is known already
pub known-already : (x lo hi : ℕ) (v : SessionState) (sessions : List (ℕ × SessionState)) → Rising lo hi sessions
    → value_at x sessions ≡ Some v → v.wait ≡ None → sessions ≡ known x sessions
known-already x lo hi v sessions r there none =
    sym (cond-true (is_some (value_at x sessions)) (with_wait_ended x sessions) (with_value x new_session sessions)
    (ap is_some there) ∙ unwaited x lo hi v sessions r there none)

-- the step after a session's role was set
pub played-back : (x lo hi : ℕ) (role : Role) (v : SessionState) (sessions sessions' : List (ℕ × SessionState))
    → Rising lo hi sessions → value_at x sessions ≡ Some v → sessions' ≡ altered x (with_role role) sessions
    → session_step_back (SessionStep.Played x v.role) sessions' ≡ sessions
played-back x lo hi role v sessions sessions' r there e =
    ap (altered x (with_role v.role)) e ∙ altered-back x lo hi (with_role role)
    (with_role v.role) sessions v r there refl

playing : (role : Role) (v : SessionState) → v.role ≡ role → with_role role v ≡ v
playing role v same = λ i. record v { role = sym same i }

-- that a session gets the role that it has changes nothing
pub unplayed : (x lo hi : ℕ) (role : Role) (v : SessionState) (sessions : List (ℕ × SessionState)) → Rising lo hi sessions
    → value_at x sessions ≡ Some v → v.role ≡ role → altered x (with_role role) sessions ≡ sessions
unplayed x lo hi role v sessions r there same = altered_itself x lo hi (with_role role) sessions v r there (playing role v same)

-- the sessions in the lines, where nothing can be taken back
pub kept : (lines : Lines) (steps : List SessionStep) (sessions : List (ℕ × SessionState)) → steps ≡ []
    → AllStand (StandsIn lines) sessions → AreInLines lines steps sessions
kept lines steps sessions none all = record {
  now = all;
  before = subst (λ zs. EachStands (StandsIn lines) (sessions_before zs sessions)) (sym none) all.each;
}

-- and where they are taken back to what they were
pub stepped : (lines lines' : Lines) (steps steps' : List SessionStep) (sessions sessions' : List (ℕ × SessionState))
    → HasGrown lines lines' → sessions_before steps' sessions' ≡ sessions_before steps sessions
    → AllStand (StandsIn lines') sessions' → AreInLines lines steps sessions → AreInLines lines' steps' sessions'
stepped lines lines' steps steps' sessions sessions' grown same all h = record {
  now = all;
  before = subst (EachStands (StandsIn lines')) (sym same) (each-grown lines lines' (sessions_before steps sessions) grown h.before);
}

-- and where the lines alone have grown
pub grown : (lines lines' : Lines) (steps steps' : List SessionStep) (sessions : List (ℕ × SessionState)) → HasGrown lines lines'
    → steps' ≡ steps → AreInLines lines steps sessions → AreInLines lines' steps' sessions
grown lines lines' steps steps' sessions more same h =
    stepped lines lines' steps steps' sessions sessions more (ap (λ zs. sessions_before zs sessions) same)
    (all-grown lines lines' sessions more h.now) h

change-rises : (x hi : ℕ) (f : SessionState → SessionState) (sessions sessions' : List (ℕ × SessionState))
    → Rising 0 hi sessions → sessions' ≡ altered x f sessions → Rising 0 hi sessions'
change-rises x hi f sessions sessions' r e = subst (λ es. Rising 0 hi es) (sym e) (Rising-altered x f 0 hi sessions r)

removal-rises : (x hi : ℕ) (sessions sessions' : List (ℕ × SessionState)) → Rising 0 hi sessions → sessions' ≡ without x sessions → Rising 0 hi sessions'
removal-rises x hi sessions sessions' r e = subst (λ es. Rising 0 hi es) (sym e) (Rising-without x 0 hi sessions r)

pub step_back-rises : (hi : ℕ) (step : SessionStep) (sessions sessions' : List (ℕ × SessionState))
    → Rising 0 hi sessions → sessions' ≡ session_step_back step sessions → Rising 0 hi sessions'
step_back-rises hi (SessionStep.Waited x before after) sessions sessions' r e = change-rises x hi _ sessions sessions' r e
step_back-rises hi (SessionStep.Played x before) sessions sessions' r e = change-rises x hi _ sessions sessions' r e
step_back-rises hi (SessionStep.Made x) sessions sessions' r e = removal-rises x hi sessions sessions' r e
