-- A session that was called is there.
use Rattle.std.proofs.Common.{◌≡◌, ℕ, true, false, cond, List, Option, None, Some, unwrap_or, ◌^◌, IsSome, is_some}
use Rattle.std.proofs.Common.{option_map, [], ◌∷◌, refl, sym, ap, subst, ◌∙◌}
use Rattle.job_store.specs.Entries.{Rising, value_at, with_value, altered}
use Rattle.job_store.specs.EntryLaws.{value_at-altered, value_at-insert, altered-alike}
use Rattle.object.specs.declared.command.Key.{Key}
use Rattle.session_store.specs.declared.session.SessionState.{SessionState}
use Rattle.session_store.proofs.SessionDrafts.{unplayed}
use Rattle.session_store.specs.Sessions.{new_session, session_of, known, with_role, with_wait, with_wait_ended}
use Rattle.session_store.specs.declared.session.Role.{Role}
use Rattle.bean_words.specs.declared.op.Op.{Op}
use Rattle.bean_words.specs.declared.reply.Reply.{Reply}
use Rattle.bean_queue.specs.Queue.{QueueState}
use Rattle.bean_queue.specs.Rows.{row}
use Rattle.bean_queue.specs.Turns.{QueueOutcome, serve_turn}
use Rattle.bean_queue.specs.Effects.{own, role_after, with_ask_noted, called, carried_out, is_quiet}
use Rattle.bean_queue.proofs.calm.Calm.{quiet-effect}

still_some : (f : SessionState → SessionState) (o : Option SessionState) → is_some o ≡ true → is_some (option_map f o) ≡ true
still_some f None e = e
still_some f (Some v) e = refl

pub known-there : (x : ℕ) (sessions : List (ℕ × SessionState)) → IsSome (value_at x (known x sessions))
known-there x sessions =
    elim (is_some (value_at x sessions)) as (λ b. is_some (value_at x sessions) ≡ b
    → is_some (value_at x (cond b (with_wait_ended x sessions) (with_value x new_session sessions))) ≡ true) [
      | true ↦ λ there. ap is_some (value_at-altered x (with_wait None) sessions) ∙ still_some (with_wait None) (value_at x sessions) there
      | false ↦ λ absent. ap is_some (value_at-insert x new_session sessions)
    ] refl

pub called-there : (op : Op) (s t : QueueState) (x : ℕ) → t ≡ called op x s → IsSome (value_at x t.sessions)
called-there op s t x e =
    subst (λ (t : QueueState). IsSome (value_at x t.sessions)) (sym e)
    (ap is_some (value_at-altered x (with_ask_noted op) (known x s.sessions)) ∙
    still_some (with_ask_noted op) (value_at x (known x s.sessions)) (known-there x s.sessions))

the-session : (o : Option SessionState) (d : SessionState) → IsSome o → o ≡ Some (unwrap_or o d)
the-session None d there = cc
the-session (Some c) d there = refl

-- a session that is there is noted as one that asks for the operation
pub role-noted : (op : Op) (x : ℕ) (sessions : List (ℕ × SessionState)) (role : Role) → Rising 0 (2 ^ 32) sessions
    → IsSome (value_at x sessions) → role ≡ role_after op (session_of x sessions).role
    → altered x (with_role role) sessions ≡ altered x (with_ask_noted op) sessions
role-noted op x sessions role rising there is =
    altered-alike x 0 (2 ^ 32) (with_role role) (with_ask_noted op) sessions (session_of x sessions) rising
    (the-session (value_at x sessions) new_session there)
    (ap (λ r. with_role r (session_of x sessions)) is)

-- and where that is the role that it has, nothing changes
pub role-stays : (op : Op) (x : ℕ) (sessions : List (ℕ × SessionState)) → Rising 0 (2 ^ 32) sessions
    → IsSome (value_at x sessions) → (session_of x sessions).role ≡ role_after op (session_of x sessions).role
    → sessions ≡ altered x (with_ask_noted op) sessions
role-stays op x sessions rising there same =
    sym (unplayed x 0 (2 ^ 32) (role_after op (session_of x sessions).role) (session_of x sessions) sessions rising
    (the-session (value_at x sessions) new_session there) same) ∙
    role-noted op x sessions (role_after op (session_of x sessions).role) rising there refl

-- the state after a quiet operation, and its answer
pub quiet-state : (op : Op) (key : Key) (s t u : QueueState) → is_quiet op ≡ true → serve_turn s ≡ None
    → t ≡ called op key.session s → u ≡ (row op key t).state → u ≡ (carried_out op key s).state
quiet-state op key s t u q calm c e =
    e ∙ ap (λ t. (row op key t).state) c ∙ sym (ap (λ (o : QueueOutcome). o.state) (quiet-effect op key s q calm))

pub quiet-reply : (op : Op) (key : Key) (s t : QueueState) (reply : Reply) → is_quiet op ≡ true → serve_turn s ≡ None
    → t ≡ called op key.session s → (row op key t).reply ≡ Some reply
    → (carried_out op key s).answers ≡ record { to = key; reply = reply } ∷ []
quiet-reply op key s t reply q calm c e =
    ap (λ (o : QueueOutcome). o.answers) (quiet-effect op key s q calm) ∙ ap (own key) (sym (ap (λ t. (row op key t).reply) c) ∙ e)
