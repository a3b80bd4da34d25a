-- Who waits after a change of the sessions.
use Rattle.std.proofs.Common.{◌≡◌, ℕ, true, false, cond, ◌⊎◌, inl, inr, List, Option, Some, None, is_some, unwrap_or}
use Rattle.std.proofs.Common.{◌==◌, refl, sym, ap, ◌∙◌, eq-eqb, eqb-true, true≢false}
use Rattle.object.specs.declared.command.Key.{Key}
use Rattle.job_store.specs.Entries.{value_at, with_value, altered, without}
use Rattle.job_store.specs.EntryLaws.{altered-in, without-in, insert-in, in-found, value_at-found}
use Rattle.session_store.specs.declared.session.SessionState.{SessionState}
use Rattle.session_store.specs.declared.session.Wait.{Wait}
use Rattle.session_store.specs.Sessions.{new_session, session_of, with_wait, with_wait_ended, known, is_waiting, wait_number}
use Rattle.session_store.specs.Waits.{WaitsIn}

-- a change of x's session that keeps its wait
pub altered-waits : (x : ℕ) (f : SessionState → SessionState) (sessions : List (ℕ × SessionState)) (k : Key)
    → ((c : SessionState) → (f c).wait ≡ c.wait) → WaitsIn (altered x f sessions) k → WaitsIn sessions k
altered-waits x f sessions k same h =
    altered-in x f (λ e. (w : Wait) → e.0 ≡ k.session → e.1.wait ≡ Some w → w.number ≡ k.number → WaitsIn sessions k) sessions
    (λ d i.
    elim (x == d.0) as (λ b. (w : Wait) → d.0 ≡ k.session → (cond b (f d.1) d.1).wait ≡ Some w → w.number ≡ k.number → WaitsIn sessions k) [
      | true ↦ λ w s e n. (d, w, i, s, sym (same d.1) ∙ e, n)
      | false ↦ λ w s e n. (d, w, i, s, e, n)
    ])
    h.0 h.2 h.1 h.3 h.4 h.5

-- the wait of x has ended
pub ended-waits : (x : ℕ) (sessions : List (ℕ × SessionState)) (k : Key) → WaitsIn (with_wait_ended x sessions) k → WaitsIn sessions k × (k.session ≡ x → ⊥)
ended-waits x sessions k h =
    altered-in x (with_wait None) (λ e. (w : Wait) → e.0 ≡ k.session → e.1.wait ≡ Some w → w.number ≡ k.number
    → WaitsIn sessions k × (k.session ≡ x → ⊥)) sessions
    (λ d i.
    elim (x == d.0) as (λ b. (x == d.0) ≡ b → (w : Wait) → d.0 ≡ k.session
    → (cond b (with_wait None d.1) d.1).wait ≡ Some w → w.number ≡ k.number → WaitsIn sessions k
    × (k.session ≡ x → ⊥)) [
      | true ↦ λ t w s e n. cc
      | false ↦ λ t w s e n. ((d, w, i, s, e, n), λ same. true≢false (sym (eq-eqb x d.0 (sym (s ∙ same))) ∙ t))
    ] refl)
    h.0 h.2 h.1 h.3 h.4 h.5

-- x is gone
pub forgotten-waits : (x : ℕ) (sessions : List (ℕ × SessionState)) (k : Key) → WaitsIn (without x sessions) k → WaitsIn sessions k
forgotten-waits x sessions k w = (w.0, w.1, without-in x sessions w.0 w.2, w.3, w.4, w.5)

pub known-waits : (x : ℕ) (sessions : List (ℕ × SessionState)) (k : Key) → WaitsIn (known x sessions) k → WaitsIn sessions k × (k.session ≡ x → ⊥)
known-waits x sessions k h =
    elim (is_some (value_at x sessions)) as (λ b. is_some (value_at x sessions) ≡ b
    → WaitsIn (cond b (with_wait_ended x sessions) (with_value x new_session sessions)) k → WaitsIn sessions k
    × (k.session ≡ x → ⊥)) [
      | true ↦ λ t h. ended-waits x sessions k h
      | false ↦ λ t h.
          insert-in (λ e. (w : Wait) → e.0 ≡ k.session → e.1.wait ≡ Some w → w.number ≡ k.number → WaitsIn sessions k
          × (k.session ≡ x → ⊥)) x new_session sessions
          (λ q w s e n. cc)
          (λ d i w s e n. ((d, w, i, s, e, n), λ same. true≢false (sym (in-found sessions d i) ∙ ap (λ q. is_some (value_at q sessions)) (s ∙ same) ∙ t)))
          h.0 h.2 h.1 h.3 h.4 h.5
    ] refl h

same_key : (k key : Key) → k.session ≡ key.session → k.number ≡ key.number → k ≡ key
same_key k key s n = λ i. record { session = s i; number = n i }

some_same : (v w : Wait) → Some v ≡ Some w → v ≡ w
some_same v w e = cc

-- x waits anew
pub waiting-waits : (x : ℕ) (f : SessionState → SessionState) (w : Wait) (sessions : List (ℕ × SessionState))
    (k key : Key) → key.session ≡ x → w.number ≡ key.number → ((c : SessionState) → (f c).wait ≡ Some w)
    → WaitsIn (altered x f sessions) k → WaitsIn sessions k ⊎ (k ≡ key)
waiting-waits x f w sessions k key who number sets h =
    altered-in x f (λ e. (v : Wait) → e.0 ≡ k.session → e.1.wait ≡ Some v → v.number ≡ k.number → WaitsIn sessions k ⊎ (k ≡ key)) sessions
    (λ d i.
    elim (x == d.0) as (λ b. (x == d.0) ≡ b → (v : Wait) → d.0 ≡ k.session → (cond b (f d.1) d.1).wait ≡ Some v
    → v.number ≡ k.number → WaitsIn sessions k ⊎ (k ≡ key)) [
      | true ↦ λ t v s e n.
          let same : w ≡ v = some_same w v (sym (sets d.1) ∙ e) in
          inr (same_key k key (sym s ∙ sym (eqb-true x d.0 t) ∙ sym who) (sym n ∙ sym (ap (λ (u : Wait). u.number) same) ∙ number))
      | false ↦ λ t v s e n. inl (d, v, i, s, e, n)
    ] refl)
    h.0 h.2 h.1 h.3 h.4 h.5

pub some_wait : (o : Option Wait) → is_some o ≡ true → (w : Wait) × (o ≡ Some w) × (w.number ≡ wait_number o)
some_wait None e = cc
some_wait (Some w) e = (w, refl, refl)

-- a session that is seen to wait does so by some key
pub session_waits : (x : ℕ) (sessions : List (ℕ × SessionState)) → is_waiting (session_of x sessions) ≡ true → (k : Key) × WaitsIn sessions k × (k.session ≡ x)
session_waits x sessions e =
    elim (value_at x sessions) as (λ o. value_at x sessions ≡ o → is_waiting (unwrap_or o new_session) ≡ true
    → (k : Key) × WaitsIn sessions k × (k.session ≡ x)) [
      | None ↦ λ f e. absurd (true≢false (sym e))
      | Some c ↦ λ f e.
          let there = value_at-found x sessions c f in
          let w = some_wait c.wait e in
          (record { session = x; number = w.0.number }, (there.0, w.0, there.1, there.2, ap (λ (c : SessionState). c.wait) there.3 ∙ w.1, refl), refl)
    ] refl e
