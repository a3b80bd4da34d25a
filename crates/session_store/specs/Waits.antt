-- Who waits.
use Rattle.std.specs.Prelude.{◌≡◌, ℕ, List, Some}
use Rattle.object.specs.Lists.{In}
use Rattle.object.specs.declared.command.Key.{Key}
use Rattle.session_store.specs.declared.session.SessionState.{SessionState}
use Rattle.session_store.specs.declared.session.Wait.{Wait}

-- a session waits by its command of this key
abbrev pub WaitsIn : List (ℕ × SessionState) → Key → Type 0
WaitsIn sessions key =
    (e : ℕ × SessionState) ×
    (w : Wait) ×
    In e sessions ×
    (e.0 ≡ key.session) ×
    (e.1.wait ≡ Some w) ×
    (w.number ≡ key.number)
