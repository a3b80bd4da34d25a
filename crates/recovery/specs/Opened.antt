-- Which sessions a list of commands leaves open, and the commands that end them.
use Rattle.std.specs.Prelude.{◌≡◌, ℕ, Bool, true, false, not, ◌&&◌, ◌==◌, List, [], ◌∷◌, ◌++◌, if◌then◌else◌}
use Rattle.object.specs.declared.command.Act.TheVariants.{Close}
use Rattle.object.specs.declared.command.Command.{Command}
use Rattle.hall.specs.Tickets.{is_close}

-- a command says of its own session whether it goes on, and of no other
abbrev pub is_open_after : {Op : Type 0} → ℕ → Bool → Command Op → Bool
is_open_after session was c = if c.key.session == session then not (is_close c.act) else was

-- and of several the last one does
unfoldable pub is_open_behind : {Op : Type 0} → ℕ → Bool → List (Command Op) → Bool
is_open_behind session was [] = was
is_open_behind session was (c ∷ cs) = is_open_behind session (is_open_after session was c) cs

-- the session has a command among these, the last of which doesn't end it; the clock is no session
abbrev pub is_left_open : {Op : Type 0} → ℕ → List (Command Op) → Bool
is_left_open session commands = not (session == 0) && is_open_behind session false commands

-- each of these ends a session that is open then, and none is in the end
unfoldable pub EndsAll : {Op : Type 0} → List (Command Op) → List (Command Op) → Type 0
EndsAll commands [] = (session : ℕ) → is_left_open session commands ≡ false
EndsAll commands (c ∷ cs) = (c.act ≡ Close) × (is_left_open c.key.session commands ≡ true) × EndsAll (commands ++ c ∷ []) cs
