-- Which session the next client gets.
use Rattle.std.specs.Prelude.{ℕ, ◌+◌, Option, None, Some}

-- the one that is free, where one is, and else one behind all that were opened
abbrev pub next_session : Option ℕ → ℕ → ℕ
next_session None opened = opened + 1
next_session (Some session) opened = session

-- how many were opened then
abbrev pub opened_then : Option ℕ → ℕ → ℕ
opened_then None opened = opened + 1
opened_then (Some session) opened = opened
