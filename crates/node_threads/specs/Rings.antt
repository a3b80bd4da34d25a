-- Nodes in a ring.
use Rattle.std.specs.Prelude.{ℕ, ◌+◌, ◌%◌, nat_lt, if◌then◌else◌}

-- the node after this one of so many: after the last comes the first
abbrev pub node_after : ℕ → ℕ → ℕ
node_after nodes node = if nat_lt node nodes then node + 1 else 1

-- the node of so many at which a second is handed in: one after the other
abbrev pub node_of_second : ℕ → ℕ → ℕ
node_of_second nodes second = second % nodes + 1
