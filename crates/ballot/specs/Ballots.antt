-- Ballots and their order (Paxos Made Moderately Complex, 2.1): by round, then node, then boot. Of what an
-- acceptor promised, None is the bottom.
use Rattle.std.specs.Prelude.{ℕ, ◌≤◌, ◌<◌, ◌+◌, ◌^◌, Bool, true, false, ◌&&◌, ◌||◌, nat_lt, ◌==◌, if◌then◌else◌, Option, None, Some}

-- a ballot, as clauses see it
pub record Numbers : Type 0 where
  pub round : ℕ
  pub node : ℕ
  pub boot : ℕ

-- the numbers are within their limits
pub record IsBallot (b : Numbers) : Type 0 where
  pub round : b.round ≤ 2 ^ 62
  pub above : 0 < b.node
  pub node : b.node ≤ 7
  pub boot : b.boot ≤ 2 ^ 62

-- a comes before b
abbrev pub is_below : Numbers → Numbers → Bool
is_below a b =
    nat_lt a.round b.round ||
    ((a.round == b.round) && (nat_lt a.node b.node || ((a.node == b.node) && nat_lt a.boot b.boot)))

abbrev pub is_same : Numbers → Numbers → Bool
is_same a b = (a.round == b.round) && ((a.node == b.node) && (a.boot == b.boot))

-- the first ballot of this node and boot that comes after every ballot of b's round
abbrev pub next_after : Numbers → ℕ → ℕ → Numbers
next_after b node boot = record { round = b.round + 1; node = node; boot = boot }

-- the higher of what was promised and this
abbrev pub higher : Option Numbers → Numbers → Numbers
higher None b = b
higher (Some x) b = if is_below x b then b else x

-- what was promised is this ballot
abbrev pub is_promise : Option Numbers → Numbers → Bool
is_promise None b = false
is_promise (Some x) b = is_same x b

-- None comes before every ballot
abbrev pub is_promise_below : Option Numbers → Option Numbers → Bool
is_promise_below a None = false
is_promise_below None (Some b) = true
is_promise_below (Some a) (Some b) = is_below a b
