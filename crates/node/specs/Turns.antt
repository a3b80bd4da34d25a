-- What two nodes do, one of which shows the other.
use Rattle.std.specs.Prelude.{◌≡◌}
use Rattle.node.specs.Deeds.{Turn}
use Rattle.node.specs.Receiving.{ShowsNode}

-- the one became what shows what the other became, and both sent and answered the same
pub record IsSameTurn {Op Reply : Type 0} (kept x : Turn Op Reply) : Type 0 where
  pub state : ShowsNode kept.state x.state
  pub sent : kept.sent ≡ x.sent
  pub answers : kept.answers ≡ x.answers
