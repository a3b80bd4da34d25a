-- The states that a queue may be in.
use Rattle.std.specs.Prelude.{◌≡◌, None}
use Rattle.bean_queue.specs.Queue.{QueueState, HasRisingIds}
use Rattle.bean_queue.specs.Turns.{serve_turn}

-- the ids rise below the next one, and nothing is left to give
pub record IsSoundQueue (s : QueueState) : Type 0 where
  pub ids : HasRisingIds s
  pub calm : serve_turn s ≡ None
