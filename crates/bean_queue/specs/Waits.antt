-- Who waits, and what is said of every effect.
use Rattle.std.specs.Prelude.{◌≡◌, List, [], ◌∷◌, ◌⊎◌}
use Rattle.std.specs.Bool.{⊤}
use Rattle.object.specs.Lists.{In}
use Rattle.object.specs.declared.command.Answer.{Answer}
use Rattle.object.specs.declared.command.Key.{Key}
use Rattle.session_store.specs.Waits.{WaitsIn}
use Rattle.bean_words.specs.declared.reply.Reply.{Reply}
use Rattle.bean_queue.specs.Queue.{QueueState}
use Rattle.bean_queue.specs.Turns.{QueueOutcome}

-- the command of this key waits for its answer
abbrev pub Waits : QueueState → Key → Type 0
Waits s key = WaitsIn s.sessions key

-- no session is answered twice
abbrev pub NoneTwice : List (Answer Reply) → Type 0
NoneTwice [] = ⊤
NoneTwice (a ∷ more) = ((b : Answer Reply) → In b more → b.to.session ≡ a.to.session → ⊥) × NoneTwice more

-- what holds of the outcome of every command
pub record IsLawful (key : Key) (s : QueueState) (o : QueueOutcome) : Type 0 where
  -- what waits waited before, or is the command itself
  pub waits : (k : Key) → Waits o.state k → Waits s k ⊎ (k ≡ key)
  -- each answer names the command itself, or one that waited
  pub named : (a : Answer Reply) → In a o.answers → (a.to ≡ key) ⊎ Waits s a.to
  -- an answered command waits no more
  pub over : (a : Answer Reply) → In a o.answers → Waits o.state a.to → ⊥
  -- no session is answered twice
  pub once : NoneTwice o.answers
