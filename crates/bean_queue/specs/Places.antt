-- Lists of commands that are obeyed in their order, place by place.
use Rattle.std.specs.Prelude.{◌≡◌, ℕ, suc, List, [], ◌∷◌, ◌++◌, map}
use Rattle.std.specs.Bool.{⊤}
use Rattle.object.specs.Lists.{In}
use Rattle.object.specs.Replays.{Placed, replay}
use Rattle.object.specs.declared.command.Answer.{Answer}
use Rattle.object.specs.declared.command.Command.{Command}
use Rattle.bean_words.specs.declared.op.Op.{Op}
use Rattle.bean_words.specs.declared.reply.Reply.{Reply}
use Rattle.bean_queue.specs.Queue.{QueueState, fresh}
use Rattle.bean_queue.specs.Turns.{QueueOutcome}
use Rattle.bean_queue.specs.Effects.{effect}

-- one command in its place, with the answers that its effect gave and the state that it left
pub record QueuePlace : Type 0 where
  pub command : Command Op
  pub answers : List (Answer Reply)
  pub state : QueueState

-- the command, in the place where this came of it
abbrev pub queue_place : Command Op → QueueOutcome → QueuePlace
queue_place c o = record { command = c; answers = o.answers; state = o.state }

-- the places of commands that are obeyed from this state on
unfoldable pub places_from : QueueState → List (Command Op) → List QueuePlace
places_from s [] = []
places_from s (c ∷ cs) = let o = effect c s in queue_place c o ∷ places_from o.state cs

-- the places of commands that a new queue obeys
abbrev pub queue_places : List (Command Op) → List QueuePlace
queue_places cs = places_from fresh cs

-- the answers of these places, each with its place; the first is at n
unfoldable pub placed_from : ℕ → List QueuePlace → List (Placed Reply)
placed_from n [] = []
placed_from n (p ∷ ps) = map (λ a. record { place = n; answer = a }) p.answers ++ placed_from (suc n) ps

-- a new queue's answers to these commands, each with its place
abbrev pub queue_replay : List (Command Op) → List (Placed Reply)
queue_replay cs = replay fresh (λ s c. (effect c s).state) (λ s c. (effect c s).answers) cs

-- no key stands twice among the commands
abbrev pub HasDistinctKeys : List (Command Op) → Type 0
HasDistinctKeys [] = ⊤
HasDistinctKeys (c ∷ cs) = ((d : Command Op) → In d cs → d.key ≡ c.key → ⊥) × HasDistinctKeys cs
