-- What a check keeps of the order, and where it stands in what happened.
use Rattle.std.specs.Prelude.{◌≡◌, ℕ, List, map, ⊤}
use Rattle.std.specs.BTreeMap.{BTreeMap, get}
use Rattle.object.specs.Keys.{key_cmp, place_of}
use Rattle.object.specs.Replays.{Placed}
use Rattle.object.specs.declared.command.Answer.{Answer}
use Rattle.object.specs.declared.command.Command.{Command}
use Rattle.object.specs.declared.command.Key.{Key}
use Rattle.bean_queue.specs.Effects.{effect}
use Rattle.bean_queue.specs.Places.{queue_replay}
use Rattle.bean_queue.specs.Queue.{QueueState}
use Rattle.bean_words.specs.declared.op.Op.{Op}
use Rattle.bean_words.specs.declared.reply.Reply.{Reply}
use Rattle.chronicle.specs.declared.check_fault.CheckFault.{CheckFault}
use Rattle.chronicle.specs.declared.check_fault.CheckFault.TheVariants.{OutOfMemory, At}
use Rattle.chronicle.specs.declared.replay.Given.{Given}
use Rattle.chronicle.specs.Checking.{ordered_commands}
use Rattle.chronicle.specs.CheckFaults.{IsWrongOrder}
use Rattle.recorder.specs.Chronicles.{Chronicle}

-- the map has the place of the first item of each key, and nothing else
abbrev pub HasFirstPlaces : {X : Type 0} → (X → Key) → List X → BTreeMap Key ℕ → Type 0
HasFirstPlaces key_of items places = (k : Key) → get key_cmp places k ≡ place_of key_of k items

-- the state that a command leaves
abbrev pub queue_after : QueueState → Command Op → QueueState
queue_after s c = (effect c s).state

-- and what is answered to it
abbrev pub queue_answers : QueueState → Command Op → List (Answer Reply)
queue_answers s c = (effect c s).answers

-- an answer with its place
abbrev pub placed : Given → Placed Reply
placed g = record { place = g.place; answer = g.answer }

-- these are the plain queue's answers to the order
abbrev pub AreGiven : Chronicle Op Reply → List Given → Type 0
AreGiven c given = map placed given ≡ queue_replay (ordered_commands c)

-- what a fault says of the order
abbrev pub IsOrderFault : Chronicle Op Reply → CheckFault → Type 0
IsOrderFault c OutOfMemory = ⊤
IsOrderFault c (At n what) = IsWrongOrder c n what
