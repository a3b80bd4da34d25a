-- Which chronicles of a queue are right, line by line of their dump.
use Rattle.std.specs.Prelude.{◌≡◌, ◌≢◌, ℕ, ◌<◌, true, List, ◌∷◌, ◌++◌, slice_get, Some}
use Rattle.std.specs.List.{filter_map}
use Rattle.std.specs.Option.{option_map}
use Rattle.object.specs.Happenings.{submitted_key}
use Rattle.object.specs.Keys.{stands, found}
use Rattle.object.specs.Lists.{In}
use Rattle.object.specs.declared.command.Answer.{Answer}
use Rattle.object.specs.declared.command.Command.{Command}
use Rattle.object.specs.declared.command.Key.{Key}
use Rattle.bean_queue.specs.Places.{queue_replay}
use Rattle.bean_words.specs.declared.op.Op.{Op}
use Rattle.bean_words.specs.declared.reply.Reply.{Reply}
use Rattle.recorder.specs.Chronicles.{Chronicle}
use Rattle.chronicle_text.specs.Happenings.{Happening, happenings}
use Rattle.chronicle_text.specs.Happenings.Happening.{Submitted, Answered}

-- the commands of the O lines, each with the act of its key's first S line
abbrev pub ordered_commands : Chronicle Op Reply → List (Command Op)
ordered_commands c = filter_map (λ key. option_map (λ s. s.command) (found submitted_key key c.submitted)) c.order

-- the plain queue that obeys them gives this answer at this place, counted from 0
abbrev pub IsGivenBy : Chronicle Op Reply → ℕ → Answer Reply → Type 0
IsGivenBy c place a = In (record { place = place; answer = a }) (queue_replay (ordered_commands c))

-- the number is greater than each of these of its session
abbrev pub IsAbove : Key → List Key → Type 0
IsAbove key earlier = (k : Key) → In k earlier → k.session ≡ key.session → k.number < key.number

-- an O line after these: an S line has the key, and the number is greater than each earlier one of its session
pub record IsRightPlace (c : Chronicle Op Reply) (earlier : List Key) (key : Key) : Type 0 where
  pub submitted : stands submitted_key key c.submitted ≡ true
  pub kept : IsAbove key earlier

-- an S line after these: no earlier S line has the key
abbrev pub IsFirstOfKey : Command Op → List (Happening Op Reply) → Type 0
IsFirstOfKey s earlier = (d : Command Op) → In (Submitted d) earlier → d.key ≢ s.key

-- and the key has no place up to that of an answer on an earlier line
abbrev pub IsPlacedLater : Chronicle Op Reply → Command Op → List (Happening Op Reply) → Type 0
IsPlacedLater c s earlier =
    (a : Answer Reply) → In (Answered a) earlier → (m n : ℕ) → IsGivenBy c m a → slice_get c.order n ≡ Some s.key → m < n

-- an S line or an A line after these; an A line has the answer that the queue gives
abbrev pub IsRightLine : Chronicle Op Reply → List (Happening Op Reply) → Happening Op Reply → Type 0
IsRightLine c earlier (Submitted s) = IsFirstOfKey s earlier × IsPlacedLater c s earlier
IsRightLine c earlier (Answered a) = (place : ℕ) × IsGivenBy c place a

-- all of these O lines are right
abbrev pub AreRightPlaces : Chronicle Op Reply → List Key → Type 0
AreRightPlaces c order = (earlier : List Key) (key : Key) (later : List Key) → order ≡ earlier ++ (key ∷ later) → IsRightPlace c earlier key

-- all of these S and A lines are right
abbrev pub AreRightLines : Chronicle Op Reply → List (Happening Op Reply) → Type 0
AreRightLines c hs = (earlier : List (Happening Op Reply)) (h : Happening Op Reply) (later : List (Happening Op Reply))
    → hs ≡ earlier ++ (h ∷ later) → IsRightLine c earlier h

-- each line is right
pub record IsFaultless (c : Chronicle Op Reply) : Type 0 where
  pub order : AreRightPlaces c c.order
  pub happened : AreRightLines c (happenings c.submitted c.answers)
