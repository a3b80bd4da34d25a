-- What is wrong with a chronicle of a queue, by the line of its dump.
use Rattle.std.specs.Prelude.{◌≡◌, ⊤, ℕ, ◌+◌, ◌⊎◌, true, false, List, ◌∷◌, ◌++◌, length}
use Rattle.object.specs.Happenings.{submitted_key}
use Rattle.object.specs.Keys.{stands}
use Rattle.object.specs.declared.command.Key.{Key}
use Rattle.bean_words.specs.declared.op.Op.{Op}
use Rattle.bean_words.specs.declared.reply.Reply.{Reply}
use Rattle.chronicle.specs.declared.check_fault.CheckFault.{CheckFault}
use Rattle.chronicle.specs.declared.check_fault.CheckFault.TheVariants.{OutOfMemory, At}
use Rattle.chronicle.specs.declared.check_fault.What.{What}
use Rattle.chronicle.specs.declared.check_fault.What.TheVariants.{NotSubmitted, NotKept, SubmittedTwice, PlacedTooEarly, NotTheQueuesAnswer}
use Rattle.chronicle.specs.Checking.{IsGivenBy, IsAbove, IsFirstOfKey, IsPlacedLater, AreRightPlaces, AreRightLines}
use Rattle.recorder.specs.Chronicles.{Chronicle}
use Rattle.chronicle_text.specs.Dump.{first_line}
use Rattle.chronicle_text.specs.Happenings.{Happening, happenings}
use Rattle.chronicle_text.specs.Happenings.Happening.{Submitted, Answered}

-- what is wrong with an O line after these; of two faults the first is told
abbrev pub IsWrongPlace : Chronicle Op Reply → List Key → Key → What → Type 0
IsWrongPlace c earlier key NotSubmitted = stands submitted_key key c.submitted ≡ false
IsWrongPlace c earlier key NotKept = (stands submitted_key key c.submitted ≡ true) × (IsAbove key earlier → ⊥)
IsWrongPlace c earlier key _ = ⊥

-- what is wrong with an S line or an A line after these
abbrev pub IsWrongLine : Chronicle Op Reply → List (Happening Op Reply) → Happening Op Reply → What → Type 0
IsWrongLine c earlier (Submitted s) SubmittedTwice = IsFirstOfKey s earlier → ⊥
IsWrongLine c earlier (Submitted s) PlacedTooEarly = IsFirstOfKey s earlier × (IsPlacedLater c s earlier → ⊥)
IsWrongLine c earlier (Answered a) NotTheQueuesAnswer = (place : ℕ) → IsGivenBy c place a → ⊥
IsWrongLine c earlier _ _ = ⊥

-- line n is the first wrong O line; the O lines stand after what happened
pub record IsWrongOrder (c : Chronicle Op Reply) (n : ℕ) (what : What) : Type 0 where
  pub earlier : List Key
  pub key : Key
  pub later : List Key
  pub cut : c.order ≡ earlier ++ (key ∷ later)
  pub line : n ≡ first_line c + length (happenings c.submitted c.answers) + length earlier
  pub before : AreRightPlaces c earlier
  pub wrong : IsWrongPlace c earlier key what

-- all O lines are right, and line n is the first wrong S or A line
pub record IsWrongHappening (c : Chronicle Op Reply) (n : ℕ) (what : What) : Type 0 where
  pub earlier : List (Happening Op Reply)
  pub happening : Happening Op Reply
  pub later : List (Happening Op Reply)
  pub cut : happenings c.submitted c.answers ≡ earlier ++ (happening ∷ later)
  pub line : n ≡ first_line c + length earlier
  pub order : AreRightPlaces c c.order
  pub before : AreRightLines c earlier
  pub wrong : IsWrongLine c earlier happening what

-- this is the fault that is told
abbrev pub IsFaultAt : Chronicle Op Reply → ℕ → What → Type 0
IsFaultAt c n what = IsWrongOrder c n what ⊎ IsWrongHappening c n what

-- what a fault says of the chronicle
abbrev pub IsCheckFault : Chronicle Op Reply → CheckFault → Type 0
IsCheckFault c OutOfMemory = ⊤
IsCheckFault c (At n what) = IsFaultAt c n what
