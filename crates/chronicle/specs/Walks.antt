-- Where a check stands in what happened.
use Rattle.std.specs.Prelude.{◌≡◌, ◌≢◌, ⊤, ℕ, suc, ◌+◌, ◌<◌, ◌≤◌, ◌⊎◌, List, ◌++◌, length, take, drop, Some}
use Rattle.std.specs.BTreeMap.{get}
use Rattle.object.specs.Keys.{key_cmp, found}
use Rattle.object.specs.declared.command.Key.{Key}
use Rattle.chronicle.specs.declared.check_fault.What.{What}
use Rattle.chronicle.specs.declared.check_fault.What.TheVariants.{SubmittedTwice, PlacedTooEarly, NotTheQueuesAnswer}
use Rattle.chronicle.specs.declared.check_fault.CheckFault.{CheckFault}
use Rattle.chronicle.specs.declared.check_fault.CheckFault.TheVariants.{OutOfMemory, At}
use Rattle.chronicle.specs.CheckFaults.{IsWrongHappening}
use Rattle.object.specs.Happenings.{submitted_key}
use Rattle.object.specs.Lists.{In}
use Rattle.object.specs.declared.command.Answer.{Answer}
use Rattle.object.specs.declared.command.Command.{Command}
use Rattle.object.specs.declared.command.Submission.{Submission}
use Rattle.bean_words.specs.declared.op.Op.{Op}
use Rattle.bean_words.specs.declared.reply.Reply.{Reply}
use Rattle.chronicle.specs.declared.replay.Given.{Given}
use Rattle.chronicle.specs.declared.walk.Replayed.{Replayed}
use Rattle.chronicle.specs.declared.walk.Walk.{Walk}
use Rattle.chronicle.specs.Checking.{IsGivenBy, AreRightLines}
use Rattle.recorder.specs.Chronicles.{Chronicle}
use Rattle.chronicle_text.specs.Happenings.{Happening, happenings, happenings_from}
use Rattle.chronicle_text.specs.Happenings.Happening.{Submitted, Answered}
use Rattle.chronicle.specs.Replaying.{HasFirstPlaces, AreGiven}

-- each map tells the places of its list, and the answers are the queue's
pub record IsReplayed (c : Chronicle Op Reply) (r : Replayed) : Type 0 where
  pub firsts : HasFirstPlaces submitted_key c.submitted r.firsts
  pub places : HasFirstPlaces (λ key. key) c.order r.places
  pub given : AreGiven c r.given.items
  pub answers : HasFirstPlaces (λ g. g.answer.to) r.given.items r.answers

-- so many submissions and answers happened first, and the others are left
pub record HasPassed (c : Chronicle Op Reply) (submitted answered : ℕ) (earlier : List (Happening Op Reply)) : Type 0 where
  pub cut : happenings c.submitted c.answers ≡ earlier ++ happenings_from answered (drop submitted c.submitted) (drop answered c.answers)
  pub count : length earlier ≡ submitted + answered
  pub some : submitted ≤ length c.submitted
  pub few : answered ≤ length c.answers
  pub later : (s : Submission Op) → In s (drop submitted c.submitted) → answered ≤ s.after
  pub said : (d : Command Op) → In (Submitted d) earlier → (s : Submission Op) × In s (take submitted c.submitted) × (s.command ≡ d)
  pub heard : (s : Submission Op) → In s (take submitted c.submitted) → In (Submitted s.command) earlier

-- the reach is 0, or one more than the greatest place of an answer on these lines
pub record HasReach (c : Chronicle Op Reply) (reach : ℕ) (earlier : List (Happening Op Reply)) : Type 0 where
  pub below : (a : Answer Reply) → In (Answered a) earlier → (place : ℕ) → IsGivenBy c place a → place < reach
  pub met : (reach ≡ 0) ⊎ ((a : Answer Reply) × In (Answered a) earlier × ((place : ℕ) × IsGivenBy c place a × (reach ≡ suc place)))

-- these lines were looked through, and are right
pub record HasSeen (c : Chronicle Op Reply) (w : Walk) (earlier : List (Happening Op Reply)) : Type 0 where
  pub passed : HasPassed c w.submitted w.answered earlier
  pub reach : HasReach c w.reach earlier
  pub right : AreRightLines c earlier

-- the lines that are looked through
abbrev pub seen : Chronicle Op Reply → Walk → List (Happening Op Reply)
seen c w = take (w.submitted + w.answered) (happenings c.submitted c.answers)

-- they are right
abbrev pub HasWalked : Chronicle Op Reply → Walk → Type 0
HasWalked c w = HasSeen c w (seen c w)

-- each submission that is left came after more answers
abbrev pub NoneIsDue : Chronicle Op Reply → Walk → Type 0
NoneIsDue c w = (s : Submission Op) → In s (drop w.submitted c.submitted) → w.answered < s.after

-- what is wrong with a submission of this index, by where its key stands first and where it is placed
abbrev pub IsMisplaced : Replayed → ℕ → Key → ℕ → What → Type 0
IsMisplaced r index key reach SubmittedTwice = get key_cmp r.firsts key ≢ Some index
IsMisplaced r index key reach PlacedTooEarly = (get key_cmp r.firsts key ≡ Some index) × ((n : ℕ) × (get key_cmp r.places key ≡ Some n) × (n < reach))
IsMisplaced r index key reach _ = ⊥

-- no answer of the queue is this one
abbrev pub IsNotGiven : Replayed → Answer Reply → What → Type 0
IsNotGiven r a what = (what ≡ NotTheQueuesAnswer) × ((g : Given) → found (λ g. g.answer.to) a.to r.given.items ≡ Some g → g.answer ≢ a)

-- what a fault says of what happened
abbrev pub IsHappeningFault : Chronicle Op Reply → CheckFault → Type 0
IsHappeningFault c OutOfMemory = ⊤
IsHappeningFault c (At n what) = IsWrongHappening c n what
