-- What it is that happenings are legal for one order of commands, and that later happenings go on from earlier ones.
use Rattle.std.specs.Prelude.{◌≡◌, ℕ, ◌<◌, ◌≤◌, ⊤, List, [], ◌∷◌, ◌++◌, map, take, length, slice_get, Some}
use Rattle.object.specs.Lists.{In, IsBeginning}
use Rattle.object.specs.Answers.{AnswersOnce}
use Rattle.object.specs.Objects.{Rules, replay_of}
use Rattle.object.specs.Happenings.{Happenings}
use Rattle.object.specs.declared.command.Answer.{Answer}
use Rattle.object.specs.declared.command.Command.{Command}
use Rattle.object.specs.declared.command.Key.{Key}
use Rattle.object.specs.declared.command.Submission.{Submission}

-- nothing that happened earlier is changed, and each later submission comes after every earlier answer
pub record GoesOn {Op Reply : Type 0} (earlier later : Happenings Op Reply) : Type 0 where
  pub answers : IsBeginning earlier.answers later.answers
  pub submitted : (more : List (Submission Op)) × (later.submitted ≡ earlier.submitted ++ more)
      × ((s : Submission Op) → In s more → length earlier.answers ≤ s.after)

-- the command was submitted, with its key and its act
abbrev pub WasSubmitted : {Op : Type 0} → Command Op → List (Submission Op) → Type 0
WasSubmitted {Op} c submitted = (s : Submission Op) × In s submitted × (s.command ≡ c)

-- the numbers of each session rise along the list
abbrev pub IsRising : {Op : Type 0} → List (Command Op) → Type 0
IsRising [] = ⊤
IsRising {Op} (c ∷ cs) = ((d : Command Op) → In d cs → d.key.session ≡ c.key.session → c.key.number < d.key.number) × IsRising cs

-- one object that obeys the order alone gives this answer at this place
abbrev pub IsGivenAt : {O Op Reply : Type 0} → Rules O Op Reply → List (Command Op) → ℕ → Answer Reply → Type 0
IsGivenAt rules order place a = In (record { place = place; answer = a }) (replay_of rules order)

-- the key's command has this place in the order
abbrev pub StandsAt : {Op : Type 0} → Key → List (Command Op) → ℕ → Type 0
StandsAt {Op} key order place = (c : Command Op) × (slice_get order place ≡ Some c) × (c.key ≡ key)

-- the answers that were given before the submission
abbrev pub given_before : {Op Reply : Type 0} → Submission Op → List (Answer Reply) → List (Answer Reply)
given_before s answers = take s.after answers

-- Each command of the order was submitted. The numbers of each session rise along it, so no key stands twice. Each
-- answer is given by the replay of the order, which answers no key twice. And a key that was submitted after an answer
-- has no place in the order up to the answer's.
pub record IsLegal {O Op Reply : Type 0} (rules : Rules O Op Reply) (h : Happenings Op Reply) (order : List (Command Op)) : Type 0 where
  pub submitted : (c : Command Op) → In c order → WasSubmitted c h.submitted
  pub rising : IsRising order
  pub answered : (a : Answer Reply) → In a h.answers → (place : ℕ) × IsGivenAt rules order place a
  pub once : AnswersOnce (map (λ p. p.answer) (replay_of rules order))
  pub later :
      (s : Submission Op) → In s h.submitted
      → (a : Answer Reply) → In a (given_before s h.answers)
      → (m n : ℕ) → IsGivenAt rules order m a → StandsAt s.command.key order n → m < n
