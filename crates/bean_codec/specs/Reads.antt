-- What a reader tells of the bytes before it.
use Rattle.std.specs.Prelude.{◌≡◌, ◌⊎◌, ◌↔◌, ◌<◌, ℕ, ◌+◌, ◌-◌, ◌≤◌, List, [], ◌++◌, length, take, drop, codes}
use Rattle.std.specs.Prelude.{Option, Some, None, Result, Ok, Err, IfSome, IfOk, OnErr}
use Rattle.bean_codec.specs.declared.profile.Profile.{Profile}
use Rattle.bean_codec.specs.declared.request.Fault.{Fault}
use Rattle.bean_codec.specs.declared.line.Meaning.{Meaning}
use Rattle.bean_codec.specs.declared.line.Meaning.TheVariants.{WithBody}
use Rattle.bean_codec.specs.declared.reader.Want.{Want}
use Rattle.bean_codec.specs.declared.reader.Want.TheVariants.{Line, Rest, Big}
use Rattle.bean_codec.specs.declared.reader.Read.{Read}
use Rattle.bean_codec.specs.declared.reader.Read.TheVariants.{More, Drop, Request, Bad}
use Rattle.bean_codec.specs.Lines.{crlf, line_text, IsLine}
use Rattle.bean_codec.specs.Grammar.{Item, Completes, Spells, longest_line, longest_body, meaning}
use Rattle.bean_codec.specs.Memory.{TakesMemory}
use Rattle.bean_codec.specs.Wants.{EndsWithCr, Fits}

-- the item that was read, and how many bytes it takes
abbrev pub item_read : Read → Option (Item × ℕ)
item_read More = None
item_read (Drop used want) = None
item_read (Request request used) = Some (Ok request, used)
item_read (Bad fault used) = Some (Err fault, used)

-- P, where more is wanted
abbrev pub IfMore : Read → Type 0 → Type 0
IfMore More P = P
IfMore _ P = Unit {0}

-- P of the bytes that may be dropped and of what is wanted then
abbrev pub IfDrop : Read → (ℕ → Want → Type 0) → Type 0
IfDrop (Drop used want) P = P used want
IfDrop _ P = Unit {0}

-- some bytes are dropped
abbrev pub IsDrop : Read → Type 0
IsDrop (Drop used want) = Unit {0}
IsDrop _ = ⊥

-- the bytes begin with the item, which takes so many of them
abbrev pub BeginsWith : Profile → List ℕ → Item × ℕ → Type 0
BeginsWith profile bytes (item, used) = (used ≤ length bytes) × Spells profile (take used bytes) item

-- they begin with none
abbrev pub BeginsWithNone : Profile → List ℕ → Type 0
BeginsWithNone profile bytes = (found : Item × ℕ) → ¬ BeginsWith profile bytes found

-- the text that was dropped and so many of the bytes spell the item
abbrev pub EndsItem : Profile → List ℕ → List ℕ → Item × ℕ → Type 0
EndsItem profile dropped bytes (item, used) = (used ≤ length bytes) × Spells profile (dropped ++ take used bytes) item

-- an item that is told is spelled by what was dropped and the bytes that it takes
abbrev pub TellsItem : Profile → Want → List ℕ → Read → Type 0
TellsItem profile want bytes read = (dropped : List ℕ) → Fits profile want dropped bytes → IfSome (item_read read) (EndsItem profile dropped bytes)

-- more is wanted only where nothing is spelled as yet
abbrev pub TellsMore : Profile → Want → List ℕ → Read → Type 0
TellsMore profile want bytes read = (dropped : List ℕ) → Fits profile want dropped bytes → IfMore read (BeginsWithNone profile (dropped ++ bytes))

-- some bytes are dropped, and the text with them fits what is wanted then
abbrev pub TellsDrop : Profile → Want → List ℕ → Read → Type 0
TellsDrop profile want bytes read = (dropped : List ℕ) → Fits profile want dropped bytes →
    IfDrop read (λ used next. (1 ≤ used) × (used ≤ length bytes) × Fits profile next (dropped ++ take used bytes) (drop used bytes))

-- the most bytes that may have to wait: a longest line, a longest body, and one of the two bytes after it
abbrev pub longest_unfinished : ℕ
longest_unfinished = longest_line + longest_body + 1

-- the front of the rest, which begins at place start, completes the item, which ends at place end
abbrev pub CompletesFront : Result Meaning Fault → ℕ → List ℕ → Item × ℕ → Type 0
CompletesFront meaning start rest (item, end) =
    (taken : ℕ) × (end ≡ start + taken) × (taken ≤ length rest) × Completes meaning (take taken rest) item

-- it is a put line with a body that is too large, and the body and two bytes are wanted
abbrev pub DropsBig : Result Meaning Fault → Want → Type 0
DropsBig (Ok (WithBody pri delay ttr size)) want = (want ≡ Big (size + 2)) × (longest_body < size)
DropsBig _ want = ⊥

-- it is a put line whose body isn't too large, and the body and the two bytes after it aren't all there
abbrev pub AwaitsBody : Result Meaning Fault → List ℕ → Type 0
AwaitsBody (Ok (WithBody pri delay ttr size)) rest = (size ≤ longest_body) × (length rest < size + 2)
AwaitsBody _ rest = ⊥

-- all bytes, or all but a carriage return that stands last
abbrev pub IsBeforeCr : List ℕ → ℕ → Type 0
IsBeforeCr bytes n = ((n ≡ length bytes) × (EndsWithCr bytes → ⊥)) ⊎ ((n + 1 ≡ length bytes) × EndsWithCr bytes)

-- no line ends within the bytes of a longest line
abbrev pub NoLineEnds : List ℕ → Type 0
NoLineEnds bytes = IsLine (take longest_line bytes)

-- this line is the first, and the rest follows its CR LF
abbrev pub IsFirstLine : List ℕ → List ℕ → List ℕ → Type 0
IsFirstLine bytes line rest = IsLine line × (bytes ≡ line ++ (crlf ++ rest))

-- more bytes are wanted: of a line that may yet end in time, or of the body of a put; where nothing came of the rest of a
-- line that is too long, or a carriage return alone; where nothing came of a body that is too large
abbrev pub Awaits : Profile → Want → List ℕ → Type 0
Awaits profile Line bytes =
    (NoLineEnds bytes × (length bytes < longest_line))
    ⊎ ((line rest : List ℕ) × IsFirstLine bytes line rest × AwaitsBody (meaning profile line) rest)
Awaits profile Rest bytes = (bytes ≡ []) ⊎ (bytes ≡ codes "\r")
Awaits profile (Big n) bytes = (bytes ≡ []) × (0 < n)

-- so many bytes are dropped, and this is wanted then: of a line that is too long, all but one of the bytes of a longest
-- line; the whole line of a put whose body is too large; of the rest of a line that is too long, all but a last carriage
-- return; of a body that is too large, all that came
abbrev pub IsDropped : Profile → Want → List ℕ → ℕ → Want → Type 0
IsDropped profile Line bytes used next =
    (NoLineEnds bytes × (longest_line ≤ length bytes) × (used + 1 ≡ longest_line) × (next ≡ Rest))
    ⊎ ((line rest : List ℕ) × IsFirstLine bytes line rest × DropsBig (meaning profile line) next × (used ≡ length (line_text line)))
IsDropped profile Rest bytes used next = IsLine bytes × IsBeforeCr bytes used × (0 < used) × (next ≡ Rest)
IsDropped profile (Big n) bytes used next = (used ≡ length bytes) × (0 < used) × (used < n) × (next ≡ Big (n - used))

-- what is told is what is due: more are awaited, some are dropped, or neither
abbrev pub IsDue : Profile → Want → List ℕ → Read → Type 0
IsDue profile want bytes More = Awaits profile want bytes
IsDue profile want bytes (Drop used next) = IsDropped profile want bytes used next
IsDue profile want bytes _ = (Awaits profile want bytes → ⊥) × ((used : ℕ) (next : Want) → IsDropped profile want bytes used next → ⊥)

-- the same of the rest after a line with this meaning
abbrev pub IsRestDue : Result Meaning Fault → List ℕ → Read → Type 0
IsRestDue meaning rest More = AwaitsBody meaning rest
IsRestDue meaning rest (Drop used next) = DropsBig meaning next
IsRestDue meaning rest _ = (AwaitsBody meaning rest → ⊥) × ((next : Want) → DropsBig meaning next → ⊥)

-- What is told of the front of these bytes to who waits for this.
pub record TellsFront {E : Type 0} (profile : Profile) (want : Want) (bytes : List ℕ) (result : Result Read E) : Type 0 where
  pub item : IfOk result (TellsItem profile want bytes)
  pub more : IfOk result (TellsMore profile want bytes)
  pub drop : IfOk result (TellsDrop profile want bytes)
  -- where what was dropped and some of the bytes spell an item, it is told, or bytes are dropped
  pub only : IfOk result (λ read. (dropped : List ℕ) (found : Item × ℕ) → Fits profile want dropped bytes →
      EndsItem profile dropped bytes found → IsDrop read ⊎ (item_read read ≡ Some found))
  pub awaits : IfOk result (λ read. (read ≡ More) ↔ Awaits profile want bytes)
  pub dropped : IfOk result (λ read. (used : ℕ) (next : Want) → (read ≡ Drop used next) ↔ IsDropped profile want bytes used next)
  pub bound : IfOk result (λ read. IfMore read (length bytes ≤ longest_unfinished))
  -- only the body of a put and the name of a tube take memory
  pub memory : OnErr result ((want ≡ Line) × ((found : Item × ℕ) × TakesMemory found.0 × BeginsWith profile bytes found))
