-- What a session holds: of the bytes that it was fed, and of the text that it has yet to send.
use Rattle.std.specs.Prelude.{◌≡◌, ◌≤◌, ℕ, ◌+◌, Bool, true, false, List, [], ◌++◌, length, map, Option, None, Some, Result, Ok, Err, IsOk, OnOk, OnErr}
use Rattle.bean_codec.specs.declared.profile.Profile.{Profile}
use Rattle.bean_codec.specs.declared.reader.Want.{Want}
use Rattle.bean_codec.specs.declared.reader.Want.TheVariants.{Line}
use Rattle.bean_codec.specs.declared.request.Fault.{Fault}
use Rattle.bean_codec.specs.declared.request.Request.{Request}
use Rattle.bean_codec.specs.declared.request.Request.TheVariants.{Do, Quit}
use Rattle.bean_codec.specs.Grammar.{Item, Spells}
use Rattle.bean_codec.specs.Memory.{TakesMemory}
use Rattle.bean_codec.specs.Wants.{Fits}
use Rattle.bean_codec.specs.Reads.{BeginsWithNone}
use Rattle.session.specs.Items.{ReadsFirst, told_text}

-- its profile, what its reader waits for, the bytes that it keeps, the text not sent yet, and whether an ask is open; how many bytes lie
-- before these in its two buffers, which were read or sent and not let go of yet; and how many bytes that of what it was fed
-- has room for
pub record Held : Type 0 where
  pub profile : Profile
  pub want : Want
  pub kept : List ℕ
  pub unsent : List ℕ
  pub is_open : Bool
  pub read_len : ℕ
  pub sent_len : ℕ
  pub capacity : ℕ

-- how many bytes its buffers have: that of what it was fed, and that of what it sends
abbrev pub fed_buffer_len : Held → ℕ
fed_buffer_len s = s.read_len + length s.kept

abbrev pub text_buffer_len : Held → ℕ
text_buffer_len s = s.sent_len + length s.unsent

-- holding this and no more, with no ask open and no room
abbrev pub holding : Profile → Want → List ℕ → List ℕ → Held
holding profile want kept unsent = record {
  profile = profile;
  want = want;
  kept = kept;
  unsent = unsent;
  is_open = false;
  read_len = 0;
  sent_len = 0;
  capacity = 0;
}

-- at first it has nothing
abbrev pub nothing_held : Profile → Held
nothing_held profile = holding profile Line [] []

-- these bytes may be kept by a reader that waits for this: some text was dropped before them that fits
abbrev pub MayKeep : Profile → Want → List ℕ → Type 0
MayKeep profile want kept = (dropped : List ℕ) × Fits profile want dropped kept

-- the session stands at the front of this text: it dropped a part of it, which its want fits, and keeps the others
abbrev pub StandsBefore : Held → List ℕ → Type 0
StandsBefore s text = (dropped : List ℕ) × Fits s.profile s.want dropped s.kept × (text ≡ dropped ++ s.kept)

-- behind what it keeps it has room for so many bytes more, once what was read is let go of
abbrev pub HasRoomFor : ℕ → Held → Type 0
HasRoomFor len s = length s.kept + len ≤ s.capacity

-- The piece stands behind what it keeps, unless memory was refused, and it isn't where there was room. What was read is let
-- go of in either case.
pub record Feeds {E : Type 0} (old new : Held) (piece : List ℕ) (result : Result Unit E) : Type 0 where
  pub ok : OnOk result (new ≡ record old { kept = old.kept ++ piece; read_len = 0; capacity = new.capacity })
  pub succeeds : HasRoomFor (length piece) old → IsOk result
  pub err : OnErr result (new ≡ record old { read_len = 0; capacity = new.capacity })

-- an operation waits for its answer
abbrev pub is_asked : Option Request → Bool
is_asked None = false
is_asked (Some (Do op)) = true
is_asked (Some Quit) = false

-- what comes after the faults: a text that begins with no item, or a request, after which the session goes on
abbrev pub ComesTo : Profile → Option Request → Held → List ℕ → Type 0
ComesTo profile None s text = StandsBefore s text × BeginsWithNone profile text
ComesTo profile (Some request) s text =
    (front rest : List ℕ) ×
    (text ≡ front ++ rest) ×
    Spells profile front (Ok request) ×
    StandsBefore s rest

-- the item takes memory: the line of a fault, or what a request keeps
abbrev pub TakesRoom : Item → Type 0
TakesRoom (Ok request) = TakesMemory (Ok request)
TakesRoom (Err fault) = Unit {0}

-- the text begins with such an item
abbrev pub FrontTakesRoom : Profile → List ℕ → Type 0
FrontTakesRoom profile text = (item : Item) × (front rest : List ℕ) × (text ≡ front ++ rest) × Spells profile front item × TakesRoom item

-- the items that are faults
abbrev pub faulty : List Fault → List Item
faulty faults = map Err faults

-- in this profile the faults in front of the text are told, and then comes this
abbrev pub Finds : Profile → Held → Held → List ℕ → Option Request → Type 0
Finds profile old new text found =
    (faults : List Fault) ×
    (rest : List ℕ) ×
    ReadsFirst profile text (faulty faults) rest ×
    (new.unsent ≡ old.unsent ++ told_text (faulty faults) []) ×
    ComesTo profile found new rest
