-- What a session over streams has read, asked and written.
use Rattle.std.specs.Prelude.{◌≡◌, ◌≤◌, ◌⊎◌, ◌+◌, ◌^◌, ℕ, true, List, [], ◌∷◌, ◌++◌, length, Option, Result, Ok, Err, IfOk}
use Rattle.std.specs.Io.KnownBytes.{Consumes, Appends}
use Rattle.bean_words.specs.declared.op.Op.{Op}
use Rattle.bean_words.specs.declared.reply.Reply.{Reply}
use Rattle.bean_codec.specs.declared.profile.Profile.{Profile}
use Rattle.bean_codec.specs.declared.request.Request.TheVariants.{Do}
use Rattle.bean_codec.specs.Grammar.{Item}
use Rattle.session.specs.declared.faults.End.{End}
use Rattle.session.specs.declared.faults.ServiceFault.{ServiceFault}
use Rattle.session.specs.declared.faults.SessionFault.{SessionFault}
use Rattle.session.specs.declared.faults.SessionFault.TheVariants.{OutOfMemory, ReadFailed, WriteFailed, ServiceStopped}
use Rattle.bean_codec.specs.Reads.{BeginsWithNone}
use Rattle.session.specs.Held.{FrontTakesRoom}
use Rattle.session.specs.Items.{Response, Reads, ReadsFirst, operations, told_text}
use Rattle.session.specs.Items.Response.{Replied, Refused}
use Rattle.session.specs.StreamStates.{StreamState}

-- a service by its asks: it before, the operation, its result, and it after
abbrev pub Asks : Type 0 → Type 1
Asks S = S → Op → Result Reply ServiceFault → S → Type 0

-- and by its end: it before, the result, and it after
abbrev pub Closes : Type 0 → Type 1
Closes S = S → Result Unit ServiceFault → S → Type 0

-- the result that is this answer
abbrev pub result_of : Response → Result Reply ServiceFault
result_of (Replied reply) = Ok reply
result_of Refused = Err ServiceFault.Refused

-- the service was asked these operations in turn, and answered so
abbrev pub Asked : {S : Type 0} → Asks S → S → List Op → List Response → S → Type 0
Asked asks old [] [] new = old ≡ new
Asked asks old [] (answer ∷ answers) new = ⊥
Asked asks old (op ∷ ops) [] new = ⊥
Asked asks old (op ∷ ops) (answer ∷ answers) new = (next : _) × asks old op (result_of answer) next × Asked asks next ops answers new

-- all items up to the end were answered, and the output is the transcript
abbrev pub Whole : {S : Type 0} → Profile → Asks S → S → S → List ℕ → List ℕ → End → Type 0
Whole profile asks old new input output end =
    (items : List Item) ×
    (answers : List Response) ×
    Reads profile input items end ×
    Asked asks old (operations items) answers new ×
    (output ≡ told_text items answers)

-- the next ask after some first items was answered Stopped, and the output is what is told for these items
abbrev pub StopsAt : {S : Type 0} → Profile → Asks S → S → S → List ℕ → List ℕ → Type 0
StopsAt profile asks old new input output =
    (items : List Item) ×
    (answers : List Response) ×
    (op : Op) ×
    (rest : List ℕ) ×
    (last : _) ×
    ReadsFirst profile input (items ++ Ok (Do op) ∷ []) rest ×
    Asked asks old (operations items) answers last ×
    asks last op (Err ServiceFault.Stopped) new ×
    (output ≡ told_text items answers)

-- the output is what is told for some first items, and at most one operation more was asked
abbrev pub Partly : {S : Type 0} → Profile → Asks S → S → S → List ℕ → List ℕ → Type 0
Partly profile asks old new input output =
    (items more : List Item) ×
    (answers : List Response) ×
    (rest : List ℕ) ×
    ReadsFirst profile input (items ++ more) rest ×
    (length (operations more) ≤ 1) ×
    Asked asks old (operations (items ++ more)) answers new ×
    (output ≡ told_text items answers)

-- the most bytes of a read
abbrev pub longest_piece : ℕ
longest_piece = 4096

-- memory was short, behind items of which these are not told yet, and in front of this rest: for the next item; for the
-- answer to the last operation; or for the next piece, where no item is left. Or the bytes that were read and the answers
-- are 2^64 - 1 or more
pub data Shortage (profile : Profile) (more : List Item) (rest : List ℕ) (count : ℕ) : Type 0 where
  item : FrontTakesRoom profile rest → Shortage profile more rest count
  answer : length (operations more) ≡ 1 → Shortage profile more rest count
  piece : BeginsWithNone profile rest → Shortage profile more rest count
  turns : 2 ^ 64 ≤ count + 1 → Shortage profile more rest count

-- the same as Partly, and memory was refused there
abbrev pub RunsShort : {S : Type 0} → Profile → Asks S → S → S → List ℕ → List ℕ → Type 0
RunsShort profile asks old new input output =
    (items more : List Item) ×
    (answers : List Response) ×
    (rest : List ℕ) ×
    ReadsFirst profile input (items ++ more) rest ×
    (length (operations more) ≤ 1) ×
    Asked asks old (operations (items ++ more)) answers new ×
    (output ≡ told_text items answers) ×
    Shortage profile more rest (length input + length answers)

-- the output is a beginning of what is told for some first items, whose operations were asked, and it has, whole, what
-- is told for those before the last operation
abbrev pub BreaksOff : {S : Type 0} → Profile → Asks S → S → S → List ℕ → List ℕ → Type 0
BreaksOff profile asks old new input output =
    (items more : List Item) ×
    (answers : List Response) ×
    (rest part left : List ℕ) ×
    ReadsFirst profile input (items ++ more) rest ×
    (length (operations more) ≤ 1) ×
    Asked asks old (operations (items ++ more)) answers new ×
    (output ≡ told_text items answers ++ part) ×
    (output ++ left ≡ told_text (items ++ more) answers)

-- how a session ended before it closed the service
abbrev pub Conversed : {S : Type 0} → Profile → Asks S → S → S → List ℕ → List ℕ → Result End SessionFault → Type 0
Conversed profile asks old new input output (Ok end) = Whole profile asks old new input output end
Conversed profile asks old new input output (Err OutOfMemory) = RunsShort profile asks old new input output
Conversed profile asks old new input output (Err ReadFailed) = Whole profile asks old new input output End.Eof
Conversed profile asks old new input output (Err WriteFailed) = BreaksOff profile asks old new input output
Conversed profile asks old new input output (Err ServiceStopped) = StopsAt profile asks old new input output

-- of the service as it then stood this is so, and then it was closed, with this result
abbrev pub ClosedAfter : {S : Type 0} → Closes S → (S → Type 0) → Result Unit ServiceFault → S → Type 0
ClosedAfter closes before result new = (last : _) × before last × closes last result new

-- the same, whatever closing it gave
abbrev pub ClosedOnce : {S : Type 0} → Closes S → (S → Type 0) → S → Type 0
ClosedOnce closes before new = (result : Result Unit ServiceFault) × ClosedAfter closes before result new

-- the reader gave an input and the writer took an output, of which this is so
abbrev pub Over : Option (List ℕ) → Option (List ℕ) → Option (List ℕ) → Option (List ℕ) → (List ℕ → List ℕ → Type 0) → Type 0
Over left rest held holds run = (input output : List ℕ) × Consumes left rest input × Appends held holds output × run input output

-- the same of what was read and written between two states of the streams
abbrev pub Meanwhile : StreamState → StreamState → (List ℕ → List ℕ → Type 0) → Type 0
Meanwhile before after run = Over before.remaining after.remaining before.contents after.contents run

-- all was told, and then closing the service gave this; where the end of the input ended it, the reader has ended
abbrev pub ClosedBadly : {S : Type 0} → Profile → Asks S → Closes S → S → S → StreamState → Result Unit ServiceFault → List ℕ → List ℕ → Type 0
ClosedBadly profile asks closes old new after closed input output =
    (end : End) × ClosedAfter closes (λ s. Whole profile asks old s input output end) closed new × (end ≡ End.Eof → after.reader_ended ≡ true)

-- What a service was asked and its client was told, from these states of the service and of the streams to those, where
-- the session ended so. In each case the service was closed once.
pub record Served {S : Type 0} (profile : Profile) (asks : Asks S) (closes : Closes S) (old new : S)
    (before after : StreamState) (result : Result End SessionFault) : Type 0 where
  -- all was asked and told, and the close went well
  pub ok : IfOk result (λ end. Meanwhile before after (λ input output. ClosedAfter closes (λ s. Whole profile asks old s input output end) (Ok tt) new))
  -- all that was read was asked and told
  pub all_was_told : result ≡ Err ReadFailed
      → Meanwhile before after (λ input output. ClosedOnce closes (λ s. Whole profile asks old s input output End.Eof) new)
  -- a beginning of what was to be told was written
  pub breaks_off : result ≡ Err WriteFailed → Meanwhile before after (λ input output. ClosedOnce closes (λ s. BreaksOff profile asks old s input output) new)
  -- the service stopped at an ask, and what came before was told; or all was told, and it stopped at its close
  pub stopped : result ≡ Err ServiceStopped
      → Meanwhile before after (λ input output.
      ClosedOnce closes (λ s. StopsAt profile asks old s input output) new
      ⊎ ClosedBadly profile asks closes old new after (Err ServiceFault.Stopped) input output)
  -- what is told for some first items was told; or all was told, and the close was refused
  pub out_of_memory : result ≡ Err OutOfMemory
      → Meanwhile before after (λ input output.
      ClosedOnce closes (λ s. Partly profile asks old s input output) new
      ⊎ ClosedBadly profile asks closes old new after (Err ServiceFault.Refused) input output)
  -- and in the first case memory was short there, and the reader has ended no more than before
  pub ran_short : result ≡ Err OutOfMemory
      → Meanwhile before after (λ input output.
      (ClosedOnce closes (λ s. RunsShort profile asks old s input output) new × (after.reader_ended ≡ before.reader_ended))
      ⊎ ClosedBadly profile asks closes old new after (Err ServiceFault.Refused) input output)
