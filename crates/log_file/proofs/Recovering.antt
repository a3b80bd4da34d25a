-- A log that is read in pieces, and what is told of it at the end.
use Rattle.std.proofs.Common.{◌≡◌, ℕ, ◌+◌, ◌-◌, ◌<◌, ◌≤◌, ◌^◌, List, [], ◌++◌, length}
use Rattle.std.proofs.Common.{Option, Result, Ok, Err, IfOk, IfErr, refl, sym, ap, subst, arith}
use Rattle.std.proofs.Common.{append-nil, length-append, length-take}
use Rattle.std.proofs.KnownBytes.{Consumes-nil, Consumes-trans}
use Rattle.std.specs.Io.KnownBytes.{Consumes, IsAtEnd}
use Rattle.object.specs.declared.command.Command.{Command}
use Rattle.bean_words.specs.declared.op.Op.{Op}
use Rattle.command_log.specs.declared.reader.LogReader.{LogReader}
use Rattle.command_log.specs.declared.whole.Whole.{Whole}
use Rattle.command_log.specs.Progress.{HasRead, ReadsOn}
use Rattle.command_log.specs.Reading.{IsWholeLog}
use Rattle.log_file.specs.declared.faults.ReadFault.{ReadFault}
use Rattle.log_file.specs.declared.faults.ReadFault.TheVariants as fault
use Rattle.log_file.specs.declared.reader.Recovered.{Recovered}
use Rattle.log_file.specs.Faults.{IsFaultOf, IsOfReading, IsReadFault}
use Rattle.log_file.specs.Reads.{IsRecovered, ReadsAll, ReadsSome}

-- so many bytes were read, and gave these commands
pub record IsReadTo (before after : Option (List ℕ)) (log : LogReader) (commands : List (Command Op)) (bytes : ℕ) : Type 0 where
  pub text : List ℕ
  pub read : HasRead log text commands
  pub count : bytes ≡ length text
  pub consumed : Consumes before after text

starts : (before : Option (List ℕ)) (log : LogReader) → HasRead log [] [] → IsReadTo before before log [] 0
starts before log read = record { text = []; read = read; count = refl; consumed = Consumes-nil before }

pub started : (before : Option (List ℕ)) (log : LogReader) (commands : List (Command Op)) → commands ≡ [] → HasRead log [] []
    → IsReadTo before before log commands 0
started before log commands none read = subst (λ c. IsReadTo before before log c 0) (sym none) (starts before log read)

pub goes_on : (before at after : Option (List ℕ)) (log next : LogReader) (old new : List (Command Op)) (bytes more : ℕ) (piece : List ℕ)
    → IsReadTo before at log old bytes → Consumes at after piece → more ≡ bytes + length piece → more < 2 ^ 64 → ReadsOn log old piece next new
    → IsReadTo before after next new more
goes_on before at after log next old new bytes more piece h taken sum fits reads =
    let count = h.count in
    let long = length-append h.text piece in
    let short : length (h.text ++ piece) < 2 ^ 64 = omega arith in
    record {
      text = h.text ++ piece;
      read = reads h.text [] h.read short;
      count = omega arith;
      consumed = Consumes-trans before at after h.text piece h.consumed taken;
    }

pub is_too_long : (before at after : Option (List ℕ)) (log : LogReader) (commands : List (Command Op)) (bytes : ℕ) (piece : List ℕ)
    → IsReadTo before at log commands bytes → Consumes at after piece → 2 ^ 64 ≤ bytes + length piece
    → ReadsSome before after (λ text. 2 ^ 64 ≤ length text)
is_too_long before at after log commands bytes piece h taken long =
    let count = h.count in
    let sum = length-append h.text piece in
    (h.text ++ piece, Consumes-trans before at after h.text piece h.consumed taken, omega arith)

-- ---- at the end

-- a read gave nothing
pub at_end : (before at after : Option (List ℕ)) (log : LogReader) (commands : List (Command Op)) (bytes : ℕ) → IsReadTo before at log commands bytes
    → Consumes at after [] → IsReadTo before after log commands bytes
at_end before at after log commands bytes h none = record {
  text = h.text;
  read = h.read;
  count = h.count;
  consumed = subst (Consumes before after) (append-nil h.text) (Consumes-trans before at after h.text [] h.consumed none);
}

pub tells_log : (before after : Option (List ℕ)) (log : LogReader) (commands : List (Command Op)) (bytes : ℕ) (result : Result Recovered ReadFault)
    → IsReadTo before after log commands bytes → IsAtEnd after
    → IfOk result (λ recovered. (text : List ℕ) → HasRead log text commands → bytes ≡ length text → IsRecovered text recovered)
    → IfOk result (λ recovered. ReadsAll before after (λ text. IsRecovered text recovered))
tells_log before after log commands bytes (Ok recovered) h end says = (h.text, h.consumed, (end, says h.text h.read h.count))
tells_log before after log commands bytes (Err e) h end says = tt

read_fault : (before after : Option (List ℕ)) (log : LogReader) (commands : List (Command Op)) (bytes : ℕ) (f : ReadFault)
    (h : IsReadTo before after log commands bytes) → IsAtEnd after → IsFaultOf h.text f → IsReadFault before after f
read_fault before after log commands bytes fault.OutOfMemory h end says = tt
read_fault before after log commands bytes (fault.ReadFailed e) h end says = tt
read_fault before after log commands bytes fault.TooLong h end says = absurd says
read_fault before after log commands bytes (fault.NoLog f) h end says = (h.text, h.consumed, (end, says))

pub of_reading : (before after : Option (List ℕ)) (f : ReadFault) → IsOfReading f → IsReadFault before after f
of_reading before after fault.OutOfMemory h = tt
of_reading before after (fault.ReadFailed e) h = tt
of_reading before after fault.TooLong h = absurd h
of_reading before after (fault.NoLog f) h = absurd h

pub tells_fault : (before after : Option (List ℕ)) (log : LogReader) (commands : List (Command Op)) (bytes : ℕ) (result : Result Recovered ReadFault)
    → IsReadTo before after log commands bytes → IsAtEnd after
    → IfErr result (λ f. (text : List ℕ) → HasRead log text commands → IsFaultOf text f)
    → IfErr result (IsReadFault before after)
tells_fault before after log commands bytes (Ok recovered) h end says = tt
tells_fault before after log commands bytes (Err f) h end says = read_fault before after log commands bytes f h end (says h.text h.read)

-- the log is a beginning of what was read
whole_within : (text : List ℕ) (whole : Whole) (commands : List (Command Op)) → IsWholeLog text whole commands → whole.bytes ≤ length text
whole_within text whole commands h =
    let bytes = h.log.bytes in
    let begins = ap length h.begins in
    let long = length-take whole.bytes text in
    omega arith

pub is_recovered : (text : List ℕ) (recovered : Recovered) (bytes : ℕ) → IsWholeLog text recovered.whole recovered.commands.items
    → bytes ≡ length text → recovered.behind ≡ bytes - recovered.whole.bytes → IsRecovered text recovered
is_recovered text recovered bytes h count behind =
    let within = whole_within text recovered.whole recovered.commands.items h in
    record { log = h; behind = omega arith }
