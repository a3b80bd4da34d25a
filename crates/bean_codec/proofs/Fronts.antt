-- The item at the front of some bytes, by their first line and the rest after it.
use Rattle.std.proofs.Common.{◌≡◌, inr, ℕ, ◌+◌, ◌≤◌, Option, Some, None, Result, Ok, Err, IfOk, List, [], ◌++◌, length, take, drop, refl, ap, sym, ◌∙◌, arith}
use Rattle.std.proofs.Math.Seq.{take-append-add, take-append_seam}
use Rattle.std.proofs.lemmas.List.{append_assoc, length-append, length-drop, length-take-le, take-append-drop}
use Rattle.std.specs.Option.{IfSome}
use Rattle.bean_codec.specs.declared.profile.Profile.{Profile}
use Rattle.bean_codec.specs.declared.request.Fault.{Fault}
use Rattle.bean_codec.specs.declared.line.Meaning.{Meaning}
use Rattle.bean_codec.specs.declared.line.Meaning.TheVariants.{Whole, WithBody}
use Rattle.bean_codec.specs.declared.reader.Read.{Read}
use Rattle.bean_codec.specs.declared.reader.Read.TheVariants.{More, Drop, Request, Bad}
use Rattle.bean_codec.specs.Lines.{crlf, IsLine}
use Rattle.bean_codec.specs.Grammar.{Item, meaning, put_item}
use Rattle.bean_codec.specs.Memory.{TakesMemory, LineHasName}
use Rattle.bean_codec.specs.Reads.{item_read, IfMore, BeginsWith, BeginsWithNone, CompletesFront}
use Rattle.bean_codec.proofs.LineCuts.{IsCutAt, one_line}
use Rattle.bean_codec.proofs.LongLines.{no_cut_line}

-- a cut of the front is a cut of the whole
whole_cut : (bytes : List ℕ) (n : ℕ) (line rest : List ℕ) → take n bytes ≡ line ++ (crlf ++ rest) →
    bytes ≡ line ++ (crlf ++ (rest ++ drop n bytes))
whole_cut bytes n line rest e =
    sym (take-append-drop n bytes)
    ∙ (ap (λ t. t ++ drop n bytes) e
    ∙ (append_assoc line (crlf ++ rest) (drop n bytes) ∙ ap (λ t. line ++ t) (append_assoc crlf rest (drop n bytes))))

-- a line begins with no item
pub no_item : (profile : Profile) (text : List ℕ) → IsLine text → BeginsWithNone profile text
no_item profile text h (item, n) (inside, s) =
    no_cut_line text s.line (s.rest ++ drop n text) h (whole_cut text n s.line s.rest s.cut)

-- what bytes begin with whose first CR LF stands at place k
module _ (profile : Profile) (bytes : List ℕ) (k : ℕ) (cut : IsCutAt bytes k) where
  abbrev line : List ℕ
  line = take k bytes

  abbrev rest : List ℕ
  rest = drop (k + 2) bytes

  line_len : length line ≡ k
  line_len = length-take-le k bytes (omega arith)

  -- it begins with what the rest completes
  pub begins_from_completes : (found : Item × ℕ) → CompletesFront (meaning profile line) (k + 2) rest found → BeginsWith profile bytes found
  begins_from_completes (item, end) h =
      let end_is : end ≡ length line + (2 + h.0) = omega (arith, line_len) in
      let text : take end bytes ≡ line ++ (crlf ++ take h.0 rest) =
      ap (λ t. take end t) cut.1 ∙ (ap (λ n. take n (line ++ (crlf ++ rest))) end_is
      ∙ (take-append-add line (crlf ++ rest) (2 + h.0) ∙ ap (λ t. line ++ t) (take-append-add crlf rest h.0))) in
      (omega (arith, length-drop (k + 2) bytes), record { line = line; rest = take h.0 rest; is_line = cut.0; cut = text; completes = h.3 })

  -- and with nothing else
  pub completes_from_begins : (found : Item × ℕ) → BeginsWith profile bytes found → CompletesFront (meaning profile line) (k + 2) rest found
  completes_from_begins (item, n) (inside, s) =
      let same = one_line s.line line (s.rest ++ drop n bytes) rest s.is_line cut.0 (sym (whole_cut bytes n s.line s.rest s.cut) ∙ cut.1) in
      let front : take (length s.rest) rest ≡ s.rest =
      ap (λ t. take (length s.rest) t) (sym same.1) ∙ take-append_seam s.rest (drop n bytes) in
      let end_is : n ≡ k + 2 + length s.rest =
      omega (
        arith,
        sym (length-take-le n bytes inside) ∙ ap length s.cut,
        length-append s.line
            (crlf ++ s.rest),
        length-append crlf s.rest,
        ap length same.0,
        line_len,
      ) in
      let room : length s.rest ≤ length rest = omega (arith, ap length same.1, length-append s.rest (drop n bytes)) in
      (length s.rest, end_is, room, rw (← same.0, front) s.completes)

-- a put line whose body is there is completed to a put
pub put_completes : (m : Result Meaning Fault) (pri delay ttr size start : ℕ) (rest : List ℕ) → m ≡ Ok (WithBody pri delay ttr size) →
    TakesMemory (put_item pri delay ttr size (take (size + 2) rest)) → size + 2 ≤ length rest →
    (put : Item × ℕ) × TakesMemory put.0 × CompletesFront m start rest put
put_completes m pri delay ttr size start rest same put inside = (
  (put_item pri delay ttr size (take (size + 2) rest), start + (size + 2)),
  put,
  (size + 2, refl, inside, rw same (length-take-le (size + 2) rest inside, refl)),
)

-- a line with a name is a request with a name
pub name_completes : (m : Result Meaning Fault) (start : ℕ) (rest : List ℕ) → LineHasName m →
    (found : Item × ℕ) × TakesMemory found.0 × CompletesFront m start rest found
name_completes (Ok (Whole request)) start rest named = ((Ok request, start), inr named, (0, omega arith, omega arith, (refl, refl)))
name_completes (Ok (WithBody pri delay ttr size)) start rest named = absurd named
name_completes (Err fault) start rest named = absurd named

-- a line that ends at place k, and its CR LF
pub cut_text : (bytes : List ℕ) (k : ℕ) → IsCutAt bytes k → take (k + 2) bytes ≡ take k bytes ++ (crlf ++ [])
cut_text bytes k cut =
    let line = take k bytes in
    let rest = drop (k + 2) bytes in
    let len = length-take-le k bytes (omega arith) in
    let end_is : k + 2 ≡ length line + (2 + 0) = omega arith in
    ap (take (k + 2)) cut.1 ∙ ap (λ n. take n (line ++ (crlf ++ rest))) end_is ∙ take-append-add line (crlf ++ rest) (2 + 0)

-- what was told of what was read, where one fact of an item gives another
module _ (P Q : Item × ℕ → Type 0) where
  some_from : (read : Option (Item × ℕ)) → ((found : Item × ℕ) → P found → Q found) → IfSome read P → IfSome read Q
  some_from None step h = tt
  some_from (Some found) step h = step found h

  more_read : (read : Read) → ((found : Item × ℕ) → Q found → P found) →
      IfMore read ((found : Item × ℕ) → ¬ (P found)) → IfMore read ((found : Item × ℕ) → ¬ (Q found))
  more_read More step h = λ found q. h found (step found q)
  more_read (Drop used want) step h = tt
  more_read (Request request used) step h = tt
  more_read (Bad fault used) step h = tt

  pub item_from : {E : Type 0} (r : Result Read E) → ((found : Item × ℕ) → P found → Q found) →
      IfOk r (λ read. IfSome (item_read read) P) → IfOk r (λ read. IfSome (item_read read) Q)
  item_from (Ok read) step h = some_from (item_read read) step h
  item_from (Err e) step h = tt

  pub more_from : {E : Type 0} (r : Result Read E) → ((found : Item × ℕ) → Q found → P found) →
      IfOk r (λ read. IfMore read ((found : Item × ℕ) → ¬ (P found))) →
      IfOk r (λ read. IfMore read ((found : Item × ℕ) → ¬ (Q found)))
  more_from (Ok read) step h = more_read read step h
  more_from (Err e) step h = tt
