-- A reader that reads on.
use Rattle.std.proofs.Common.{◌≡◌, ℕ, suc, ◌-◌, ◌<◌, ◌^◌, List, [], ◌∷◌, ◌++◌, length, take, refl, sym, ap, subst, ◌∙◌, arith}
use Rattle.std.proofs.Common.{Bool, true, IsTrue, ◌↔◌, Result, Ok, Err, append-nil, append_assoc, length-append}
use Rattle.std.specs.Prelude.{IfOk}
use Rattle.object.specs.declared.command.Command.{Command}
use Rattle.bean_words.specs.declared.op.Op.{Op}
use Rattle.chronicle_text.specs.Lines.{NoFeed}
use Rattle.chronicle_text.proofs.spelling.EntryLines.{feeds}
use Rattle.command_log.specs.declared.line.TheConstants.{MAX_LINE}
use Rattle.command_log.specs.declared.reader.LogReader.{LogReader}
use Rattle.command_log.specs.declared.stage.Stage.{Stage}
use Rattle.command_log.specs.declared.stage.Stage.TheVariants.{Head}
use Rattle.command_log.specs.Lines.{IsLogLine}
use Rattle.command_log.specs.Progress.{HasRead, ReadsOn, StandsAfter, StepsOn, beginning_kept}
use Rattle.command_log.specs.Reading.{EndsInHead}
use Rattle.command_log.proofs.Begun.{begun_kept, kept_begun, nothing_begins}
use Rattle.command_log.proofs.Kept.{take_more}

-- an empty text begins a head
empty_begins : (reader : LogReader) → reader.begun ≡ true → IsTrue reader.begun ↔ EndsInHead []
empty_begins reader begun = ((λ _. nothing_begins), (λ _. begun))

pub has_read_nothing : (reader : LogReader) → reader.line.items ≡ [] → reader.begun ≡ true → reader.stage ≡ Head → HasRead reader [] []
has_read_nothing reader empty begun head = record {
  lines = [];
  tail = [];
  cut = refl;
  no_feed = tt;
  keeps = empty;
  begun = λ _. empty_begins reader begun;
  stands = subst (λ s. StandsAfter s [] []) (sym head) (refl, refl);
}

-- ---- a part of a line, and its end

-- what is kept of the part behind what is kept
abbrev pub with_part : List ℕ → List ℕ → List ℕ
with_part shown part = shown ++ take (suc MAX_LINE - length shown) part

kept_more : (shown tail part : List ℕ) → shown ≡ beginning_kept tail → with_part shown part ≡ beginning_kept (tail ++ part)
kept_more shown tail part same = ap (λ s. with_part s part) same ∙ take_more (suc MAX_LINE) tail part

longer_line : (tail line : List ℕ) → NoFeed tail → IsLogLine line → IsLogLine (tail ++ line)
longer_line tail line none is = record {
  said = tail ++ is.said;
  no_feed = feeds tail is.said none is.no_feed;
  is = ap (λ t. tail ++ t) is.is ∙ sym (append_assoc tail is.said (10 ∷ []));
}

-- whether a text begins a head can be told from what is kept of it
begun_of : (shown text : List ℕ) (begun : Bool) → shown ≡ beginning_kept text → (IsTrue begun ↔ EndsInHead shown) → (IsTrue begun ↔ EndsInHead text)
begun_of shown text begun same h = (
  (λ is. kept_begun text (subst EndsInHead same (h.0 is))),
  (λ is. h.1 (subst EndsInHead (sym same) (begun_kept text is))),
)

pub reads_part : (before after : LogReader) (commands : List (Command Op)) (part : List ℕ) → NoFeed part
    → after.line.items ≡ with_part before.line.items part → after.stage ≡ before.stage
    → (after.stage ≡ Head → (IsTrue after.begun ↔ EndsInHead after.line.items)) → ReadsOn before commands part after commands
reads_part before after commands part none keeps same begun text taken h fits = record {
  lines = h.lines;
  tail = h.tail ++ part;
  cut = ap (λ t. t ++ part) h.cut ∙ append_assoc h.lines h.tail part;
  no_feed = feeds h.tail part h.no_feed none;
  keeps = keeps ∙ kept_more before.line.items h.tail part h.keeps;
  begun = λ head. begun_of after.line.items (h.tail ++ part) after.begun (keeps ∙ kept_more before.line.items h.tail part h.keeps) (begun head);
  stands = subst (λ s. StandsAfter s h.lines (taken ++ commands)) (sym same) h.stands;
}

pub reads_line : (before after : LogReader) (old new : List (Command Op)) (line shown : List ℕ) (stage : Stage) → IsLogLine line
    → shown ≡ with_part before.line.items line → StepsOn before.stage old shown stage new
    → after.line.items ≡ [] → after.begun ≡ true → after.stage ≡ stage → ReadsOn before old line after new
reads_line before after old new line shown stage is keeps steps empty begun same text taken h fits =
    let full = h.tail ++ line in
    let cut : text ++ line ≡ h.lines ++ full = ap (λ t. t ++ line) h.cut ∙ append_assoc h.lines h.tail line in
    let next = steps h.lines full taken (longer_line h.tail line h.no_feed is) (keeps ∙ kept_more before.line.items h.tail line h.keeps)
    (subst (λ (t : List ℕ). length t < 2 ^ 64) cut fits) h.stands in
    record {
      lines = h.lines ++ full;
      tail = [];
      cut = cut ∙ sym (append-nil (h.lines ++ full));
      no_feed = tt;
      keeps = empty;
      begun = λ _. empty_begins after begun;
      stands = subst (λ s. StandsAfter s (h.lines ++ full) (taken ++ new)) (sym same) next;
    }

-- ---- one after the other

reads_nothing : (reader : LogReader) (commands : List (Command Op)) → ReadsOn reader commands [] reader commands
reads_nothing reader commands text taken h fits = subst (λ t. HasRead reader t (taken ++ commands)) (sym (append-nil text)) h

reads_both : (a b c : LogReader) (x y z : List (Command Op)) (first second : List ℕ) → ReadsOn a x first b y → ReadsOn b y second c z
    → ReadsOn a x (first ++ second) c z
reads_both a b c x y z first second f g text taken h fits =
    let order = append_assoc text first second in
    let both : length ((text ++ first) ++ second) < 2 ^ 64 = subst (λ (t : List ℕ). length t < 2 ^ 64) (sym order) fits in
    let one : length (text ++ first) < 2 ^ 64 = omega (arith, both, length-append (text ++ first) second) in
    subst (λ t. HasRead c t (taken ++ z)) order (g (text ++ first) taken (f text taken h one) both)

-- a reader has come so far in a piece
pub record IsFed (before : LogReader) (old : List (Command Op)) (piece rest : List ℕ) (now : LogReader) (new : List (Command Op)) : Type 0 where
  pub read : List ℕ
  pub cut : piece ≡ read ++ rest
  pub reads : ReadsOn before old read now new

pub fed_nothing : (reader : LogReader) (commands : List (Command Op)) (piece : List ℕ) → IsFed reader commands piece piece reader commands
fed_nothing reader commands piece = record { read = []; cut = refl; reads = reads_nothing reader commands }

pub fed_line : (before now next : LogReader) (old new newer : List (Command Op)) (piece rest line more : List ℕ)
    → IsFed before old piece rest now new → rest ≡ line ++ more → ReadsOn now new line next newer → IsFed before old piece more next newer
fed_line before now next old new newer piece rest line more fed cut reads = record {
  read = fed.read ++ line;
  cut = fed.cut ∙ ap (λ t. fed.read ++ t) cut ∙ sym (append_assoc fed.read line more);
  reads = reads_both before now next old new newer fed.read line fed.reads reads;
}

fed_all : (before now after : LogReader) (old new : List (Command Op)) (piece rest : List ℕ) → IsFed before old piece rest now new
    → ReadsOn now new rest after new → ReadsOn before old piece after new
fed_all before now after old new piece rest fed reads =
    subst (λ t. ReadsOn before old t after new) (sym fed.cut) (reads_both before now after old new new fed.read rest fed.reads reads)

pub fed_result : {E : Type 0} (before now : LogReader) (old new : List (Command Op)) (piece rest : List ℕ) (r : Result LogReader E)
    → IsFed before old piece rest now new → IfOk r (λ after. (commands : List (Command Op)) → ReadsOn now commands rest after commands)
    → IfOk r (λ after. ReadsOn before old piece after new)
fed_result before now old new piece rest (Ok after) fed h = fed_all before now after old new piece rest fed (h new)
fed_result before now old new piece rest (Err e) fed h = tt
