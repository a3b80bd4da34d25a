-- What a text is where it ends.
use Rattle.std.proofs.Common.{◌≡◌, ℕ, inl, inr, List, [], ◌∷◌, ◌++◌, take, drop, refl, sym, ap, subst}
use Rattle.std.proofs.Common.{◌∙◌, IsTrue, append_assoc, append-nil}
use Rattle.std.proofs.lemmas.List.{take_at, drop_at}
use Rattle.std.specs.List.{AllByRecursion}
use Rattle.object.specs.declared.command.Command.{Command}
use Rattle.bean_words.specs.declared.op.Op.{Op}
use Rattle.chronicle_text.specs.Lines.{NoFeed, text_of_lines}
use Rattle.command_log.specs.declared.reader.LogReader.{LogReader}
use Rattle.command_log.specs.declared.stage.Stage.TheVariants.{Head, BadHead, Right, Wrong, Damaged}
use Rattle.command_log.specs.declared.whole.Whole.{Whole}
use Rattle.command_log.specs.Lines.{IsRightLogLine, IsWrongLogLine}
use Rattle.command_log.specs.Progress.{BeginsOtherwise, GoesWrong, HasRead, StandsAfter}
use Rattle.command_log.specs.Reading.{EndsInHead, HasBadHead, HasRightLine, IsDamagedAt, IsLineStart, IsLog, IsWholeLog}
use Rattle.command_log.specs.Text.{head_line, log_text}
use Rattle.command_log.proofs.Cuts.{behind_line, no_line_inside, one_front_line}
use Rattle.command_log.proofs.Spelled.{head_is_line}
use Rattle.command_log.proofs.Steps.{begun_otherwise, damaged_on}

-- ---- no right line stands behind

none_in_tail : (tail : List ℕ) → NoFeed tail → HasRightLine tail → ⊥
none_in_tail tail none h = no_line_inside tail h.before h.line h.rest none h.is_line h.cut

-- the first line isn't right, and what begins behind it isn't, either
none_from : (line more before : List ℕ) (h : HasRightLine (line ++ more)) → IsWrongLogLine line
    → (HasRightLine more → ⊥) → before ≡ h.before → IsLineStart before → ⊥
none_from line more before h wrong none same (inl empty) =
    let cut = one_front_line h.line line h.rest more h.is_line wrong.is_line
    (sym (h.cut ∙ ap (λ t. t ++ (h.line ++ h.rest)) (sym same ∙ empty))) in
    wrong.not_right (subst IsRightLogLine cut.0 h.right)
none_from line more before h wrong none same (inr (front, end)) =
    let t = behind_line line more front (h.line ++ h.rest) wrong.is_line (h.cut ∙ ap (λ t. t ++ (h.line ++ h.rest)) (sym same ∙ end)) in
    none record {
      before = t.before;
      line = h.line;
      rest = h.rest;
      is_line = h.is_line;
      right = h.right;
      starts = t.starts;
      cut = t.cut;
    }

pub none_behind : (lines : List (List ℕ)) (tail : List ℕ) → AllByRecursion IsWrongLogLine lines
    → NoFeed tail → HasRightLine (text_of_lines lines ++ tail) → ⊥
none_behind [] tail wrong none h = none_in_tail tail none h
none_behind (line ∷ lines) tail wrong none h =
    let later = text_of_lines lines ++ tail in
    let here = subst HasRightLine (append_assoc line (text_of_lines lines) tail) h in
    none_from line later here.before here wrong.0 (none_behind lines tail wrong.1 none) refl here.starts

-- ---- a log

whole_log : (text rest : List ℕ) (whole : Whole) (commands : List (Command Op)) → IsLog whole commands
    → text ≡ log_text whole.version whole.members commands ++ rest → (HasRightLine rest → ⊥) → IsWholeLog text whole commands
whole_log text rest whole commands log cut none =
    let said = log_text whole.version whole.members commands in
    record {
      log = log;
      begins = ap (take whole.bytes) cut ∙ take_at said rest whole.bytes (sym log.bytes);
      ends = λ h. none (subst HasRightLine (ap (drop whole.bytes) cut ∙ drop_at said rest whole.bytes (sym log.bytes)) h);
    }

pub ends_right : (text lines tail : List ℕ) (whole : Whole) (commands : List (Command Op)) → text ≡ lines ++ tail → NoFeed tail
    → IsLog whole commands → lines ≡ log_text whole.version whole.members commands → IsWholeLog text whole commands
ends_right text lines tail whole commands cut none log same =
    whole_log text tail whole commands log (cut ∙ ap (λ t. t ++ tail) same) (none_in_tail tail none)

pub ends_wrong : (text lines tail : List ℕ) (whole : Whole) (commands : List (Command Op)) → text ≡ lines ++ tail → NoFeed tail
    → IsLog whole commands → GoesWrong (log_text whole.version whole.members commands) lines → IsWholeLog text whole commands
ends_wrong text lines tail whole commands cut none log far =
    let wrong = far.wrong ∷ far.more in
    whole_log text (text_of_lines wrong ++ tail) whole commands log
    (cut ∙ ap (λ t. t ++ tail) far.cut ∙ append_assoc (log_text whole.version whole.members commands) (text_of_lines wrong) tail)
    (none_behind wrong tail far.are_wrong none)

-- ---- none

pub ends_otherwise : (text : List ℕ) → BeginsOtherwise text → HasBadHead text
ends_otherwise text h = record {
  no_head = λ version weights rest members same.
      h.no_head version weights members
      (one_front_line (head_line version weights) h.line rest h.rest (head_is_line version weights members) h.is_line (sym same ∙ h.cut)).0;
  not_begun = λ begun.
      let head = head_is_line begun.version begun.weights begun.members in
      let cut = one_front_line (head_line begun.version begun.weights) h.line [] (h.rest ++ begun.rest) head h.is_line
      (append-nil (head_line begun.version begun.weights) ∙ begun.cut ∙ ap (λ t. t ++ begun.rest) h.cut ∙ append_assoc h.line h.rest begun.rest) in
      h.no_head begun.version begun.weights begun.members cut.0;
}

ends_unlike : (text : List ℕ) → NoFeed text → (EndsInHead text → ⊥) → HasBadHead text
ends_unlike text none unlike = record {
  no_head = λ version weights rest members cut.
      no_line_inside text [] (head_line version weights) rest none (head_is_line version weights members) cut;
  not_begun = unlike;
}

-- ---- what a reader says of them

at_start : (reader : LogReader) (text : List ℕ) (commands : List (Command Op)) (h : HasRead reader text commands) → reader.stage ≡ Head → text ≡ h.tail
at_start reader text commands h same =
    let stands = subst (λ s. StandsAfter s h.lines commands) same h.stands in h.cut ∙ ap (λ t. t ++ h.tail) stands.0

pub says_begun : (reader : LogReader) (text : List ℕ) (commands : List (Command Op)) → HasRead reader text commands
    → reader.stage ≡ Head → IsTrue reader.begun → EndsInHead text
says_begun reader text commands h same begun =
    subst EndsInHead (sym (at_start reader text commands h same)) ((h.begun same).0 begun)

pub says_unlike : (reader : LogReader) (text : List ℕ) (commands : List (Command Op)) → HasRead reader text commands
    → reader.stage ≡ Head → (IsTrue reader.begun → ⊥) → HasBadHead text
says_unlike reader text commands h same unlike =
    subst HasBadHead (sym (at_start reader text commands h same)) (ends_unlike h.tail h.no_feed (λ begun. unlike ((h.begun same).1 begun)))

pub says_otherwise : (reader : LogReader) (text : List ℕ) (commands : List (Command Op)) → HasRead reader text commands
    → reader.stage ≡ BadHead → HasBadHead text
says_otherwise reader text commands h same =
    let stands = subst (λ s. StandsAfter s h.lines commands) same h.stands in
    ends_otherwise text (subst BeginsOtherwise (sym h.cut) (begun_otherwise h.lines h.tail stands))

pub says_right : (reader : LogReader) (text : List ℕ) (commands : List (Command Op)) (whole : Whole) → HasRead reader text commands
    → reader.stage ≡ Right whole → IsWholeLog text whole commands
says_right reader text commands whole h same =
    let stands = subst (λ s. StandsAfter s h.lines commands) same h.stands in
    ends_right text h.lines h.tail whole commands h.cut h.no_feed stands.0 stands.1

pub says_wrong : (reader : LogReader) (text : List ℕ) (commands : List (Command Op)) (whole : Whole) → HasRead reader text commands
    → reader.stage ≡ Wrong whole → IsWholeLog text whole commands
says_wrong reader text commands whole h same =
    let stands = subst (λ s. StandsAfter s h.lines commands) same h.stands in
    ends_wrong text h.lines h.tail whole commands h.cut h.no_feed stands.0 stands.1

pub says_damaged : (reader : LogReader) (text : List ℕ) (commands : List (Command Op)) (n : ℕ) → HasRead reader text commands
    → reader.stage ≡ Damaged n → IsDamagedAt n text
says_damaged reader text commands n h same =
    let stands = subst (λ s. StandsAfter s h.lines commands) same h.stands in
    subst (IsDamagedAt n) (sym h.cut) (damaged_on n h.lines h.tail stands)
