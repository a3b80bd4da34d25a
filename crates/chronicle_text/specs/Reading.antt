-- Which text is read, and where reading stops.
use Rattle.std.specs.Prelude.{◌≡◌, ℕ, suc, List, [], ◌∷◌, ◌++◌, map, length}
use Rattle.object.specs.Lists.{IsBeginning}
use Rattle.bean_words.specs.declared.op.Op.{Op}
use Rattle.bean_words.specs.declared.reply.Reply.{Reply}
use Rattle.recorder.specs.Chronicles.{Chronicle}
use Rattle.chronicle_text.specs.Dump.{head_lines, happening_line, order_line, end_line, dump_text}
use Rattle.chronicle_text.specs.Happenings.{happenings}
use Rattle.chronicle_text.specs.Lines.{text_of_lines}
use Rattle.chronicle_text.specs.Values.{IsChronicleValue}

-- the lines of a chronicle's text, each with its line feed
abbrev pub dump_lines : Chronicle Op Reply → List (List ℕ)
dump_lines c =
    head_lines c.members ++
    (map happening_line (happenings c.submitted c.answers) ++
    (map order_line c.order ++ (end_line ∷ [])))

-- some chronicle's text begins with these lines
pub record BeginsDump (lines : List (List ℕ)) : Type 0 where
  pub chronicle : Chronicle Op Reply
  pub is_value : IsChronicleValue chronicle
  pub begins : IsBeginning lines (dump_lines chronicle)

-- The text is no chronicle's. Line n, counted from 1, is the first outside the form: the lines before it begin a chronicle's
-- text, and none that could come next stands where they end, which may be the text's end.
pub record IsBadLine (n : ℕ) (text : List ℕ) : Type 0 where
  pub before : List (List ℕ)
  pub rest : List ℕ
  pub number : n ≡ suc (length before)
  pub cut : text ≡ text_of_lines before ++ rest
  pub begins : BeginsDump before
  pub stops : (line more : List ℕ) → rest ≡ line ++ more → BeginsDump (before ++ (line ∷ [])) → ⊥
  pub unfinished : (c : Chronicle Op Reply) → IsChronicleValue c → dump_text c ≡ text → ⊥
