-- Where lines begin and end.
use Rattle.std.proofs.Common.{◌≡◌, ℕ, zero, suc, ◌<◌, inl, inr, List, [], ◌∷◌, ◌++◌, length, take, Some, None}
use Rattle.std.proofs.Common.{refl, sym, ap, subst, ◌∙◌, arith, codes, append_assoc, append-nil}
use Rattle.std.proofs.lemmas.Bool.{eq-eqb, eqb-true}
use Rattle.std.specs.List.{AllByRecursion}
use Rattle.bstr.specs.Find.{IsFirstByte, Nowhere, Passes, is_byte}
use Rattle.chronicle_text.specs.Lines.{NoFeed, text_of_lines}
use Rattle.chronicle_text.proofs.spelling.EntryLines.{one_cut}
use Rattle.command_log.specs.Lines.{IsLogLine}
use Rattle.command_log.specs.Reading.{IsLineStart}

-- ---- line feeds

feed_inside : (said rest : List ℕ) → NoFeed (said ++ (10 ∷ rest)) → ⊥
feed_inside [] rest h = h.0 refl
feed_inside (b ∷ said) rest h = feed_inside said rest h.1

-- a line and what stands behind it, by what it says
pub spelled : (line rest : List ℕ) (is : IsLogLine line) → line ++ rest ≡ is.said ++ (10 ∷ rest)
spelled line rest is = ap (λ t. t ++ rest) is.is ∙ append_assoc is.said (10 ∷ []) rest

-- two lines in front of one text are one
pub one_front_line : (a b x y : List ℕ) → IsLogLine a → IsLogLine b → a ++ x ≡ b ++ y → (a ≡ b) × (x ≡ y)
one_front_line a b x y h k same =
    let cut = one_cut h.said k.said x y h.no_feed k.no_feed (sym (spelled a x h) ∙ same ∙ spelled b y k) in
    (h.is ∙ ap (λ t. t ++ codes "\n") cut.0 ∙ sym k.is, cut.1)

-- where no line feed stands, no line does
pub no_line_inside : (text before line rest : List ℕ) → NoFeed text → IsLogLine line → text ≡ before ++ (line ++ rest) → ⊥
no_line_inside text before line rest none is cut =
    feed_inside (before ++ is.said) rest (subst NoFeed
    (cut ∙ ap (λ t. before ++ t) (spelled line rest is) ∙ sym (append_assoc before is.said (10 ∷ rest))) none)

-- ---- the first line of a text

before_feed : (text : List ℕ) (end : ℕ) → end < length text → Nowhere (Passes (is_byte 10) text) 0 end → NoFeed (take end text)
before_feed text zero inside none = tt
before_feed [] (suc end) inside none = tt
before_feed (b ∷ text) (suc end) inside none = (
  (λ same. none 0 (omega arith) (omega arith) (eq-eqb b 10 same)),
  before_feed text end (omega arith) (λ k low high passes. none (suc k) (omega arith) (omega arith) passes),
)

up_to_feed : (text : List ℕ) (end : ℕ) → end < length text → Passes (is_byte 10) text end → take (suc end) text ≡ take end text ++ (10 ∷ [])
up_to_feed [] end inside here = absurd (omega arith)
up_to_feed (b ∷ text) zero inside here = ap (λ (c : ℕ). c ∷ []) (eqb-true b 10 here)
up_to_feed (b ∷ text) (suc end) inside here = ap (λ t. b ∷ t) (up_to_feed text end (omega arith) here)

pub first_is_line : (text : List ℕ) (end : ℕ) → IsFirstByte (is_byte 10) text (Some end) → IsLogLine (take (suc end) text)
first_is_line text end found = record {
  said = take end text;
  no_feed = before_feed text end found.0.high found.0.before;
  is = up_to_feed text end found.0.high found.1;
}

pub rest_no_feed : (text : List ℕ) → IsFirstByte (is_byte 10) text None → NoFeed text
rest_no_feed [] none = tt
rest_no_feed (b ∷ text) none = (
  (λ same. none 0 (omega arith) (omega arith) (eq-eqb b 10 same)),
  rest_no_feed text (λ k low high passes. none (suc k) (omega arith) (omega arith) passes),
)

-- ---- where lines begin

-- what stands behind a line, cut where a line begins
pub record CutBehind (more rest : List ℕ) : Type 0 where
  pub before : List ℕ
  pub starts : IsLineStart before
  pub cut : more ≡ before ++ rest

behind : (said more front rest : List ℕ) → NoFeed said → said ++ (10 ∷ more) ≡ (front ++ (10 ∷ [])) ++ rest → CutBehind more rest
behind [] more [] rest h same = record { before = []; starts = inl refl; cut = cc }
behind [] more (f ∷ front) rest h same = record { before = front ++ (10 ∷ []); starts = inr (front, refl); cut = cc }
behind (s ∷ said) more [] rest h same = let first : s ≡ 10 = cc in absurd (h.0 first)
behind (s ∷ said) more (f ∷ front) rest h same =
    let later : said ++ (10 ∷ more) ≡ (front ++ (10 ∷ [])) ++ rest = cc in behind said more front rest h.1 later

pub behind_line : (line more front rest : List ℕ) (is : IsLogLine line) → line ++ more ≡ (front ++ (10 ∷ [])) ++ rest → CutBehind more rest
behind_line line more front rest is same = behind is.said more front rest is.no_feed (sym (spelled line more is) ∙ same)

start_behind : (line more : List ℕ) → IsLogLine line → IsLineStart more → IsLineStart (line ++ more)
start_behind line more is (inl none) = inr (is.said, ap (λ t. line ++ t) none ∙ append-nil line ∙ is.is)
start_behind line more is (inr (front, end)) = inr (line ++ front, ap (λ t. line ++ t) end ∙ sym (append_assoc line front (10 ∷ [])))

pub lines_start : (lines : List (List ℕ)) → AllByRecursion IsLogLine lines → IsLineStart (text_of_lines lines)
lines_start [] h = inl refl
lines_start (line ∷ lines) h = start_behind line (text_of_lines lines) h.0 (lines_start lines h.1)
