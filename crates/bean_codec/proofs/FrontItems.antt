-- Whether some beginning of a text spells an item.
use Rattle.std.proofs.Common.{◌≡◌, ◌⊎◌, inl, inr, ℕ, ◌+◌, ◌≤◌, List, [], ◌∷◌, ◌++◌, Ok, Err, Result, length, take, drop}
use Rattle.std.proofs.Common.{refl, sym, ap, subst, ◌∙◌, append_assoc, length-append, length-take, arith}
use Rattle.std.proofs.lemmas.Bool.{cases_eq, cases_lt}
use Rattle.std.proofs.lemmas.List.{take-append-drop}
use Rattle.std.proofs.Math.Seq.{take-append-add}
use Rattle.bean_codec.specs.declared.profile.Profile.{Profile}
use Rattle.bean_codec.specs.declared.request.Fault.{Fault}
use Rattle.bean_codec.specs.declared.line.Meaning.{Meaning}
use Rattle.bean_codec.specs.declared.line.Meaning.TheVariants.{Whole, WithBody}
use Rattle.bean_codec.specs.Lines.{crlf, IsLine}
use Rattle.bean_codec.specs.Grammar.{Item, Spells, Completes, meaning, put_item}
use Rattle.bean_codec.specs.Reads.{BeginsWith, BeginsWithNone}
use Rattle.bean_codec.proofs.LineCuts.{one_line}

-- the text is a line, its CR LF and a rest
abbrev IsCut : List ℕ → List ℕ → List ℕ → Type 0
IsCut text line rest = text ≡ line ++ (crlf ++ rest)

short : (text line rest : List ℕ) → length text ≤ 1 → IsCut text line rest → ⊥
short text line rest few e = let f = ap (λ bytes. length bytes) e in omega (arith, length-append line (crlf ++ rest), length-append crlf rest)

line_cons : (b c : ℕ) (more line rest : List ℕ) → ((b ≡ 13) × (c ≡ 10) → ⊥) → IsLine line → IsCut (c ∷ more) line rest → IsLine (b ∷ line)
line_cons b c more [] rest apart h e = tt
line_cons b c more (d ∷ line) rest apart h e = ((λ ends. apart (cc, let same : c ≡ d = cc in let last : d ≡ 10 = cc in same ∙ last)), h)

no_line : (b c : ℕ) (more line rest : List ℕ) → ((b ≡ 13) × (c ≡ 10) → ⊥)
    → ((line rest : List ℕ) → IsCut (c ∷ more) line rest → ⊥) → IsCut (b ∷ c ∷ more) line rest → ⊥
no_line b c more [] rest apart none e = apart (cc, cc)
no_line b c more (d ∷ line) rest apart none e = none line rest cc

abbrev FirstLine : List ℕ → Type 0
FirstLine text = ((line rest : List ℕ) × IsLine line × IsCut text line rest) ⊎ ((line rest : List ℕ) → IsCut text line rest → ⊥)

next_line : (b c : ℕ) (more : List ℕ) → ((b ≡ 13) × (c ≡ 10) → ⊥) → FirstLine (c ∷ more) → FirstLine (b ∷ c ∷ more)
next_line b c more apart (inl found) = inl (b ∷ found.0, found.1, line_cons b c more found.0 found.1 apart found.2 found.3, ap (λ bytes. b ∷ bytes) found.3)
next_line b c more apart (inr none) = inr (λ line rest e. no_line b c more line rest apart none e)

-- the first line of a text, or there is none
first_line : (text : List ℕ) → FirstLine text
first_line [] = inr (λ line rest e. short [] line rest (omega arith) e)
first_line (b ∷ []) = inr (λ line rest e. short (b ∷ []) line rest (omega arith) e)
first_line (b ∷ c ∷ more) =
    elim (cases_eq b 13) as (λ v. FirstLine (b ∷ c ∷ more)) [
      | inl cr ↦ elim (cases_eq c 10) as (λ v. FirstLine (b ∷ c ∷ more)) [
        | inl lf ↦ inl ([], more, tt, cc)
        | inr other ↦ next_line b c more (λ both. other both.1) (first_line (c ∷ more))
      ]
      | inr other ↦ next_line b c more (λ both. other both.0) (first_line (c ∷ more))
    ]

-- a cut of a beginning is a cut of the text
longer : (text line rest : List ℕ) (n : ℕ) → IsCut (take n text) line rest → IsCut text line (rest ++ drop n text)
longer text line rest n e =
    sym (take-append-drop n text) ∙ ap (λ bytes. bytes ++ drop n text) e ∙ append_assoc line (crlf ++ rest)
    (drop n text) ∙ ap (λ bytes. line ++ bytes) (append_assoc crlf rest (drop n text))

-- a beginning that ends in the rest
shorter : (text line rest : List ℕ) (n : ℕ) → IsCut text line rest → IsCut (take (length line + (2 + n)) text) line (take n rest)
shorter text line rest n e =
    ap (take (length line + (2 + n))) e ∙ take-append-add line (crlf ++ rest) (2 + n) ∙ ap (λ bytes. line ++ bytes) (take-append-add crlf rest n)

module _ (profile : Profile) where
  -- the text begins with an item, or with none
  abbrev pub HasFront : List ℕ → Type 0
  HasFront text = ((found : Item × ℕ) × BeginsWith profile text found) ⊎ BeginsWithNone profile text

  completed : (text line rest : List ℕ) (n : ℕ) (item : Item) → IsLine line → IsCut text line rest → n ≤ length rest
      → Completes (meaning profile line) (take n rest) item → HasFront text
  completed text line rest n item l e within c =
      let long = ap (λ bytes. length bytes) e in
      let fits : length line + (2 + n) ≤ length text = omega (arith, length-append line (crlf ++ rest), length-append crlf rest) in
      inl ((item, length line + (2 + n)), (fits, record { line = line; rest = take n rest; is_line = l; cut = shorter text line rest n e; completes = c }))

  pub too_short : (text line rest : List ℕ) (pri delay ttr size : ℕ) → IsLine line → IsCut text line rest
      → meaning profile line ≡ Ok (WithBody pri delay ttr size) → length rest + 1 ≤ size + 2 → BeginsWithNone profile text
  too_short text line rest pri delay ttr size l e says few found begins =
      let item = found.0 in
      let n = found.1 in
      let s : Spells profile (take n text) item = begins.1 in
      let same = one_line line s.line rest (s.rest ++ drop n text) l s.is_line (sym e ∙ longer text s.line s.rest n s.cut) in
      let c : Completes (Ok (WithBody pri delay ttr size)) s.rest item =
      subst (λ m. Completes m s.rest item) (ap (meaning profile) (sym same.0) ∙ says) s.completes in
      let whole = ap (λ bytes. length bytes) same.1 in
      omega (arith, c.0, length-append s.rest (drop n text))

  after_line : (text line rest : List ℕ) → IsLine line → IsCut text line rest → (m : Result Meaning Fault) → meaning profile line ≡ m → HasFront text
  after_line text line rest l e (Ok (Whole request)) says =
      completed text line rest 0 (Ok request) l e (omega arith)
      (subst (λ m. Completes m [] (Ok request)) (sym says) (refl, refl))
  after_line text line rest l e (Err fault) says =
      completed text line rest 0 (Err fault) l e (omega arith)
      (subst (λ m. Completes m [] (Err fault)) (sym says) (refl, refl))
  after_line text line rest l e (Ok (WithBody pri delay ttr size)) says =
      elim (cases_lt (length rest) (size + 2)) as (λ v. HasFront text) [
        | inl few ↦ inr (too_short text line rest pri delay ttr size l e says (omega arith))
        | inr enough ↦
            let item = put_item pri delay ttr size (take (size + 2) rest) in
            let long = length-take (size + 2) rest in
            completed text line rest (size + 2) item l e enough (subst (λ m. Completes m (take (size + 2) rest) item) (sym says) (omega arith, refl))
      ]

  pub front : (text : List ℕ) → HasFront text
  front text =
      elim (first_line text) as (λ v. HasFront text) [
        | inl found ↦ after_line text found.0 found.1 found.2 found.3 (meaning profile found.0) refl
        | inr none ↦ inr (λ found begins.
            let s : Spells profile (take found.1 text) found.0 = begins.1 in
            none s.line (s.rest ++ drop found.1 text) (longer text s.line s.rest found.1 s.cut))
      ]
