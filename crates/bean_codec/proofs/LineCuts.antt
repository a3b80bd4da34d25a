-- Where the first CR LF of a text stands.
use Rattle.std.proofs.Common.{◌≡◌, ℕ, zero, suc, ◌+◌, ◌<◌, ◌≤◌, List, [], ◌∷◌, ◌++◌, length, take, drop, get_or, Some, refl, ap, sym, arith}
use Rattle.bstr.specs.Find.{OccursAt, FindsNeedle}
use Rattle.bean_codec.specs.Lines.{crlf, IsLine}

-- what follows the first byte of a line is a line
pub IsLine-tail : (b : ℕ) (line : List ℕ) → IsLine (b ∷ line) → IsLine line
IsLine-tail b [] h = tt
IsLine-tail b (c ∷ rest) h = h.1

-- a line whose text begins with CR LF is empty
empty_line : (line x y : List ℕ) → IsLine line → crlf ++ x ≡ line ++ (crlf ++ y) → ([] ≡ line) × (x ≡ y)
empty_line [] x y h e = (refl, cc)
empty_line (b ∷ []) x y h e = absurd (cc)
empty_line (b ∷ c ∷ rest) x y h e = absurd (h.0 cc)

-- a text has one first line
pub one_line : (l m x y : List ℕ) → IsLine l → IsLine m → l ++ (crlf ++ x) ≡ m ++ (crlf ++ y) → (l ≡ m) × (x ≡ y)
one_line [] m x y hl hm e = empty_line m x y hm e
one_line (b ∷ l) [] x y hl hm e = let h = empty_line (b ∷ l) y x hl (sym e) in (sym h.0, sym h.1)
one_line (b ∷ l) (c ∷ m) x y hl hm e =
    let h = one_line l m x y (IsLine-tail b l hl) (IsLine-tail c m hm) cc in
    let head : b ≡ c = cc in
    (cc, h.1)

first_two : (rest : List ℕ) (j : ℕ) → j < 2 → get_or (crlf ++ rest) (0 + j) 0 ≡ get_or crlf j 0
first_two rest zero l = refl
first_two rest (suc zero) l = refl
first_two rest (suc (suc j)) l = absurd (omega arith)

-- CR LF in front
occurs_here : (rest : List ℕ) → OccursAt (crlf ++ rest) crlf 0
occurs_here rest = record { fits = omega arith; reads = first_two rest }

-- one byte further on
occurs_later : (b : ℕ) (xs : List ℕ) (k : ℕ) → OccursAt xs crlf k → OccursAt (b ∷ xs) crlf (suc k)
occurs_later b xs k h = let fits = h.fits in record {
  fits = omega arith;
  reads = λ j l. let e : suc k + j ≡ suc (k + j) = omega arith in rw e (h.reads j l);
}

-- and one back
occurs_sooner : (b : ℕ) (xs : List ℕ) (k : ℕ) → OccursAt (b ∷ xs) crlf (suc k) → OccursAt xs crlf k
occurs_sooner b xs k h = let fits = h.fits in record {
  fits = omega arith;
  reads = λ j l. let e : suc k + j ≡ suc (k + j) = omega arith in rw e at (h.reads j l);
}

-- CR LF occurs where it stands
occurs_after : (line rest : List ℕ) → OccursAt (line ++ (crlf ++ rest)) crlf (length line)
occurs_after [] rest = occurs_here rest
occurs_after (b ∷ line) rest = occurs_later b (line ++ (crlf ++ rest)) (length line) (occurs_after line rest)

-- and stands where it occurs
cut_from_occurs : (bytes : List ℕ) (k : ℕ) → OccursAt bytes crlf k → bytes ≡ take k bytes ++ (crlf ++ drop (k + 2) bytes)
cut_from_occurs [] zero h = absurd (let fits = h.fits in omega arith)
cut_from_occurs (b ∷ []) zero h = absurd (let fits = h.fits in omega arith)
cut_from_occurs (b ∷ c ∷ rest) zero h =
    let carriage_return : b ≡ 13 = h.reads 0 (omega arith) in
    let line_feed : c ≡ 10 = h.reads 1 (omega arith) in
    cc
cut_from_occurs [] (suc k) h = absurd (let fits = h.fits in omega arith)
cut_from_occurs (b ∷ bytes) (suc k) h =
    let e : suc k + 2 ≡ suc (k + 2) = omega arith in
    rw e (ap (λ t. b ∷ t) (cut_from_occurs bytes k (occurs_sooner b bytes k h)))

front_of : (b c : ℕ) (rest : List ℕ) → b ∷ c ∷ [] ≡ crlf → OccursAt (b ∷ c ∷ rest) crlf 0
front_of b c rest e =
    let carriage_return : b ≡ 13 = cc in
    let line_feed : c ≡ 10 = cc in
    rw (carriage_return, line_feed) (occurs_here rest)

-- where it occurs at no earlier place, what stands before that place is a line
pub IsLine-take : (bytes : List ℕ) (k : ℕ) → ((j : ℕ) → j < k → ¬ OccursAt bytes crlf j) → IsLine (take k bytes)
IsLine-take bytes zero h = tt
IsLine-take [] (suc k) h = tt
IsLine-take (b ∷ bytes) (suc zero) h = tt
IsLine-take (b ∷ []) (suc (suc k)) h = tt
IsLine-take (b ∷ c ∷ rest) (suc (suc k)) h =
    let later = λ (j : ℕ) (l : j < suc k) (o : OccursAt (c ∷ rest) crlf j). h (suc j) (omega arith) (occurs_later b (c ∷ rest) j o) in
    (λ e. h 0 (omega arith) (front_of b c rest e), IsLine-take (c ∷ rest) (suc k) later)

-- the first CR LF stands at place k
abbrev pub IsCutAt : List ℕ → ℕ → Type 0
IsCutAt bytes k = IsLine (take k bytes) × (bytes ≡ take k bytes ++ (crlf ++ drop (k + 2) bytes)) × (k + 2 ≤ length bytes)

-- the first place of CR LF ends a line
pub first_cut : (bytes : List ℕ) (k : ℕ) → FindsNeedle bytes crlf 0 (Some k) → IsCutAt bytes k
first_cut bytes k found =
    (IsLine-take bytes k (λ j l. found.0.before j (omega arith) l), cut_from_occurs bytes k found.1, found.1.fits)
