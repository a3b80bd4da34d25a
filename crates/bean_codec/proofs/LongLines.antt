-- Lines that are too long, and what of them is read at once.
use Rattle.std.proofs.Common.{◌≡◌, ℕ, zero, suc, ◌+◌, ◌<◌, ◌≤◌, List, [], ◌∷◌, ◌++◌, length, take, drop, Some, None}
use Rattle.std.proofs.Common.{Err, refl, ap, sym, subst, ◌∙◌, arith, append_assoc, length-append, length-take}
use Rattle.std.proofs.lemmas.Bool.{lt-ltb}
use Rattle.std.proofs.lemmas.List.{take-take, take_all, take-append-drop, drop-append-le, append-nil}
use Rattle.bstr.specs.Find.{FindsNeedle}
use Rattle.bean_codec.specs.declared.profile.Profile.{Profile}
use Rattle.bean_codec.specs.declared.request.Fault.TheVariants.{BadFormat}
use Rattle.bean_codec.specs.Lines.{crlf, line_text, IsLine}
use Rattle.bean_codec.specs.Grammar.{meaning, longest_line}
use Rattle.bean_codec.proofs.LineCuts.{IsLine-tail, IsLine-take, first_cut, IsCutAt}

-- the beginning of a line is a line
pub IsLine-front : (xs ys : List ℕ) → IsLine (xs ++ ys) → IsLine xs
IsLine-front [] ys h = tt
IsLine-front (b ∷ []) ys h = tt
IsLine-front (b ∷ c ∷ xs) ys h = (h.0, IsLine-front (c ∷ xs) ys h.1)

-- two lines are one where no CR LF stands across
pub IsLine-join : (xs ys : List ℕ) → IsLine (xs ++ take 1 ys) → IsLine ys → IsLine (xs ++ ys)
IsLine-join [] ys h k = k
IsLine-join (b ∷ []) [] h k = tt
IsLine-join (b ∷ []) (c ∷ ys) h k = (h.0, k)
IsLine-join (b ∷ c ∷ xs) ys h k = (h.0, IsLine-join (c ∷ xs) ys h.1 k)

-- the same with the beginning of the second
pub IsLine-join_take : (xs ys : List ℕ) (k : ℕ) → IsLine (xs ++ take 1 ys) → IsLine (take k ys) → IsLine (xs ++ take k ys)
IsLine-join_take xs ys zero h k = rw (append-nil xs) (IsLine-front xs (take 1 ys) h)
IsLine-join_take xs [] (suc n) h k = h
IsLine-join_take xs (c ∷ ys) (suc n) h k = IsLine-join xs (c ∷ take n ys) h k

-- a line is not cut
pub no_cut_line : (text line rest : List ℕ) → IsLine text → text ≡ line ++ (crlf ++ rest) → ⊥
no_cut_line [] line rest h e = omega (arith, ap length e, length-append line (crlf ++ rest))
no_cut_line (b ∷ []) [] rest h e = cc
no_cut_line (b ∷ c ∷ text) [] rest h e = h.0 cc
no_cut_line (b ∷ text) (d ∷ line) rest h e = no_cut_line text line rest (IsLine-tail b text h) cc

-- where no CR LF was found there is a line
pub found_none : (bytes : List ℕ) → FindsNeedle bytes crlf 0 None → IsLine bytes
found_none bytes none =
    subst IsLine (take_all (length bytes) bytes (omega arith))
    (IsLine-take bytes (length bytes) (λ j l occurs. let fits = occurs.fits in none j (omega arith) (omega arith) occurs))

-- what was found in a beginning stands in the whole
pub found_front : (bytes : List ℕ) (n k : ℕ) → FindsNeedle (take n bytes) crlf 0 (Some k) → IsCutAt bytes k × (k + 2 ≤ n)
found_front bytes n k found =
    let cut = first_cut (take n bytes) k found in
    let short = length-take n bytes in
    let low : k + 2 ≤ n = omega arith in
    let line : take k (take n bytes) ≡ take k bytes = take-take k n bytes (omega arith) in
    let rest : drop (k + 2) bytes ≡ drop (k + 2) (take n bytes) ++ drop n bytes =
    ap (drop (k + 2)) (sym (take-append-drop n bytes)) ∙ drop-append-le (k + 2) (take n bytes) (drop n bytes) cut.2 in
    let whole : bytes ≡ take k bytes ++ (crlf ++ drop (k + 2) bytes) =
    sym (take-append-drop n bytes) ∙ ap (λ t. t ++ drop n bytes) cut.1
    ∙ append_assoc (take k (take n bytes)) (crlf ++ drop (k + 2) (take n bytes)) (drop n bytes)
    ∙ ap (λ t. take k (take n bytes) ++ t) (append_assoc crlf (drop (k + 2) (take n bytes)) (drop n bytes))
    ∙ ap (λ t. t ++ (crlf ++ (drop (k + 2) (take n bytes) ++ drop n bytes))) line
    ∙ ap (λ t. take k bytes ++ (crlf ++ t)) (sym rest) in
    ((subst IsLine line cut.0, whole, omega arith), low)

-- a line that is too long is a bad format
pub meaning-long : (profile : Profile) (line : List ℕ) → longest_line < length (line_text line) → meaning profile line ≡ Err BadFormat
unfolding meaning
meaning-long profile line long = rw (lt-ltb longest_line (length (line ++ crlf)) long) refl
