-- What is due of some bytes: more, a part to drop, or an item, and of these one alone.
use Rattle.std.proofs.Common.{◌≡◌, ◌⊎◌, ◌↔◌, inl, inr, ℕ, ◌+◌, ◌-◌, ◌<◌, ◌≤◌, List, [], ◌∷◌, ◌++◌, length, take, drop}
use Rattle.std.proofs.Common.{Result, Ok, Err, IfOk, refl, ap, sym, subst, ◌∙◌, arith, length-append}
use Rattle.std.proofs.lemmas.Bool.{cases_lt}
use Rattle.std.proofs.lemmas.List.{take_all, length-take-le}
use Rattle.std.proofs.Math.Seq.{take-append-add}
use Rattle.bean_codec.specs.declared.profile.Profile.{Profile}
use Rattle.bean_codec.specs.declared.request.Fault.{Fault}
use Rattle.bean_codec.specs.declared.line.Meaning.{Meaning}
use Rattle.bean_codec.specs.declared.line.Meaning.TheVariants.{Whole, WithBody}
use Rattle.bean_codec.specs.declared.reader.Want.{Want}
use Rattle.bean_codec.specs.declared.reader.Want.TheVariants.{Line, Rest, Big}
use Rattle.bean_codec.specs.declared.reader.Read.{Read}
use Rattle.bean_codec.specs.declared.reader.Read.TheVariants as read
use Rattle.bean_codec.specs.Lines.{crlf, line_text, IsLine}
use Rattle.bean_codec.specs.Grammar.{meaning, longest_line}
use Rattle.bean_codec.specs.Reads.{IfDrop, DropsBig, AwaitsBody, IsBeforeCr, NoLineEnds, IsFirstLine, Awaits, IsDropped, IsDue, IsRestDue}
use Rattle.bean_codec.proofs.LineCuts.{IsCutAt, one_line}
use Rattle.bean_codec.proofs.LongLines.{no_cut_line, meaning-long}

-- a first line that ends in time does end there
pub ends_in_time : (bytes line rest : List ℕ) → length line + 2 ≤ longest_line → IsFirstLine bytes line rest → NoLineEnds bytes → ⊥
ends_in_time bytes line rest short first none =
    let more = longest_line - (length line + 2) in
    let whole : longest_line ≡ length line + (2 + more) = omega arith in
    let cut : take longest_line bytes ≡ line ++ (crlf ++ take more rest) =
    ap (take longest_line) first.1 ∙ ap (λ n. take n (line ++ (crlf ++ rest))) whole ∙ take-append-add line
    (crlf ++ rest) (2 + more) ∙ ap (λ t. line ++ t) (take-append-add crlf rest more) in
    no_cut_line (take longest_line bytes) line (take more rest) none cut

-- a body isn't awaited and dropped
body_apart : (m : Result Meaning Fault) (rest : List ℕ) (next : Want) → AwaitsBody m rest → DropsBig m next → ⊥
body_apart (Ok (WithBody pri delay ttr size)) rest next a d = omega (arith, a.0, d.1)
body_apart (Ok (Whole request)) rest next a d = a
body_apart (Err fault) rest next a d = a

one_big : (m : Result Meaning Fault) (next other : Want) → DropsBig m next → DropsBig m other → next ≡ other
one_big (Ok (WithBody pri delay ttr size)) next other d e = d.0 ∙ sym e.0
one_big (Ok (Whole request)) next other d e = absurd d
one_big (Err fault) next other d e = absurd d

-- the first line is one
same_line : (bytes line rest other more : List ℕ) → IsFirstLine bytes line rest → IsFirstLine bytes other more → (line ≡ other) × (rest ≡ more)
same_line bytes line rest other more f g = one_line line other rest more f.0 g.0 (sym f.1 ∙ g.1)

-- of a few bytes nothing is dropped
nothing_before : (bytes : List ℕ) (n : ℕ) → (bytes ≡ []) ⊎ (bytes ≡ 13 ∷ []) → IsBeforeCr bytes n → 0 < n → ⊥
nothing_before bytes n (inl e) (inl b) some = omega (arith, ap length e, b.0, some)
nothing_before bytes n (inl e) (inr b) some = omega (arith, ap length e, b.0, some)
nothing_before bytes n (inr e) (inl b) some = b.1 ([], e)
nothing_before bytes n (inr e) (inr b) some = omega (arith, ap length e, b.0, some)

one_before : (bytes : List ℕ) (n m : ℕ) → IsBeforeCr bytes n → IsBeforeCr bytes m → n ≡ m
one_before bytes n m (inl a) (inl b) = omega (arith, a.0, b.0)
one_before bytes n m (inl a) (inr b) = absurd (a.1 b.1)
one_before bytes n m (inr a) (inl b) = absurd (b.1 a.1)
one_before bytes n m (inr a) (inr b) = omega (arith, a.0, b.0)

-- where no line ends in the bytes that were looked at
pub none_ends : (bytes : List ℕ) (n : ℕ) → (n ≡ longest_line) ⊎ ((n ≡ length bytes) × (length bytes < longest_line)) → IsLine (take n bytes) → NoLineEnds bytes
none_ends bytes n (inl e) line = subst (λ k. IsLine (take k bytes)) e line
none_ends bytes n (inr (e, few)) line =
    let here : take n bytes ≡ bytes = take_all n bytes (omega (arith, e)) in
    let all : take longest_line bytes ≡ bytes = take_all longest_line bytes (omega (arith, few)) in
    subst IsLine (here ∙ sym all) line

no_byte : (bytes : List ℕ) → length bytes ≤ 0 → bytes ≡ []
no_byte [] none = refl
no_byte (b ∷ bytes) none = absurd (omega arith)

only_cr : (bytes front : List ℕ) → length bytes ≤ 1 → bytes ≡ front ++ 13 ∷ [] → bytes ≡ 13 ∷ []
only_cr bytes [] few e = e
only_cr bytes (b ∷ front) few e = absurd (omega (arith, ap length e, length-append front (13 ∷ [])))

module _ (profile : Profile) where
  -- a line that says something ends in time
  says_short : (line : List ℕ) (m : Meaning) → meaning profile line ≡ Ok m → length line + 2 ≤ longest_line
  says_short line m says =
      elim (cases_lt longest_line (length (line_text line))) as (λ v. length line + 2 ≤ longest_line) [
        | inl long ↦ absurd (let none = meaning-long profile line long in cc)
        | inr short ↦ omega (arith, short, length-append line crlf)
      ]

  awaits_short : (line rest : List ℕ) (m : Result Meaning Fault) → meaning profile line ≡ m → AwaitsBody m rest → length line + 2 ≤ longest_line
  awaits_short line rest (Ok (WithBody pri delay ttr size)) says a = says_short line (WithBody pri delay ttr size) says
  awaits_short line rest (Ok (Whole request)) says a = absurd a
  awaits_short line rest (Err fault) says a = absurd a

  drops_short : (line : List ℕ) (next : Want) (m : Result Meaning Fault) → meaning profile line ≡ m → DropsBig m next → length line + 2 ≤ longest_line
  drops_short line next (Ok (WithBody pri delay ttr size)) says d = says_short line (WithBody pri delay ttr size) says
  drops_short line next (Ok (Whole request)) says d = absurd d
  drops_short line next (Err fault) says d = absurd d

  -- where more are wanted nothing is dropped
  apart : (want : Want) (bytes : List ℕ) (used : ℕ) (next : Want) → Awaits profile want bytes → IsDropped profile want bytes used next → ⊥
  apart Line bytes used next (inl a) (inl d) = omega (arith, a.1, d.1)
  apart Line bytes used next (inl a) (inr (line, rest, first, big, all)) =
      ends_in_time bytes line rest (drops_short line next (meaning profile line) refl big) first a.0
  apart Line bytes used next (inr (line, rest, first, few)) (inl d) =
      ends_in_time bytes line rest (awaits_short line rest (meaning profile line) refl few) first d.0
  apart Line bytes used next (inr (line, rest, first, few)) (inr (other, more, second, big, all)) =
      let same = same_line bytes line rest other more first second in
      body_apart (meaning profile line) rest next few (subst (λ l. DropsBig (meaning profile l) next) (sym same.0) big)
  apart Rest bytes used next a d = nothing_before bytes used a d.1 d.2
  apart (Big n) bytes used next a d = omega (arith, ap length a.0, d.0, d.1)

  -- and what is dropped is one part
  one_drop : (want : Want) (bytes : List ℕ) (used n : ℕ) (next other : Want) → IsDropped profile want bytes used next
      → IsDropped profile want bytes n other → (used ≡ n) × (next ≡ other)
  one_drop Line bytes used n next other (inl d) (inl e) = (omega (arith, d.2, e.2), d.3 ∙ sym e.3)
  one_drop Line bytes used n next other (inl d) (inr (line, rest, first, big, all)) =
      absurd (ends_in_time bytes line rest (drops_short line other (meaning profile line) refl big) first d.0)
  one_drop Line bytes used n next other (inr (line, rest, first, big, all)) (inl e) =
      absurd (ends_in_time bytes line rest (drops_short line next (meaning profile line) refl big) first e.0)
  one_drop Line bytes used n next other (inr (line, rest, first, big, all)) (inr (second, more, follows, large, whole)) =
      let same = same_line bytes line rest second more first follows in (
        all ∙ (ap (λ l. length (line_text l)) same.0 ∙ sym whole),
        one_big (meaning profile line) next other big
            (subst (λ l. DropsBig (meaning profile l) other) (sym same.0) large),
      )
  one_drop Rest bytes used n next other d e = (one_before bytes used n d.1 e.1, d.3 ∙ sym e.3)
  one_drop (Big left) bytes used n next other d e =
      let same : used ≡ n = d.0 ∙ sym e.0 in
      (same, d.3 ∙ (ap (λ k. Big (left - k)) same ∙ sym e.3))

  -- what is due is told where it is due alone
  pub awaits_from : (want : Want) (bytes : List ℕ) (r : Read) → IsDue profile want bytes r → (r ≡ read.More) ↔ Awaits profile want bytes
  awaits_from want bytes read.More due = ((λ e. due), (λ a. refl))
  awaits_from want bytes (read.Drop used next) due = ((λ e. absurd (cc)), (λ a. absurd (apart want bytes used next a due)))
  awaits_from want bytes (read.Request request used) due = ((λ e. absurd (cc)), (λ a. absurd (due.0 a)))
  awaits_from want bytes (read.Bad fault used) due = ((λ e. absurd (cc)), (λ a. absurd (due.0 a)))

  pub dropped_from : (want : Want) (bytes : List ℕ) (r : Read) → IsDue profile want bytes r → (used : ℕ) (next : Want)
      → (r ≡ read.Drop used next) ↔ IsDropped profile want bytes used next
  dropped_from want bytes read.More due used next = ((λ e. absurd (cc)), (λ d. absurd (apart want bytes used next due d)))
  dropped_from want bytes (read.Drop n other) due used next = (
    (λ e. let count : n ≡ used = cc in let want_then : other ≡ next =
        cc in subst (λ k. IsDropped profile want bytes k next) count (subst (IsDropped profile want bytes n) want_then due)),
    (λ d. let same = one_drop want bytes n used other next due d in cc),
  )
  dropped_from want bytes (read.Request request n) due used next = ((λ e. absurd (cc)), (λ d. absurd (due.1 used next d)))
  dropped_from want bytes (read.Bad fault n) due used next = ((λ e. absurd (cc)), (λ d. absurd (due.1 used next d)))

  -- what is due after the first line
  module _ (bytes : List ℕ) (k : ℕ) (cut : IsCutAt bytes k) (early : k + 2 ≤ longest_line) where
    first_is : IsFirstLine bytes (take k bytes) (drop (k + 2) bytes)
    first_is = (cut.0, cut.1)

    short : length (take k bytes) + 2 ≤ longest_line
    short = omega (arith, length-take-le k bytes (omega (arith, cut.2)))

    not_awaited : (AwaitsBody (meaning profile (take k bytes)) (drop (k + 2) bytes) → ⊥) → Awaits profile Line bytes → ⊥
    not_awaited none (inl a) = ends_in_time bytes (take k bytes) (drop (k + 2) bytes) short first_is a.0
    not_awaited none (inr (line, rest, first, few)) =
        let same = same_line bytes line rest (take k bytes) (drop (k + 2) bytes) first first_is in
        none (subst (λ l. AwaitsBody (meaning profile l) (drop (k + 2) bytes)) same.0 (subst (AwaitsBody (meaning profile line)) same.1 few))

    not_dropped : ((next : Want) → DropsBig (meaning profile (take k bytes)) next → ⊥) → (used : ℕ) (next : Want) → IsDropped profile Line bytes used next → ⊥
    not_dropped none used next (inl d) = ends_in_time bytes (take k bytes) (drop (k + 2) bytes) short first_is d.0
    not_dropped none used next (inr (line, rest, first, big, all)) =
        let same = same_line bytes line rest (take k bytes) (drop (k + 2) bytes) first first_is in
        none next (subst (λ l. DropsBig (meaning profile l) next) same.0 big)

    due_read : (r : Read) → IsRestDue (meaning profile (take k bytes)) (drop (k + 2) bytes) r
        → IfDrop r (λ used want. (used ≡ k + 2) × DropsBig (meaning profile (take k bytes)) want) → IsDue profile Line bytes r
    due_read read.More due drops = inr (take k bytes, drop (k + 2) bytes, first_is, due)
    due_read (read.Drop used next) due drops =
        let all : used ≡ length (line_text (take k bytes)) =
        omega (arith, drops.0, length-append (take k bytes) crlf, length-take-le k bytes (omega (arith, cut.2))) in
        inr (take k bytes, drop (k + 2) bytes, first_is, due, all)
    due_read (read.Request request used) due drops = (not_awaited due.0, not_dropped due.1)
    due_read (read.Bad fault used) due drops = (not_awaited due.0, not_dropped due.1)

    pub due_after : {E : Type 0} (m : Result Meaning Fault) (rest : List ℕ) (r : Result Read E)
        → m ≡ meaning profile (take k bytes) → rest ≡ drop (k + 2) bytes → IfOk r (IsRestDue m rest)
        → IfOk r (λ read. IfDrop read (λ used want. (used ≡ k + 2) × DropsBig m want)) → IfOk r (IsDue profile Line bytes)
    due_after m rest (Ok r) says rest_is due drops =
        due_read r (subst (λ m. IsRestDue m (drop (k + 2) bytes) r) says (subst (λ t. IsRestDue m t r) rest_is due))
        (subst (λ m. IfDrop r (λ used want. (used ≡ k + 2) × DropsBig m want)) says drops)
    due_after m rest (Err e) says rest_is due drops = tt

  -- of the rest of a line that is too long
  two_or_more : (bytes : List ℕ) → 2 ≤ length bytes → Awaits profile Rest bytes → ⊥
  two_or_more bytes many (inl e) = omega (arith, ap length e, many)
  two_or_more bytes many (inr e) = omega (arith, ap length e, many)

  pub rest_ends : (bytes : List ℕ) (k : ℕ) → IsCutAt bytes k
      → (Awaits profile Rest bytes → ⊥) × ((used : ℕ) (next : Want) → IsDropped profile Rest bytes used next → ⊥)
  rest_ends bytes k cut = (
    two_or_more bytes (omega (arith, cut.2)),
    (λ used next d. no_cut_line bytes (take k bytes) (drop (k + 2) bytes) d.0 cut.1),
  )

  pub rest_waits : (bytes : List ℕ) (n : ℕ) → n ≡ 0 → IsBeforeCr bytes n → Awaits profile Rest bytes
  rest_waits bytes n none (inl b) = inl (no_byte bytes (omega (arith, b.0, none)))
  rest_waits bytes n none (inr (one, cr)) = inr (only_cr bytes cr.0 (omega (arith, one, none)) cr.1)
