-- Texts of which a part was dropped.
use Rattle.std.proofs.Common.{◌≡◌, ◌⊎◌, inl, inr, ℕ, ◌+◌, ◌<◌, ◌≤◌, List, [], ◌∷◌, ◌++◌, length, take, drop, Some, Ok}
use Rattle.std.proofs.Common.{Err, refl, ap, sym, subst, ◌∙◌, arith, append_assoc, length-append, length-drop}
use Rattle.std.proofs.Math.Seq.{take-append-add}
use Rattle.std.proofs.lemmas.Bool.{lt-ltb}
use Rattle.std.proofs.lemmas.List.{take_all, take-append-drop, append-nil, length-take-le}
use Rattle.bean_codec.specs.declared.profile.Profile.{Profile}
use Rattle.bean_codec.specs.declared.request.Fault.TheVariants.{BadFormat, JobTooBig}
use Rattle.bean_codec.specs.declared.reader.Want.{Want}
use Rattle.bean_codec.specs.declared.reader.Read.{Read}
use Rattle.bean_codec.specs.declared.reader.Read.TheVariants as read
use Rattle.bean_codec.specs.Lines.{crlf, line_text, IsLine}
use Rattle.bean_codec.specs.Grammar.{Item, Spells, Completes, put_item, longest_line, longest_body}
use Rattle.bean_codec.specs.Wants.{EndsWithCr, FitsRest, FitsBig, Fits}
use Rattle.bean_codec.specs.Reads.{item_read, IsDrop, BeginsWith, BeginsWithNone, EndsItem, TellsItem, TellsMore, IsBeforeCr}
use Rattle.bean_codec.proofs.LineCuts.{IsCutAt}
use Rattle.bean_codec.proofs.LongLines.{IsLine-front, IsLine-join, IsLine-join_take, meaning-long}
use Rattle.bean_codec.proofs.Fronts.{no_item, cut_text}
use Rattle.bean_codec.proofs.FrontItems.{too_short}
use Rattle.bean_codec.proofs.OneItem.{one_item}

-- the rest of a line that is too long, where no CR LF stands in it
pub rest_more : (profile : Profile) (dropped bytes : List ℕ) → FitsRest dropped bytes → IsLine bytes → BeginsWithNone profile (dropped ++ bytes)
rest_more profile dropped bytes fits none = no_item profile (dropped ++ bytes) (IsLine-join dropped bytes fits.is_line none)

-- what ends it
pub rest_item : (profile : Profile) (dropped bytes : List ℕ) (k : ℕ) → FitsRest dropped bytes → IsCutAt bytes k
    → EndsItem profile dropped bytes (Err BadFormat, k + 2)
rest_item profile dropped bytes k fits cut =
    let line = dropped ++ take k bytes in
    let text : dropped ++ take (k + 2) bytes ≡ line ++ (crlf ++ []) =
    ap (λ t. dropped ++ t) (cut_text bytes k cut) ∙ sym (append_assoc dropped (take k bytes) (crlf ++ [])) in
    let long : longest_line < length (line_text line) =
    let h = fits.long in omega (arith, h, length-append dropped crlf, length-append line crlf, length-append dropped (take k bytes)) in
    let says = meaning-long profile line long in (
      cut.2,
      record {
        line = line;
        rest = [];
        is_line = IsLine-join_take dropped bytes k fits.is_line cut.0;
        cut =
            text;
        completes = subst (λ m. Completes m [] (Err BadFormat)) (sym says) (refl, refl);
      },
    )

-- a carriage return that ends two texts ends the second
ends_tail : (xs ys front : List ℕ) → 1 ≤ length ys → xs ++ ys ≡ front ++ 13 ∷ [] → EndsWithCr ys
ends_tail [] ys front some e = (front, e)
ends_tail (b ∷ xs) ys [] some e = absurd (omega (arith, ap length e, length-append xs ys))
ends_tail (b ∷ xs) ys (c ∷ front) some e = ends_tail xs ys front some cc

no_cr : (dropped bytes : List ℕ) (n : ℕ) → 1 ≤ n → IsBeforeCr bytes n → drop n bytes ≡ [] → EndsWithCr (dropped ++ take n bytes) → ⊥
no_cr dropped bytes n some (inl (all, other)) e ends =
    let same : take n bytes ≡ bytes = take_all n bytes (omega arith) in
    let ends : EndsWithCr (dropped ++ bytes) = subst (λ t. EndsWithCr (dropped ++ t)) same ends in
    other (ends_tail dropped bytes ends.0 (omega arith) ends.1)
no_cr dropped bytes n some (inr (all, cr)) e ends = omega (arith, ap length e, length-drop n bytes)

pub before_within : (bytes : List ℕ) (n : ℕ) → IsBeforeCr bytes n → n ≤ length bytes
before_within bytes n (inl (all, other)) = omega (arith, all)
before_within bytes n (inr (all, cr)) = omega (arith, all)

-- a part of it
pub rest_drop : (dropped bytes : List ℕ) (n : ℕ) → FitsRest dropped bytes → IsLine bytes → 1 ≤ n → n ≤ length bytes
    → IsBeforeCr bytes n → FitsRest (dropped ++ take n bytes) (drop n bytes)
rest_drop dropped bytes n fits none some within before =
    let whole = IsLine-join dropped bytes fits.is_line none in
    let cut : dropped ++ bytes ≡ (dropped ++ take n bytes) ++ drop n bytes =
    ap (λ t. dropped ++ t) (sym (take-append-drop n bytes)) ∙ sym (append_assoc dropped (take n bytes) (drop n bytes)) in
    let further : dropped ++ bytes ≡ ((dropped ++ take n bytes) ++ take 1 (drop n bytes)) ++ drop 1 (drop n bytes) =
    cut ∙ ap (λ t. (dropped ++ take n bytes) ++ t) (sym (take-append-drop 1 (drop n bytes)))
    ∙ sym (append_assoc (dropped ++ take n bytes) (take 1 (drop n bytes)) (drop 1 (drop n bytes))) in
    record {
      long = let h = fits.long in omega (
        arith,
        h,
        length-append dropped crlf,
        length-append (dropped ++ take n bytes) crlf,
        length-append dropped
            (take n bytes),
      );
      is_line = IsLine-front ((dropped ++ take n bytes) ++ take 1 (drop n bytes)) (drop 1 (drop n bytes)) (subst IsLine further whole);
      last = no_cr dropped bytes n some before;
    }

-- a put whose body is too large
put_item-large : (pri delay ttr size : ℕ) (rest : List ℕ) → longest_body < size → put_item pri delay ttr size rest ≡ Err JobTooBig
unfolding put_item
put_item-large pri delay ttr size rest large = rw (lt-ltb longest_body size large) refl

pub big_item : (profile : Profile) (n : ℕ) (dropped bytes : List ℕ) → FitsBig profile n dropped → n ≤ length bytes
    → EndsItem profile dropped bytes (Err JobTooBig, n)
big_item profile n dropped bytes fits within =
    let rest = fits.rest ++ take n bytes in
    let text : dropped ++ take n bytes ≡ fits.line ++ (crlf ++ rest) =
    ap (λ t. t ++ take n bytes) fits.cut ∙ append_assoc fits.line (crlf ++ fits.rest) (take n bytes) ∙ ap
    (λ t. fits.line ++ t) (append_assoc crlf fits.rest (take n bytes)) in
    let len : length rest ≡ fits.size + 2 = let left =
    fits.left in omega (arith, left, length-append fits.rest (take n bytes), length-take-le n bytes within) in
    let item = sym (put_item-large fits.pri fits.delay fits.ttr fits.size rest fits.large) in (
      within,
      record {
        line = fits.line;
        rest = rest;
        is_line = fits.is_line;
        cut = text;
        completes =
            subst (λ m. Completes m rest (Err JobTooBig)) (sym fits.says) (len, item);
      },
    )

empty : (bytes : List ℕ) → length bytes ≤ 0 → bytes ≡ []
empty [] none = refl
empty (b ∷ bytes) none = absurd (omega arith)

pub big_more : (profile : Profile) (n : ℕ) (dropped bytes : List ℕ) → FitsBig profile n dropped → length bytes ≤ 0
    → BeginsWithNone profile (dropped ++ bytes)
big_more profile n dropped bytes fits none =
    let same : dropped ++ bytes ≡ dropped = ap (λ t. dropped ++ t) (empty bytes none) ∙ append-nil dropped in
    let few : length fits.rest + 1 ≤ fits.size + 2 = let left = fits.left in let some = fits.some in omega (arith, left, some) in
    subst (BeginsWithNone profile) (sym same)
    (too_short profile dropped fits.line fits.rest fits.pri fits.delay fits.ttr fits.size fits.is_line fits.cut fits.says few)

module _ (profile : Profile) where
  -- where the dropped text and the bytes spell an item, it is told, or bytes are dropped
  same_end : (dropped bytes : List ℕ) (found : Item × ℕ) (other : Item × ℕ) → EndsItem profile dropped bytes found
      → EndsItem profile dropped bytes other → Some found ≡ Some other
  same_end dropped bytes (item, used) (other, n) h k =
      let parts = λ (m : ℕ). append_assoc dropped (take m bytes) (drop m bytes) ∙ ap (λ t. dropped ++ t) (take-append-drop m bytes) in
      let same = one_item profile (dropped ++ take used bytes) (dropped ++ take n bytes) (drop used bytes)
      (drop n bytes) item other h.1 k.1 (parts used ∙ sym (parts n)) in
      let count : used ≡ n = omega (
        arith,
        ap length same.0,
        length-append dropped
            (take used bytes),
        length-append dropped
            (take n bytes),
        length-take-le used bytes h.0,
        length-take-le n bytes k.0,
      ) in
      cc

  begins_from_ends : (dropped bytes : List ℕ) (item : Item) (used : ℕ) → EndsItem profile dropped bytes (item, used)
      → BeginsWith profile (dropped ++ bytes) (item, length dropped + used)
  begins_from_ends dropped bytes item used h =
      (omega (arith, h.0, length-append dropped bytes), subst (λ t. Spells profile t item) (sym (take-append-add dropped bytes used)) h.1)

  pub only_told : (want : Want) (bytes : List ℕ) (r : Read) → TellsItem profile want bytes r → TellsMore profile want bytes r
      → (dropped : List ℕ) (found : Item × ℕ) → Fits profile want dropped bytes → EndsItem profile dropped bytes found → IsDrop r
      ⊎ (item_read r ≡ Some found)
  only_told want bytes read.More item more dropped found fits h =
      absurd (more dropped fits (found.0, length dropped + found.1) (begins_from_ends dropped bytes found.0 found.1 h))
  only_told want bytes (read.Drop used next) item more dropped found fits h = inl tt
  only_told want bytes (read.Request request used) item more dropped found fits h = inr (same_end dropped bytes (Ok request, used) found (item dropped fits) h)
  only_told want bytes (read.Bad fault used) item more dropped found fits h = inr (same_end dropped bytes (Err fault, used) found (item dropped fits) h)
