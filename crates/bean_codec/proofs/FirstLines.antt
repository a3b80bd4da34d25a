-- What is told of the bytes of a reader that waits for a line.
use Rattle.std.proofs.Common.{◌≡◌, ℕ, ◌+◌, ◌≤◌, List, [], ◌++◌, length, take, drop, Result, Ok, Err, IfOk, ap, sym}
use Rattle.std.proofs.Common.{subst, ◌∙◌, arith, length-append, length-drop}
use Rattle.std.proofs.Math.Seq.{take-add}
use Rattle.std.proofs.lemmas.List.{take_all, length-take-le}
use Rattle.std.specs.Option.{IfSome}
use Rattle.bean_codec.specs.declared.profile.Profile.{Profile}
use Rattle.bean_codec.specs.declared.request.Fault.{Fault}
use Rattle.bean_codec.specs.declared.line.Meaning.{Meaning}
use Rattle.bean_codec.specs.declared.line.Meaning.TheVariants.{Whole, WithBody}
use Rattle.bean_codec.specs.declared.reader.Want.{Want}
use Rattle.bean_codec.specs.declared.reader.Want.TheVariants.{Line}
use Rattle.bean_codec.specs.declared.reader.Read.{Read}
use Rattle.bean_codec.specs.declared.reader.Read.TheVariants as read
use Rattle.bean_codec.specs.Lines.{crlf, IsLine}
use Rattle.bean_codec.specs.Grammar.{Item, meaning}
use Rattle.bean_codec.specs.Wants.{FitsRest, Fits}
use Rattle.bean_codec.specs.Reads.{item_read, IfMore, IfDrop, BeginsWith, BeginsWithNone, EndsItem, CompletesFront, DropsBig, TellsItem, TellsMore, TellsDrop}
use Rattle.bean_codec.proofs.LineCuts.{IsCutAt}
use Rattle.bean_codec.proofs.Fronts.{no_item, cut_text, begins_from_completes, completes_from_begins, item_from, more_from}

-- where no line ends in few bytes, more are wanted
pub line_more : (profile : Profile) (bytes : List ℕ) (n : ℕ) → length bytes ≤ n → IsLine (take n bytes) → (dropped : List ℕ) → dropped ≡ []
    → BeginsWithNone profile (dropped ++ bytes)
line_more profile bytes n few h dropped none =
    subst (λ d. BeginsWithNone profile (d ++ bytes)) (sym none) (no_item profile bytes (subst IsLine (take_all n bytes few) h))

-- where none ends in many, all but the last may be dropped
pub line_rest : (bytes : List ℕ) (n : ℕ) → n ≡ 224 → n ≤ length bytes → IsLine (take n bytes) → (dropped : List ℕ) → dropped ≡ [] →
    (1 ≤ 223) × (223 ≤ length bytes) × FitsRest (dropped ++ take 223 bytes) (drop 223 bytes)
line_rest bytes n n_is many h dropped none =
    let start = take 223 bytes in
    let two : take n bytes ≡ start ++ take 1 (drop 223 bytes) = ap (λ k. take k bytes) n_is ∙ take-add 223 1 bytes in
    let fits : FitsRest start (drop 223 bytes) = record {
      long = omega (arith, length-append start crlf, length-take-le 223 bytes (omega arith));
      is_line = subst IsLine two h;
      last = λ e ends. omega (arith, ap length e, length-drop 223 bytes);
    } in
    (omega arith, omega arith, subst (λ d. FitsRest (d ++ start) (drop 223 bytes)) (sym none) fits)

-- what is told of bytes whose first line ends at place k
module _ (profile : Profile) (bytes : List ℕ) (k : ℕ) (cut : IsCutAt bytes k) (m : Result Meaning Fault) (same : m ≡ meaning profile (take k bytes))
    (rest : List ℕ) (rest_is : rest ≡ drop (k + 2) bytes) where
  pub forth : (found : Item × ℕ) → CompletesFront m (k + 2) rest found → BeginsWith profile bytes found
  forth found h = begins_from_completes profile bytes k cut found (rw (← same, ← rest_is) h)

  back : (found : Item × ℕ) → BeginsWith profile bytes found → CompletesFront m (k + 2) rest found
  back found h = rw (same, rest_is) (completes_from_begins profile bytes k cut found h)

  -- bytes that begin with it end it, where none were dropped
  ends : {E : Type 0} (r : Result Read E) → IfOk r (λ read. IfSome (item_read read) (BeginsWith profile bytes)) → IfOk r (TellsItem profile Line bytes)
  ends (Ok read) h = λ dropped none. subst (λ d. IfSome (item_read read) (EndsItem profile d bytes)) (sym none) h
  ends (Err e) h = tt

  pub told_item : {E : Type 0} (r : Result Read E) → IfOk r (λ read. IfSome (item_read read) (CompletesFront m (k + 2) rest))
      → IfOk r (TellsItem profile Line bytes)
  told_item r h = ends r (item_from _ (BeginsWith profile bytes) r forth h)

  none_left : {E : Type 0} (r : Result Read E) → IfOk r (λ read. IfMore read (BeginsWithNone profile bytes)) → IfOk r (TellsMore profile Line bytes)
  none_left (Ok read) h = λ dropped none. subst (λ d. IfMore read (BeginsWithNone profile (d ++ bytes))) (sym none) h
  none_left (Err e) h = tt

  pub told_more : {E : Type 0} (r : Result Read E)
      → IfOk r (λ read. IfMore read ((found : Item × ℕ) → ¬ CompletesFront m (k + 2) rest found))
      → IfOk r (TellsMore profile Line bytes)
  told_more r h = none_left r (more_from _ (BeginsWith profile bytes) r back h)

  fits_big : (m : Result Meaning Fault) (want : Want) → m ≡ meaning profile (take k bytes) → DropsBig m want
      → Fits profile want (take (k + 2) bytes) (drop (k + 2) bytes)
  fits_big (Ok (WithBody pri delay ttr size)) want says (wanted, large) =
      subst (λ w. Fits profile w (take (k + 2) bytes) (drop (k + 2) bytes)) (sym wanted) (record {
        line = take k bytes;
        rest = [];
        pri = pri;
        delay = delay;
        ttr = ttr;
        size = size;
        is_line = cut.0;
        says = sym says;
        large = large;
        cut = cut_text bytes k cut;
        left = omega arith;
        some = omega arith;
      })
  fits_big (Ok (Whole request)) want says h = absurd h
  fits_big (Err fault) want says h = absurd h

  dropped_line : (r : Read) → IfDrop r (λ used want. (used ≡ k + 2) × DropsBig m want) → TellsDrop profile Line bytes r
  dropped_line (read.Drop used want) (all, big) dropped none =
      let fits = fits_big m want same big in
      let here : Fits profile want (dropped ++ take used bytes) (drop used bytes) =
      subst (λ d. Fits profile want (d ++ take used bytes) (drop used bytes)) (sym none)
      (subst (λ n. Fits profile want (take n bytes) (drop n bytes)) (sym all) fits) in
      (omega (arith, all), omega (arith, all, cut.2), here)
  dropped_line read.More h dropped none = tt
  dropped_line (read.Request request used) h dropped none = tt
  dropped_line (read.Bad fault used) h dropped none = tt

  pub told_drop : {E : Type 0} (r : Result Read E)
      → IfOk r (λ read. IfDrop read (λ used want. (used ≡ k + 2) × DropsBig m want)) → IfOk r (TellsDrop profile Line bytes)
  told_drop (Ok read) h = dropped_line read h
  told_drop (Err e) h = tt
