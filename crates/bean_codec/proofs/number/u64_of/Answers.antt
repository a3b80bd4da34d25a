use Rattle.std.proofs.Common.{◌≡◌, Result, Ok, Err, None, Some, sym, ap, ◌∙◌, List, ℕ, ◌^◌, Bor}
use Rattle.std.specs.Str.{IsUtf8}
use Rattle.std.specs.Result.{result_ok, MatchResult}
use Rattle.bean_codec.proofs.Digits.{number_below-bytes, parse_number}
use Rattle.bean_codec.proofs.number.u64_of.Goals as goal

-- what `from_utf8` refuses is no text, and what it gives is the word
no_text : {E : Type 0} (word : List ℕ) (r : Result (Bor (List ℕ)) E) (P : E → Type 0)
    → MatchResult r (λ s. (s.now ≡ word) × IsUtf8 word) (λ e. ¬ (IsUtf8 word) × P e) → None ≡ result_ok r
    → ¬ (IsUtf8 word)
no_text word (Ok s) P h e = absurd (cc)
no_text word (Err x) P h e = h.0

same_text : {E : Type 0} (word : List ℕ) (r : Result (Bor (List ℕ)) E) (text : Bor (List ℕ)) (P : E → Type 0)
    → MatchResult r (λ s. (s.now ≡ word) × IsUtf8 word) (λ e. ¬ (IsUtf8 word) × P e) → Some text ≡ result_ok r
    → text.now ≡ word
same_text word (Ok s) text P h e = let same : text ≡ s = cc in ap (λ (b : Bor (List ℕ)). b.now) same ∙ h.0
same_text word (Err x) text P h e = absurd (cc)

pub returns-in_err-ok : goal.returns-in_err-ok
returns-in_err-ok c =
    let word = c.args.word.now in
    c.from_residual.ensures ∙ sym (number_below-bytes (2 ^ 64) word (no_text word c.from_utf8.result _ c.from_utf8.ensures.cases c.in_err-ok.ensures.value))

pub returns : goal.returns
returns c =
    let word = c.args.word.now in
    let same = same_text word c.from_utf8.result c.in_ok-ok.field-0 _ c.from_utf8.ensures.cases c.in_ok-ok.ensures.value in
    let parsed = rw same at c.parse.ensures.value.0 in
    c.ok-2.ensures.value ∙ parse_number word c.parse.result parsed (sym c.starts_with.ensures.value ∙ c.if-starts_with.false)
