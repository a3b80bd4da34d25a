use Rattle.std.proofs.Common.{◌≡◌, ◌∙◌, ◌++◌, ◌∷◌, ℕ, List, [], Option, None, Some, Result, Ok, Err, refl, sym, ap, subst, arith}
use Rattle.std.specs.Result.{result_ok}
use Rattle.std.specs.Net.Grammar.{IsIpv6Text, Parses}
use Rattle.std.specs.declared.net.ipv6_addr.Ipv6Addr.{Ipv6Addr}
use Rattle.std.proofs.lemmas.List.{append_cancel_right}
use Rattle.std.proofs.lemmas.Str.Pattern.{strip_prefix_char, strip_suffix_char}
use Rattle.options.proofs.hosts.host_in_brackets.Goals as goal

-- what was read is written there, and where nothing was read, nothing is
abbrev IsRead : List ℕ → Option Ipv6Addr → Type 0
IsRead text None = (ip : Ipv6Addr) → ¬ (IsIpv6Text text ip)
IsRead text (Some ip) = IsIpv6Text text ip

was_read : {E : Type 0} (text : List ℕ) (r : Result Ipv6Addr E) (found : Option Ipv6Addr) → found ≡ result_ok r → Parses IsIpv6Text text r
    → IsRead text found
was_read text (Ok ip) found is parses = subst (IsRead text) (sym is) parses
was_read text (Err e) found is parses = subst (IsRead text) (sym is) parses

pub returns-in_err-strip_prefix-clause-none : goal.returns-in_err-strip_prefix-clause-none
returns-in_err-strip_prefix-clause-none c = λ none host it.
    strip_prefix_char 91 c.args.text.now None c.in_err-strip_prefix.ensures.cases (omega arith) _ it.2

pub returns-in_err-inner-clause-none : goal.returns-in_err-inner-clause-none
returns-in_err-inner-clause-none c = λ none host it.
    let rest = c.in_ok-strip_prefix.field-0.now in
    let begins : c.args.text.now ≡ 91 ∷ rest =
    strip_prefix_char 91 c.args.text.now (Some c.in_ok-strip_prefix.field-0) c.in_ok-strip_prefix.ensures.cases (omega arith) in
    let spelled = it.2 in
    let same : rest ≡ it.0 ++ 93 ∷ [] = cc in
    strip_suffix_char 93 rest None c.in_err-inner.ensures.cases (omega arith) _ same

pub returns-in_err-ip-clause-none : goal.returns-in_err-ip-clause-none
returns-in_err-ip-clause-none c = λ none host it.
    let rest = c.in_ok-strip_prefix.field-0.now in
    let inner = c.in_ok-inner.inner.now in
    let begins : c.args.text.now ≡ 91 ∷ rest =
    strip_prefix_char 91 c.args.text.now (Some c.in_ok-strip_prefix.field-0) c.in_ok-strip_prefix.ensures.cases (omega arith) in
    let ends : rest ≡ inner ++ 93 ∷ [] =
    strip_suffix_char 93 rest (Some c.in_ok-inner.inner) c.in_ok-inner.ensures.cases (omega arith) in
    let spelled = it.2 in
    let same : inner ≡ it.0 = append_cancel_right inner it.0 (93 ∷ []) cc in
    was_read inner c.parse.result None c.in_err-ip.ensures.value c.parse.ensures.value it.1
    (subst (λ t. IsIpv6Text t it.1) (sym same) it.3)

pub returns-clause-some : goal.returns-clause-some
returns-clause-some c =
    let rest = c.in_ok-strip_prefix.field-0.now in
    let begins : c.args.text.now ≡ 91 ∷ rest =
    strip_prefix_char 91 c.args.text.now (Some c.in_ok-strip_prefix.field-0) c.in_ok-strip_prefix.ensures.cases (omega arith) in
    let ends : rest ≡ c.in_ok-inner.inner.now ++ 93 ∷ [] =
    strip_suffix_char 93 rest (Some c.in_ok-inner.inner) c.in_ok-inner.ensures.cases (omega arith) in (
      c.in_ok-inner.inner.now,
      c.in_ok-ip.ip,
      begins ∙ ap (λ t. 91 ∷ t) ends,
      was_read c.in_ok-inner.inner.now c.parse.result (Some c.in_ok-ip.ip) c.in_ok-ip.ensures.value c.parse.ensures.value,
      refl,
    )
