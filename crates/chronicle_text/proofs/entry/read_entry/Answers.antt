use Rattle.std.proofs.Common.{◌≡◌, Bool, true, false, not, [], ◌∷◌, ◌++◌, Some, None, refl, sym, ap, ◌∙◌}
use Rattle.std.proofs.lemmas.Bool.Decides.{Decides-eqb}
use Rattle.std.proofs.lemmas.Slice.Eq.{strip_suffix_is, bytes_eq-Decides}
use Rattle.chronicle_text.specs.Entries.{entry_line}
use Rattle.chronicle_text.specs.Told.{entry_of_words}
use Rattle.chronicle_text.proofs.spelling.Tells.{says_no_line, says_nothing, says_otherwise, says_it}
use Rattle.chronicle_text.proofs.entry.read_entry.Goals as goal

not_true : (b : Bool) → true ≡ not b → b ≡ true → ⊥
not_true true h e = cc
not_true false h e = cc

not_false : (b : Bool) → false ≡ not b → b ≡ true
not_false true h = refl
not_false false h = absurd (cc)

pub returns-in_default : goal.returns-in_default
returns-in_default c =
    says_no_line c.args.line.now (strip_suffix_is Decides-eqb c.args.line.now (10 ∷ []) None (rw c.as_slice.ensures at c.in_default.ensures.cases))

pub returns-in_default-2 : goal.returns-in_default-2
returns-in_default-2 c =
    says_nothing c.args.line.now c.in-Some.words.now
    (strip_suffix_is Decides-eqb c.args.line.now (10 ∷ []) (Some c.in-Some.words)
    (rw c.as_slice.ensures at c.in-Some.ensures.cases))
    (ap entry_of_words (sym c.new.ensures) ∙ sym c.in_ok-entry.ensures ∙ c.in_default-2.is)

pub returns-then-ne : goal.returns-then-ne
returns-then-ne c =
    says_otherwise c.args.line.now c.in-Some.words.now c.in-Some-2.entry
    (strip_suffix_is Decides-eqb c.args.line.now (10 ∷ []) (Some c.in-Some.words) (rw c.as_slice.ensures at c.in-Some.ensures.cases))
    (ap entry_of_words (sym c.new.ensures) ∙ sym c.in_ok-entry.ensures ∙ c.in-Some-2.is)
    (λ same. not_true _ c.if-ne.ensures
    ((bytes_eq-Decides c.as_slice-2.result.now c.args.line.now).1
    (c.as_slice-2.ensures.value ∙ c.in_ok-append_entry.ensures.ok.0 ∙ ap (λ t. t ++ entry_line c.in-Some-2.entry) c.new-written.ensures.items ∙ same)))

pub returns : goal.returns
returns c =
    says_it c.args.line.now c.in-Some.words.now c.in-Some-2.entry
    (ap entry_of_words (sym c.new.ensures) ∙ sym c.in_ok-entry.ensures ∙ c.in-Some-2.is)
    (sym (ap (λ t. t ++ entry_line c.in-Some-2.entry) c.new-written.ensures.items) ∙ sym c.in_ok-append_entry.ensures.ok.0 ∙ sym c.as_slice-2.ensures.value
    ∙ (bytes_eq-Decides c.as_slice-2.result.now c.args.line.now).0 (not_false _ c.if-ne.ensures))
