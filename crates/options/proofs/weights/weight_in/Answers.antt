use Rattle.std.proofs.Common.{◌≡◌, ◌∙◌, sym, ap, None, Some, true, false}
use Rattle.std.specs.Prelude.{decimal}
use Rattle.std.specs.Result.{result_ok}
use Rattle.options.proofs.WeightWords.{same_text, weight_read}
use Rattle.options.proofs.weights.weight_in.Goals as goal

pub returns-in_err-weight-clause-none : goal.returns-in_err-weight-clause-none
returns-in_err-weight-clause-none c = λ _ w is e.
    let read = weight_read w c.args.word.now c.parse.result is e c.parse.ensures.value.0 in
    let none : None ≡ Some w = sym c.in_err-weight.was ∙ c.ok.ensures.value ∙ ap result_ok read in absurd cc

pub returns-else-eq-clause-none : goal.returns-else-eq-clause-none
returns-else-eq-clause-none c = λ _ w is e.
    let read = weight_read w c.args.word.now c.parse.result is e c.parse.ensures.value.0 in
    let same : Some c.in_ok-weight.weight ≡ Some w = c.in_ok-weight.ensures.value ∙ ap result_ok read in
    let weight : c.in_ok-weight.weight ≡ w = cc in
    let text : c.format.result.now ≡ c.args.word.now = c.format.ensures.text ∙ ap decimal weight ∙ e in
    let yes : true ≡ false = sym (c.eq.ensures ∙ same_text c.format.result.now c.args.word.now text) ∙ c.if-eq.false in absurd cc
