use Rattle.std.proofs.Common.{◌≡◌, ℕ, List, ◌++◌, Bool, true, false, not, codes, sym, ap, ◌∙◌}
use Rattle.std.proofs.lemmas.Slice.Eq.{bytes_eq-Decides}
use Rattle.chronicle_text.specs.Lines.{after_space}
use Rattle.command_log.specs.Text.{sum_end, sum_word}
use Rattle.command_log.proofs.Sums.{other_sum, right_sum, too_short}
use Rattle.command_log.proofs.sum.sum_at_end.Goals as goal

not_true : (r b : Bool) → r ≡ true → r ≡ not b → b ≡ true → ⊥
not_true r true h e k = cc
not_true r false h e k = cc

not_false : (r b : Bool) → r ≡ false → r ≡ not b → b ≡ true
not_false r true h e = cc
not_false r false h e = cc

-- what was compared with the line's end is the sum of the words
compared : (shown items words sum : List ℕ) → shown ≡ items → items ≡ after_space sum ++ codes "\n" → sum ≡ sum_word words → shown ≡ sum_end words
unfolding sum_end
compared shown items words sum is end same = is ∙ end ∙ ap (λ s. after_space s ++ codes "\n") same

pub returns-then-line-lt-SUM_END : goal.returns-then-line-lt-SUM_END
returns-then-line-lt-SUM_END c = too_short c.args.line.now c.if-line-lt-SUM_END.true

pub returns-then-ne : goal.returns-then-ne
returns-then-ne c =
    let words = c.split_at.result.0.now in
    let end = c.split_at.result.1.now in
    let shown = c.as_slice.result.now in
    let right = compared shown c.in_ok-right.right.items words c.in_ok-sum.sum c.as_slice.ensures.value c.in_ok-right.ensures c.in_ok-sum.ensures in
    other_sum c.args.line.now words end c.split_at.ensures.front c.split_at.ensures.back
    (λ same. not_true c.ne.result _ c.if-ne.true c.ne.ensures ((bytes_eq-Decides shown end).1 (right ∙ same)))

pub returns : goal.returns
returns c =
    let words = c.split_at.result.0.now in
    let end = c.split_at.result.1.now in
    let shown = c.as_slice.result.now in
    let right = compared shown c.in_ok-right.right.items words c.in_ok-sum.sum c.as_slice.ensures.value c.in_ok-right.ensures c.in_ok-sum.ensures in
    right_sum c.args.line.now words end c.in_ok-sum.sum c.split_at.ensures.front c.split_at.ensures.back
    (sym right ∙ (bytes_eq-Decides shown end).0 (not_false c.ne.result _ c.if-ne.false c.ne.ensures)) c.in_ok-sum.ensures
