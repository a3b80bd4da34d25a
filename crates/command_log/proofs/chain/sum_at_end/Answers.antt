use Rattle.std.proofs.Common.{◌≡◌, ◌-◌, ◌++◌, length, take, drop, codes, Some, sym, ap, ◌∙◌, take-append-drop}
use Rattle.std.proofs.lemmas.Bool.Decides.{Decides-eqb}
use Rattle.std.proofs.lemmas.Slice.Eq.{strip_prefix_is}
use Rattle.command_log.specs.Lines.{is_plain_word}
use Rattle.command_log.proofs.chain.sum_at_end.Goals as goal

pub returns : goal.returns
returns c =
    let words = c.args.words.now in
    let word = c.in_ok-word.word.now in
    let same = c.copy_from_slice.ensures.after in
    let last : drop (length words - 9) words ≡ codes " " ++ word =
    sym c.split_at.ensures.back ∙ strip_prefix_is Decides-eqb c.split_at.result.1.now (codes " ") (Some c.in_ok-word.word) (rw c.as_slice.ensures at c.in_ok-word.ensures.cases) in (
      record { long = c.copy_from_slice.ensures.len; word = ap is_plain_word same ∙ sym c.is_plain_word.ensures ∙ c.if-not-is_plain_word.false },
      (
        take (length words - 9) words,
        ap (λ s. take (length words - 9) words ++ (codes " " ++ s)) same ∙ ap (λ t. take (length words - 9) words ++ t) (sym last)
            ∙ take-append-drop (length words - 9) words,
      ),
    )
