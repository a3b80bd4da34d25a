use Rattle.std.proofs.Common.{take, length, sym, ap, ◌∙◌}
use Rattle.hex.specs.Hex.{encode_lower}
use Rattle.command_log.specs.Text.{sum_word}
use Rattle.command_log.proofs.Sums.{sum_word_long}
use Rattle.command_log.proofs.sum.sum_of.Goals as goal

pub copy_from_slice-requires : goal.copy_from_slice-requires
unfolding sum_word
copy_from_slice-requires c =
    sym (ap length (c.as_bytes.ensures.value ∙ c.in_ok-digits.ensures ∙ ap (λ d. encode_lower (take 4 d)) c.digest-digest.ensures)
    ∙ sum_word_long c.args.words.now)
