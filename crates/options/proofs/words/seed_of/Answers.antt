use Rattle.std.proofs.Common.{◌<◌, ◌^◌, ◌-◌, codes, sym, subst, arith}
use Rattle.std.specs.Str.Parse.{ParsesUnsigned, ExplainsUnsignedError, HasUnsignedDigitsIfOk}
use Rattle.clap.specs.Words.{found_of, one_text}
use Rattle.options.specs.Numbers.{IsNumberOr}
use Rattle.options.proofs.WordsLemmas.{number_read}
use Rattle.options.proofs.words.seed_of.Goals as goal

pub returns : goal.returns
returns c =
    let fits : 2 ^ 64 - 1 < 2 ^ 64 = omega arith in
    subst (IsNumberOr 0 0 (2 ^ 64 - 1) (one_text (found_of c.args.run.now) (codes "seed"))) (sym c.unwrap_or.ensures)
    (number_read 64 0 0 (2 ^ 64 - 1) fits _
    (λ t r. ParsesUnsigned 64 10 t r × ExplainsUnsignedError 10 t r × HasUnsignedDigitsIfOk t r)
    (λ t r given. given.0) _ c.get_one.result c.get_one.ensures.none c.get_one.ensures.value)
