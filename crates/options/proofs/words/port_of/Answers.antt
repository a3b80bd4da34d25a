use Rattle.std.proofs.Common.{codes, sym, subst, arith}
use Rattle.std.specs.Str.Parse.{ParsesUnsigned, ExplainsUnsignedError, HasUnsignedDigitsIfOk}
use Rattle.clap.specs.Words.{found_of, one_text}
use Rattle.options.specs.Numbers.{IsNumberOr}
use Rattle.options.proofs.WordsLemmas.{number_read}
use Rattle.options.proofs.words.port_of.Goals as goal

pub returns : goal.returns
returns c =
    subst (IsNumberOr 11300 1 65535 (one_text (found_of c.args.serve.now) (codes "port"))) (sym c.unwrap_or.ensures)
    (number_read 16 11300 1 65535 (omega arith) _
    (λ t r. ParsesUnsigned 16 10 t r × ExplainsUnsignedError 10 t r × HasUnsignedDigitsIfOk t r)
    (λ t r given. given.0) _ c.get_one.result c.get_one.ensures.none c.get_one.ensures.value)
