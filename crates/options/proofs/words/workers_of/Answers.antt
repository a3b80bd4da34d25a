use Rattle.std.proofs.Common.{◌<◌, ◌≤◌, ⊎_elim, codes, sym, subst, arith}
use Rattle.std.specs.Str.Parse.{ParsesUnsigned, ExplainsUnsignedError, HasUnsignedDigitsIfOk}
use Rattle.clap.specs.Words.{found_of, one_text}
use Rattle.options.specs.Numbers.{IsNumberOr}
use Rattle.options.proofs.WordsLemmas.{number_read, out_of_range}
use Rattle.options.proofs.words.workers_of.Goals as goal

pub returns-then-workers-le-MOST_WORKERS-clause-workers : goal.returns-then-workers-le-MOST_WORKERS-clause-workers
returns-then-workers-le-MOST_WORKERS-clause-workers c =
    subst (IsNumberOr 4 1 64 (one_text (found_of c.args.serve.now) (codes "workers"))) (sym c.unwrap_or-workers.ensures)
    (number_read 32 4 1 64 (omega arith) _
    (λ t r. ParsesUnsigned 32 10 t r × ExplainsUnsignedError 10 t r × HasUnsignedDigitsIfOk t r)
    (λ t r given. given.0) _ c.get_one.result c.get_one.ensures.none c.get_one.ensures.value)

pub returns-else-workers-ge1-clause-workers : goal.returns-else-workers-ge1-clause-workers
returns-else-workers-ge1-clause-workers c =
    let read =
    subst (IsNumberOr 4 1 64 (one_text (found_of c.args.serve.now) (codes "workers"))) (sym c.unwrap_or-workers.ensures)
    (number_read 32 4 1 64 (omega arith) _
    (λ t r. ParsesUnsigned 32 10 t r × ExplainsUnsignedError 10 t r × HasUnsignedDigitsIfOk t r)
    (λ t r given. given.0) _ c.get_one.result c.get_one.ensures.none c.get_one.ensures.value) in
    out_of_range 4 1 64 c.unwrap_or-workers.result _ read (omega arith) (omega arith)
    (λ low high. ⊎_elim (λ (above : (1 ≤ c.unwrap_or-workers.result) × (64 < c.unwrap_or-workers.result)). omega
    (arith, high, above.1)) (λ (below : c.unwrap_or-workers.result < 1). omega (arith, low, below))
    c.else-workers-ge1.either)
