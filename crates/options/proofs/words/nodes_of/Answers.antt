use Rattle.std.proofs.Common.{◌<◌, ◌≤◌, ⊎_elim, codes, sym, subst, arith}
use Rattle.std.specs.Str.Parse.{ParsesUnsigned, ExplainsUnsignedError, HasUnsignedDigitsIfOk}
use Rattle.clap.specs.Words.{found_of, one_text}
use Rattle.options.specs.Numbers.{IsNumberOr}
use Rattle.options.proofs.WordsLemmas.{number_read, out_of_range}
use Rattle.options.proofs.words.nodes_of.Goals as goal

pub returns-then-nodes-le-MOST_NODES-clause-nodes : goal.returns-then-nodes-le-MOST_NODES-clause-nodes
returns-then-nodes-le-MOST_NODES-clause-nodes c =
    subst (IsNumberOr 3 1 7 (one_text (found_of c.args.found.now) (codes "nodes"))) (sym c.unwrap_or-nodes.ensures)
    (number_read 8 3 1 7 (omega arith) _
    (λ t r. ParsesUnsigned 8 10 t r × ExplainsUnsignedError 10 t r × HasUnsignedDigitsIfOk t r)
    (λ t r given. given.0) _ c.get_one.result c.get_one.ensures.none c.get_one.ensures.value)

pub returns-else-nodes-ge1-clause-nodes : goal.returns-else-nodes-ge1-clause-nodes
returns-else-nodes-ge1-clause-nodes c =
    let read =
    subst (IsNumberOr 3 1 7 (one_text (found_of c.args.found.now) (codes "nodes"))) (sym c.unwrap_or-nodes.ensures)
    (number_read 8 3 1 7 (omega arith) _
    (λ t r. ParsesUnsigned 8 10 t r × ExplainsUnsignedError 10 t r × HasUnsignedDigitsIfOk t r)
    (λ t r given. given.0) _ c.get_one.result c.get_one.ensures.none c.get_one.ensures.value) in
    out_of_range 3 1 7 c.unwrap_or-nodes.result _ read (omega arith) (omega arith)
    (λ low high. ⊎_elim (λ (above : (1 ≤ c.unwrap_or-nodes.result) × (7 < c.unwrap_or-nodes.result)). omega
    (arith, high, above.1)) (λ (below : c.unwrap_or-nodes.result < 1). omega (arith, low, below))
    c.else-nodes-ge1.either)
