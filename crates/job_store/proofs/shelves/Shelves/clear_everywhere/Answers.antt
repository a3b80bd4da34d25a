use Rattle.std.proofs.Common.{[]}
use Rattle.object.specs.Lists.{In}
use Rattle.job_store.specs.Spots.{at_spot}
use Rattle.job_store.proofs.shelving.Everywhere.{taken-twice, ahead-taken, everywhere}
use Rattle.job_store.proofs.shelves.Shelves.clear_everywhere.Goals as goal

pub returns-clause-taken : goal.returns-clause-taken
returns-clause-taken c jobs ahead lacks =
    let one = c.clear_from.ensures.taken jobs ahead lacks in
    let two = taken-twice one (c.clear_from-2.ensures.taken jobs (ahead-taken one ahead) lacks) in
    let three = taken-twice two (c.clear_from-3.ensures.taken jobs (ahead-taken two ahead) lacks) in
    let four = taken-twice three (c.clear_from-4.ensures.taken jobs (ahead-taken three ahead) lacks) in
    let five = taken-twice four (c.clear_from-5.ensures.taken jobs (ahead-taken four ahead) lacks) in
    taken-twice five (c.clear_from-6.ensures.taken jobs (ahead-taken five ahead) lacks)

pub returns-clause-gone : goal.returns-clause-gone
returns-clause-gone c l p i b =
    everywhere (λ x q. In q x.places → ⊥) c.clear_from.new.self c.clear_from-2.new.self c.clear_from-3.new.self
    c.clear_from-4.new.self c.clear_from-5.new.self c.clear_from-6.new.self c.args.id (at_spot c.args.spot.now)
    c.holder.result c.holder.ensures (λ q b i. c.clear_from.ensures.gone q i b) (λ q b i. c.clear_from-2.ensures.gone q i b)
    (λ q b i. c.clear_from-3.ensures.gone q i b) (λ q b i. c.clear_from-4.ensures.gone q i b)
    (λ q b i. c.clear_from-5.ensures.gone q i b) (λ q b i. c.clear_from-6.ensures.gone q i b)
    (λ l q none i. none ((c.clear_from-2.ensures.taken [] (λ e i. absurd i) (λ job there. there)).only l q i))
    (λ l q none i. none ((c.clear_from-3.ensures.taken [] (λ e i. absurd i) (λ job there. there)).only l q i))
    (λ l q none i. none ((c.clear_from-4.ensures.taken [] (λ e i. absurd i) (λ job there. there)).only l q i))
    (λ l q none i. none ((c.clear_from-5.ensures.taken [] (λ e i. absurd i) (λ job there. there)).only l q i))
    (λ l q none i. none ((c.clear_from-6.ensures.taken [] (λ e i. absurd i) (λ job there. there)).only l q i)) l p b i
