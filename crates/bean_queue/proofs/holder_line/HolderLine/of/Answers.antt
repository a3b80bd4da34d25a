use Rattle.std.proofs.Common.{◌≡◌, ◌∙◌, ◌+◌, [], suc, ◌∷◌, ◌<◌, length, get_or, drop, drop-cons, rules, ap, arith}
use Rattle.std.proofs.lemmas.List.{drop_all}
use Rattle.bean_queue.proofs.due.Lines.{joined-one, joined-all, got-in}
use Rattle.object.proofs.KeyMaps.{on_err}
use Rattle.bean_queue.proofs.holder_line.HolderLine.of.Goals as goal

pub loop-number-preserved : goal.loop-number-preserved
loop-number-preserved c =
    let numbers = c.args.numbers.now in
    let i = c.loop-number.number-index in
    let below : i < length numbers = search rules in
    let next : suc i ≡ i + 1 = omega arith in
    let cut : drop i numbers ≡ get_or numbers i 0 ∷ drop (i + 1) numbers =
    drop-cons numbers i 0 below ∙ ap (λ n. get_or numbers i 0 ∷ drop n numbers) next in
    joined-one c.loop-number.line c.join.new.self numbers (drop i numbers) (drop (i + 1) numbers) (get_or numbers i 0)
    c.args.sessions.now.entries c.requires cut c.join.ensures.grown c.in_ok-join.ensures.stands c.loop-number.invariant

pub returns-clause-joined : goal.returns-clause-joined
returns-clause-joined c =
    let rest : drop c.loop-number.number-index c.args.numbers.now ≡ [] = drop_all c.loop-number.number-index c.args.numbers.now (search rules) in
    joined-all c.loop-number.line c.args.numbers.now (drop c.loop-number.number-index c.args.numbers.now) c.args.sessions.now.entries rest
    c.loop-number.invariant

pub returns-in_err-join-clause-err : goal.returns-in_err-join-clause-err
returns-in_err-join-clause-err c =
    let numbers = c.args.numbers.now in
    let i = c.loop-number.number-index in
    let below : i < length numbers = search rules in
    on_err c.from_residual.result (get_or numbers i 0, got-in numbers i below, c.in_err-join.ensures.err)
