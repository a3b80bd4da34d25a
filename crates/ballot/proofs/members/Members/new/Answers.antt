use Rattle.std.proofs.Common.{arith, ◌≡◌, ◌-◌, ◌∙◌, ap, take, replicate}
use Rattle.std.proofs.lemmas.List.{take-replicate}
use Rattle.ballot.proofs.WeightRows.{ones_of}
use Rattle.ballot.proofs.members.Members.new.Goals as goal

pub returns : goal.returns
returns c =
    let l = c.in_ok-get.ensures.lookup in
    let less : c.from.result - 0 ≡ c.from.result = omega arith in
    ones_of c.weighted.result c.args.count c.in_ok-get.field-0.now
    (l.0.2 ∙ ap (λ n. take n (replicate 7 1)) less ∙ take-replicate c.from.result 7 1 l.0.1 ∙ ap (λ n. replicate n 1) c.from.ensures)
    c.weighted.ensures
