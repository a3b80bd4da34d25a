use Rattle.std.proofs.Common.{arith, ◌≡◌, ◌+◌, ap, subst, sym, ◌∙◌, sum, take, length, ◌≤◌}
use Rattle.std.proofs.lemmas.List.{take_all}
use Rattle.ballot.specs.Members.{IsMembers}
use Rattle.ballot.proofs.Weights.{sum-more, sum-few}
use Rattle.ballot.proofs.members.Members.total.Goals as goal

pub overflow_add-total : goal.overflow_add-total
overflow_add-total c =
    let is = c.weights-weight-items.ensures.weights in
    let m : IsMembers c.weights-weight-items.result.now = subst IsMembers (sym is) c.weights-weight-items.ensures.members in
    let few = sum-few c.weights-weight-items.result.now c.loop-weight.weight-index c.loop-weight-test.true m in
    let so : c.loop-weight.total ≡ sum (take c.loop-weight.weight-index c.weights-weight-items.result.now) =
    c.loop-weight.invariant ∙ ap (λ ws. sum (take c.loop-weight.weight-index ws)) (sym is) in
    omega arith

pub loop-weight-preserved : goal.loop-weight-preserved
loop-weight-preserved c =
    let is = c.weights-weight-items.ensures.weights in
    let i = c.loop-weight.weight-index in
    let more = sum-more c.weights-weight-items.result.now i c.loop-weight-test.true in
    let so : c.loop-weight.total ≡ sum (take i c.weights-weight-items.result.now) = c.loop-weight.invariant ∙ ap (λ ws. sum (take i ws)) (sym is) in
    omega arith ∙ ap (λ ws. sum (take (i + 1) ws)) is

pub returns : goal.returns
returns c =
    let is = c.weights-weight-items.ensures.weights in
    c.loop-weight.invariant ∙ ap sum
    (take_all c.loop-weight.weight-index c.args.self.now
    (subst (λ ws. length ws ≤ c.loop-weight.weight-index) is c.loop-weight-test.false))
