use Rattle.std.proofs.Common.{arith, ◌≡◌, ◌+◌, ap, ap₂, subst, sym, ◌∙◌, take}
use Rattle.std.specs.Prelude.{slice_index_or, if◌then◌else◌}
use Rattle.ballot.specs.Members.{IsMembers, weigh}
use Rattle.ballot.proofs.Weights.{weigh-more, weigh-few}
use Rattle.ballot.proofs.members.Members.weigh.Goals as goal
use Rattle.ballot.proofs.members.Members.weigh.Goals.{then-has, else-has}

pub overflow_add-weight : goal.overflow_add-weight
overflow_add-weight c =
    let is = c.weights-weights.ensures.weights in
    let i = c.loop-place.place in
    let m : IsMembers c.weights-weights.result.now = subst IsMembers (sym is) c.weights-weights.ensures.members in
    let few = weigh-few c.weights-weights.result.now c.args.set.now i c.loop-place-test.true m in
    let so : c.loop-place.weight ≡ weigh (take i c.weights-weights.result.now) c.args.set.now =
    c.loop-place.invariant ∙ ap (λ ws. weigh (take i ws) c.args.set.now) (sym is) in
    omega arith

pub loop-place-preserved : goal.loop-place-preserved
loop-place-preserved c =
    let is = c.weights-weights.ensures.weights in
    let i = c.loop-place.place in
    let ws = c.weights-weights.result.now in
    let more = weigh-more ws c.args.set.now i c.loop-place-test.true in
    let so : c.loop-place.weight ≡ weigh (take i ws) c.args.set.now = c.loop-place.invariant ∙ ap (λ ws. weigh (take i ws) c.args.set.now) (sym is) in
    let step : weigh (take (i + 1) ws) c.args.set.now ≡ c.loop-place.weight + (if c.has.result then slice_index_or ws i 0 else 0) =
    more ∙ ap₂ (λ n b. n + (if b then slice_index_or ws i 0 else 0)) (sym so) (sym c.has.ensures) in
    let seen = ap (λ ws. weigh (take (i + 1) ws) c.args.set.now) is in
    elim c.if-has.branch [
      | then-has w ↦ w.weight-is ∙ sym (step ∙ ap (λ b. c.loop-place.weight + (if b then slice_index_or ws i 0 else 0)) w.if-has.true) ∙ seen
      | else-has w ↦ w.weight-is ∙ sym (step ∙ ap (λ b. c.loop-place.weight + (if b then slice_index_or ws i 0 else 0)) w.if-has.false ∙ omega arith) ∙ seen
    ]
