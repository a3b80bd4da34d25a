use Rattle.std.proofs.Common.{◌∷◌, [], take, refl, sym, subst}
use Rattle.object.specs.Lists.{In}
use Rattle.std.proofs.lemmas.List.{take_all}
use Rattle.hall.specs.Halls.{Agrees}
use Rattle.counted_hall.proofs.Taking.{all_more, of_one, one_taken, In-at}
use Rattle.counted_hall.proofs.comparing.each_agrees.Goals as goal

pub loop-place-init : goal.loop-place-init
loop-place-init g c = λ t i. absurd i

pub returns-then-not-agrees : goal.returns-then-not-agrees
returns-then-not-agrees g c =
    let t = c.index-tickets-place.result in
    let there = In-at c.args.tickets.now c.loop-place.place t c.loop-place-test.true c.index-tickets-place.is in
    ((λ e. absurd (cc)), λ all. let yes = c.agrees.ensures.1 (all t there) in let no = c.if-not-agrees.true in absurd (cc))

pub loop-place-preserved : goal.loop-place-preserved
loop-place-preserved g c =
    let ts = c.args.tickets.now in
    let t = c.index-tickets-place.result in
    all_more (λ u. Agrees c.args.hall.now u) (take c.loop-place.place ts) (t ∷ []) _
    (one_taken ts c.loop-place.place t c.loop-place-test.true c.index-tickets-place.is)
    c.loop-place.invariant (of_one (λ u. Agrees c.args.hall.now u) t (c.agrees.ensures.0 c.if-not-agrees.false))

pub returns : goal.returns
returns g c =
    ((λ e t i. c.loop-place.invariant t (subst (In t) (sym (take_all c.loop-place.place c.args.tickets.now c.loop-place-test.false)) i)), λ all. refl)
