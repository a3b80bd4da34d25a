use Rattle.std.proofs.Common.{take, refl, sym, subst}
use Rattle.object.specs.Lists.{In}
use Rattle.std.proofs.lemmas.List.{take_all}
use Rattle.hall.specs.Halls.{Agrees}
use Rattle.counted_hall.specs.Accounts.{all_tickets}
use Rattle.counted_hall.proofs.Taking.{all_more, made_more, In-made}
use Rattle.counted_hall.proofs.comparing.all_agree.Goals as goal

pub loop-place-init : goal.loop-place-init
loop-place-init g c = λ t i. absurd i

pub returns-then-not-each_agrees : goal.returns-then-not-each_agrees
returns-then-not-each_agrees g c =
    let list = c.index-tickets-place.result in
    let there = In-made c.args.tickets.now c.loop-place.place list c.loop-place-test.true c.index-tickets-place.is (λ v. v.items) in (
      (λ e. absurd (cc)),
      λ all. let yes =
          c.each_agrees.ensures.1 (λ t i. all t (there t (subst (In t) c.as_slice.ensures.value i))) in let no =
          c.if-not-each_agrees.true in absurd (cc),
    )

pub loop-place-preserved : goal.loop-place-preserved
loop-place-preserved g c =
    let lists = c.args.tickets.now in
    let list = c.index-tickets-place.result in
    all_more (λ t. Agrees c.args.hall.now t) (all_tickets (take c.loop-place.place lists)) list.items _
    (made_more lists c.loop-place.place list c.loop-place-test.true c.index-tickets-place.is (λ v. v.items))
    c.loop-place.invariant (λ t i. c.each_agrees.ensures.0 c.if-not-each_agrees.false t (subst (In t) (sym c.as_slice.ensures.value) i))

pub returns : goal.returns
returns g c = (
  (λ e t i. c.loop-place.invariant t
      (subst (λ l. In t (all_tickets l))
      (sym (take_all c.loop-place.place c.args.tickets.now c.loop-place-test.false)) i)),
  λ all. refl,
)
