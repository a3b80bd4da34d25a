use Rattle.std.proofs.Common.{◌+◌, take, drop, refl, sym, ap, ◌∙◌}
use Rattle.std.proofs.lemmas.List.{take_all}
use Rattle.hall.specs.Tickets.{TicketState}
use Rattle.counted_hall.specs.Accounts.{all_tickets, sessions_of}
use Rattle.counted_hall.specs.Marks.{with_marks}
use Rattle.counted_hall.proofs.Taking.{made_more, made_whole, marked_more, marked_none}
use Rattle.counted_hall.proofs.comparing.mark_all.Goals as goal

pub loop-place-init : goal.loop-place-init
loop-place-init g c = refl

pub returns-then-not-mark_each-clause-none : goal.returns-then-not-mark_each-clause-none
returns-then-not-mark_each-clause-none g c e =
    let lists = c.args.tickets.now in
    let list = c.index-tickets-place.result in
    let n = c.loop-place.place in
    marked_none (λ (u : TicketState _ _). u.session) c.args.marks.now c.loop-place.marks
    (all_tickets (take n lists)) list.items c.loop-place.invariant (all_tickets lists)
    (all_tickets (drop (n + 1) lists))
    (made_whole lists n list c.loop-place-test.true c.index-tickets-place.is (λ v. v.items))
    (ap (λ l. with_marks c.loop-place.marks (sessions_of l)) (sym c.as_slice.ensures.value) ∙ c.mark_each.ensures.none c.if-not-mark_each.true)

pub loop-place-preserved : goal.loop-place-preserved
loop-place-preserved g c =
    let lists = c.args.tickets.now in
    let list = c.index-tickets-place.result in
    let n = c.loop-place.place in
    marked_more (λ (u : TicketState _ _). u.session) c.args.marks.now c.loop-place.marks
    (all_tickets (take n lists)) list.items c.loop-place.invariant c.mark_each.new.marks _
    (made_more lists n list c.loop-place-test.true c.index-tickets-place.is (λ v. v.items))
    (ap (λ l. with_marks c.loop-place.marks (sessions_of l)) (sym c.as_slice.ensures.value) ∙ c.mark_each.ensures.ok c.if-not-mark_each.false)

pub returns-clause-ok : goal.returns-clause-ok
returns-clause-ok g c e = ap (λ l. with_marks c.args.marks.now (sessions_of (all_tickets l)))
    (sym (take_all c.loop-place.place c.args.tickets.now c.loop-place-test.false)) ∙ c.loop-place.invariant
