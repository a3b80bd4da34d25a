use Rattle.std.proofs.Common.{◌≡◌, ◌∷◌, [], ◌++◌, ◌+◌, true, false, take, drop, refl, sym, ap, ◌∙◌}
use Rattle.std.proofs.lemmas.List.{take_all, take-append-drop}
use Rattle.hall.specs.Tickets.{TicketState}
use Rattle.counted_hall.specs.Accounts.{sessions_of}
use Rattle.counted_hall.specs.Marks.{is_free, with_mark, with_marks}
use Rattle.counted_hall.proofs.Taking.{marked_more, marked_none, one_marked, one_stops, one_taken}
use Rattle.counted_hall.proofs.comparing.mark_each.Goals as goal

pub loop-place-init : goal.loop-place-init
loop-place-init g c = refl

pub returns-then-not-mark-clause-none : goal.returns-then-not-mark-clause-none
returns-then-not-mark-clause-none g c e =
    let ts = c.args.tickets.now in
    let t = c.index-tickets-place.result in
    let n = c.loop-place.place in
    let taken : is_free c.loop-place.marks t.session ≡ false =
    ap (is_free c.loop-place.marks) (sym c.session.ensures) ∙ sym c.mark.ensures.free ∙ c.if-not-mark.true in
    marked_none (λ (u : TicketState _ _). u.session) c.args.marks.now c.loop-place.marks (take n ts) (t ∷ []) c.loop-place.invariant ts (drop (n + 1) ts)
    (sym (take-append-drop (n + 1) ts) ∙ ap (λ l. l ++ drop (n + 1) ts) (one_taken ts n t c.loop-place-test.true c.index-tickets-place.is))
    (one_stops c.loop-place.marks t.session taken)

pub loop-place-preserved : goal.loop-place-preserved
loop-place-preserved g c =
    let ts = c.args.tickets.now in
    let t = c.index-tickets-place.result in
    let n = c.loop-place.place in
    let free : is_free c.loop-place.marks t.session ≡ true =
    ap (is_free c.loop-place.marks) (sym c.session.ensures) ∙ sym c.mark.ensures.free ∙ c.if-not-mark.false in
    marked_more (λ (u : TicketState _ _). u.session) c.args.marks.now c.loop-place.marks (take n ts) (t ∷ []) c.loop-place.invariant c.mark.new.marks _
    (one_taken ts n t c.loop-place-test.true c.index-tickets-place.is)
    (one_marked c.loop-place.marks c.mark.new.marks t.session free
    (c.mark.ensures.ok c.if-not-mark.false ∙ ap (with_mark c.loop-place.marks) c.session.ensures))

pub returns-clause-ok : goal.returns-clause-ok
returns-clause-ok g c e = ap (λ l. with_marks c.args.marks.now (sessions_of l))
    (sym (take_all c.loop-place.place c.args.tickets.now c.loop-place-test.false)) ∙ c.loop-place.invariant
