use Rattle.std.proofs.Common.{ap, sym, ◌∙◌, arith}
use Rattle.std.specs.Option.{is_some}
use Rattle.slot_log.proofs.Held.{any_found}
use Rattle.slot_log.proofs.Stands.{none_in_slots}
use Rattle.slot_log.proofs.looking.is_decided.Goals as goal

pub returns-then-eq : goal.returns-then-eq
returns-then-eq g c =
    sym (any_found (λ d. g.C.PartialEq.eq d c.args.command.now) c.args.decisions.now c.unwrap-slot.result c.in-Some.decided.now
    (sym c.in-Some.ensures) (sym c.eq.ensures ∙ c.if-eq.true))

pub returns : goal.returns
returns g c =
    sym (none_in_slots (λ d. g.C.PartialEq.eq d c.args.command.now) c.args.decisions.now
    (λ s d there.
    let low = c.end-number-end.ensures.past s (ap is_some there) in
    c.loop-number.invariant s d (omega arith) there))
