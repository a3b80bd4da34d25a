use Rattle.std.proofs.Common.{sym, ap, ◌∙◌}
use Rattle.std.specs.Option.{option_copied}
use Rattle.std.specs.FinMap.{get}
use Rattle.slot_log.specs.Decisions.{next_decided}
use Rattle.slot_log.proofs.Maps.{none_from}
use Rattle.slot_log.proofs.slot_log.SlotLog.next_decided.Goals as goal

pub returns-in_err-slot-clause-decision : goal.returns-in_err-slot-clause-decision
returns-in_err-slot-clause-decision g c =
    ap option_copied c.from_residual.ensures
    ∙ sym (none_from (get c.self.inside.decisions c.self.inside.slot_out)
    (λ there. c.in_err-slot.ensures
    (c.self.invariant.slot_out.0, c.self.invariant.within c.self.inside.slot_out there)))
    ∙ ap next_decided c.self.view_is

pub returns-clause-decision : goal.returns-clause-decision
returns-clause-decision g c =
    c.get.ensures
    ∙ ap (get c.self.inside.decisions) c.in_ok-slot.ensures.1
    ∙ ap next_decided c.self.view_is
