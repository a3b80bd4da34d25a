use Rattle.std.proofs.Common.{ap, subst, ◌∙◌}
use Rattle.std.specs.FinMap.{get}
use Rattle.std.specs.Option.{is_some}
use Rattle.slot_log.specs.Books.{SlotBook}
use Rattle.slot_log.specs.Proposals.{IsInWindow}
use Rattle.slot_log.proofs.slot_log.SlotLog.window_end.Goals as goal

pub returns-clause-near : goal.returns-clause-near
returns-clause-near g c = λ s there.
    subst (λ (b : SlotBook _). IsInWindow b.slot_out s) c.self.view_is
    (c.self.invariant.near s (ap (λ (b : SlotBook _). is_some (get b.proposals s)) c.self.view_is ∙ there))
