use Rattle.std.proofs.Common.{ap, subst, ◌∙◌}
use Rattle.std.specs.FinMap.{get, entries}
use Rattle.std.specs.Option.{is_some}
use Rattle.slot_log.specs.Books.{SlotBook}
use Rattle.slot_log.specs.Proposals.{IsInWindow}
use Rattle.slot_log.proofs.slot_log.SlotLog.proposals.Goals as goal

pub returns-clause-entries : goal.returns-clause-entries
returns-clause-entries g c = c.entries.ensures ∙ ap (λ (b : SlotBook _). entries b.proposals) c.self.view_is

pub returns-clause-near : goal.returns-clause-near
returns-clause-near g c = λ s there.
    subst (λ (b : SlotBook _). IsInWindow b.slot_out s) c.self.view_is
    (c.self.invariant.near s (ap (λ (b : SlotBook _). is_some (get b.proposals s)) c.self.view_is ∙ there))
