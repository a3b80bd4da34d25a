use Rattle.std.proofs.Common.{inl, inr, refl, subst}
use Rattle.command_log.specs.Faults.{IsLogFault}
use Rattle.inspection.proofs.LogsRead.{holds_log}
use Rattle.inspection.proofs.inspecting_log.verdict_of.Goals as goal

pub returns-in-Ok : goal.returns-in-Ok
returns-in-Ok c = λ read.
    let text = c.args.text.now in
    holds_log text c.in-Ok.whole c.args.commands.now c.saturating_sub.result (c.in-Ok.ensures.whole text c.args.commands.now read) c.saturating_sub.ensures

pub returns-in-Err-Unbegun : goal.returns-in-Err-Unbegun
returns-in-Err-Unbegun c = λ read.
    let text = c.args.text.now in
    inr (subst (IsLogFault text) c.in-Err-Unbegun.field-0-is (c.in-Err-Unbegun.ensures.fault text c.args.commands.now read), refl, refl)

pub returns-in-Err-BadHead : goal.returns-in-Err-BadHead
returns-in-Err-BadHead c = λ read.
    let text = c.args.text.now in
    inr (subst (IsLogFault text) c.in-Err-BadHead.field-0-is (c.in-Err-BadHead.ensures.fault text c.args.commands.now read), refl)

pub returns-in-Err-Damaged : goal.returns-in-Err-Damaged
returns-in-Err-Damaged c = λ read.
    let text = c.args.text.now in
    inl (subst (IsLogFault text) c.in-Err-Damaged.field-0-is (c.in-Err-Damaged.ensures.fault text c.args.commands.now read))
