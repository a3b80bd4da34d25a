use Rattle.std.proofs.Common.{◌∙◌, ◌+◌, ap}
use Rattle.object.specs.declared.command.Act.TheVariants.{Close}
use Rattle.hall.specs.Tickets.{TicketState, with_act}
use Rattle.node_threads.proofs.attendant.AttendantService.close.Goals as goal

pub returns-in-Ok : goal.returns-in-Ok
returns-in-Ok c = λ d.
    let ticket = d.in-Ok.ensures.ticket ∙ ap (λ (q : TicketState _ _). with_act q Close) d.loop.invariant.2 in
    let count = d.in-Ok.ensures.counted ∙ ap (λ n. n + 1) d.loop.invariant.3 in
    λ i. record { ticket = ticket i; count = count i }
