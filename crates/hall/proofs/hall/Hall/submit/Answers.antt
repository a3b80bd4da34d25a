use Rattle.std.proofs.Common.{subst}
use Rattle.std.specs.Prelude.{OnOk}
use Rattle.agreement.specs.declared.event.Event.TheVariants.{Submit}
use Rattle.hall.specs.Shows.{Follows}
use Rattle.hall.proofs.hall.Hall.submit.Goals as goal

pub returns-else-is_err-clause-event : goal.returns-else-is_err-clause-event
returns-else-is_err-clause-event g c =
    subst (λ k. OnOk c.submit_next-submitted.result
    (Follows g.O.Object.rules c.args.self.now.nodes
    (Submit c.args.node (record { key = k; act = c.args.act })) c.submit_next-submitted.new.self.nodes))
    c.next_key-key.ensures c.submit_next-submitted.ensures.event
