use Rattle.std.proofs.Common.{◌≡◌, IfErr, rules, subst}
use Rattle.session.specs.declared.faults.SessionFault.TheVariants.{OutOfMemory}
use Rattle.session.specs.Items.Response.{Replied}
use Rattle.session.proofs.Going.{refuses}
use Rattle.session.proofs.server.answer.Goals as goal

pub returns-in_err-reply-in-Ok-clause-err : goal.returns-in_err-reply-in-Ok-clause-err
returns-in_err-reply-in-Ok-clause-err g c =
    let fault : IfErr c.from_residual.result (λ f. f ≡ OutOfMemory) = search rules in
    refuses g.S.Service.asks _ _ _ (Replied c.in-Ok.reply) c.from_residual.result fault
    (subst (λ r. g.S.Service.asks c.args.service.now c.args.op r c.ask.new.self) c.in-Ok.is c.ask.ensures)

pub returns-in_ok-reply-in-Ok-clause-ok : goal.returns-in_ok-reply-in-Ok-clause-ok
returns-in_ok-reply-in-Ok-clause-ok g c = (
  Replied c.in-Ok.reply,
  subst (λ r. g.S.Service.asks c.args.service.now c.args.op r c.ask.new.self) c.in-Ok.is
      c.ask.ensures,
  c.in_ok-reply-in-Ok.ensures.ok.0,
)
