use Rattle.std.proofs.Common.{◌≢◌, ◌∙◌, inl, None, refl, sym, subst}
use Rattle.beanpax.specs.Program.{TellsOfLog}
use Rattle.beanpax.proofs.Openings.{listening_told, log_told, memory_told, port_told, port_untold, unwritten_told}
use Rattle.beanpax.proofs.opening.open_all.Goals as goal
use Rattle.beanpax.proofs.opening.open_all.Goals.{in-Some+in_ok-start-in-Some, in-None}

pub returns-in_err-address-clause-told : goal.returns-in_err-address-clause-told
returns-in_err-address-clause-told g c = memory_told g.E.ByteOut _ c.args.errors.now c.from_residual.result c.from_residual.ensures.1

pub returns-in_err-listener-clause-told : goal.returns-in_err-listener-clause-told
returns-in_err-listener-clause-told g c =
    listening_told g.E.ByteOut _ c.args.errors.now c.listen.new.errors c.deref.result.now c.in_err-listener.field-0.0 c.from_residual-in_err-listener.result
    c.from_residual-in_err-listener.ensures.1 c.in_err-listener.ensures.fault c.in_err-listener.ensures.cause

pub returns-in_err-tell_port-clause-tells : goal.returns-in_err-tell_port-clause-tells
returns-in_err-tell_port-clause-tells g c =
    port_untold g.W.ByteOut c.args.output.now c.tell_port.new.output c.deref-2.result.now c.args.options.now.host c.args.options.now.port
    (c.deref-2.ensures ∙ c.in_ok-address.ensures) c.from_residual-in_err-tell_port.result c.from_residual-in_err-tell_port.ensures.0
    c.tell_port.ensures.begins

pub returns-in_err-tell_port-clause-told : goal.returns-in_err-tell_port-clause-told
returns-in_err-tell_port-clause-told g c =
    let log : TellsOfLog (c.args.options.now.log ≢ None) g.E.ByteOut c.listen.new.errors c.match-options.errors =
    elim c.match-options.branch [
      | in-Some+in_ok-start-in-Some w ↦ subst (TellsOfLog (c.args.options.now.log ≢ None) g.E.ByteOut c.listen.new.errors) (sym w.errors-is)
          (let told = w.in_ok-start-in-Some.ensures.told in
          log_told g.E.ByteOut c.listen.new.errors told.0 w.start.new.errors c.args.options.now.log _ w.in-Some.is told.1 told.2.silent)
      | in-None w ↦ subst (TellsOfLog (c.args.options.now.log ≢ None) g.E.ByteOut c.listen.new.errors) (sym w.errors-is)
          (record { more = inl refl; silent = λ none. refl })
    ] in
    unwritten_told g.E.ByteOut _ c.args.errors.now c.match-options.errors c.in_err-tell_port.field-0.0 c.from_residual-in_err-tell_port.result
    c.from_residual-in_err-tell_port.ensures.1 c.in_err-tell_port.ensures.fault
    (subst (λ e. TellsOfLog (c.args.options.now.log ≢ None) g.E.ByteOut e c.match-options.errors) c.in_ok-listener.ensures.silent log)

pub returns-clause-tells : goal.returns-clause-tells
returns-clause-tells g c =
    port_told g.W.ByteOut c.args.output.now c.tell_port.new.output c.deref-2.result.now c.args.options.now.host c.args.options.now.port
    (c.deref-2.ensures ∙ c.in_ok-address.ensures) _ c.in_ok-tell_port.ensures.told c.tell_port.ensures.begins
