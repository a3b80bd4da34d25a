use Rattle.std.proofs.Common.{◌∙◌}
use Rattle.std.proofs.lemmas.Result.{on_ok_weaker, on_err_weaker, IfOk-weaker}
use Rattle.bean_queue.proofs.calm.Called.{called-there, quiet-state, quiet-reply}
use Rattle.bean_queue.proofs.logic.Logic.carry_out_quietly.Goals as goal

pub quiet_row-requires-clause-there : goal.quiet_row-requires-clause-there
quiet_row-requires-clause-there g c = called-there c.args.op.now c.args.self.now.now c.call.new.self.now c.args.key.session c.in_ok-call.ensures.now

pub returns : goal.returns
returns g c = record {
  state = on_ok_weaker c.quiet_row.result
      (quiet-state c.args.op.now c.args.key c.args.self.now.now c.call.new.self.now c.quiet_row.new.self.now
      c.requires.can.kind c.requires.can.calm c.in_ok-call.ensures.now)
      c.quiet_row.ensures.state;
  reply = IfOk-weaker c.quiet_row.result _ _
      (λ reply. quiet-reply c.args.op.now c.args.key c.args.self.now.now c.call.new.self.now reply c.requires.can.kind c.requires.can.calm c.in_ok-call.ensures.now)
      c.quiet_row.ensures.reply;
  err = on_err_weaker c.quiet_row.result (λ e. e ∙ c.call.ensures.before) c.quiet_row.ensures.err;
}
