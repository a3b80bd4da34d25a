use Rattle.job_store.proofs.shelving.Shelving.{changed-put, changed-went, puts-nothing, not_ok}
use Rattle.job_store.proofs.shelves.Shelves.put_changed.Goals as goal

pub returns-in_err-leave-clause-put : goal.returns-in_err-leave-clause-put
returns-in_err-leave-clause-put c =
    puts-nothing c.args.self.now c.leave.new.self _ c.from_residual-in_err-leave.result c.from_residual-in_err-leave.ensures.0
    c.in_err-leave.ensures.more

pub returns-in_err-put-clause-put : goal.returns-in_err-put-clause-put
returns-in_err-put-clause-put c =
    changed-put c.args.self.now c.leave.new.self c.put.new.self c.args.id c.args.pri c.args.state c.in_ok-tube.tube
    c.args.job.now _ c.from_residual-in_err-put.result c.in_ok-tube.ensures c.in_ok-leave.ensures.more
    c.in_err-put.ensures.put (not_ok _ c.from_residual-in_err-put.result c.from_residual-in_err-put.ensures.0)

pub returns-clause-put : goal.returns-clause-put
returns-clause-put c =
    changed-put c.args.self.now c.leave.new.self c.put.new.self c.args.id c.args.pri c.args.state c.in_ok-tube.tube
    c.args.job.now _ _ c.in_ok-tube.ensures c.in_ok-leave.ensures.more c.in_ok-put.ensures.put c.in_ok-put.ensures.put.come

pub returns-clause-went : goal.returns-clause-went
returns-clause-went c = changed-went c.args.self.now c.leave.new.self c.put.new.self c.args.id c.args.pri c.args.state
    c.in_ok-tube.tube c.args.job.now c.in_ok-tube.ensures c.in_ok-leave.ensures.ok c.in_ok-put.ensures.went
