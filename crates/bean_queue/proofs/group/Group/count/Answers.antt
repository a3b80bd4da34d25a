use Rattle.std.proofs.Common.{arith}
use Rattle.bean_queue.proofs.Crowds.{few-in}
use Rattle.bean_queue.proofs.group.Group.count.Goals as goal

pub overflow_add-count : goal.overflow_add-count
overflow_add-count c =
    let few = few-in c.args.self.now c.args.sessions.now.entries c.requires in
    let sum = c.loop-session.invariant in
    omega (arith, few, sum)
