use Rattle.forgetting_hall.proofs.Asking.{reply_in_order}
use Rattle.forgetting_hall.proofs.forgetting_hall.ForgettingHall.reply.Goals as goal

pub returns-clause-legal : goal.returns-clause-legal
returns-clause-legal g c = reply_in_order g.O.Object.rules g.O.Object.promise c.args.self.now c.args.session c.halls_rest.ensures.replies
