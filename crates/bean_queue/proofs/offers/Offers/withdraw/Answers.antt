use Rattle.bean_queue.proofs.best.Offering.{taken-out}
use Rattle.bean_queue.proofs.offers.Offers.withdraw.Goals as goal

pub returns-clause-withdrawn : goal.returns-clause-withdrawn
returns-clause-withdrawn c = taken-out c.args.self.now (record { places = c.remove.new.self }) c.args.place c.remove.ensures.updates.0
