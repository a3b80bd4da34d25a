use Rattle.forgetting_hall.proofs.Told.{letter_told}
use Rattle.forgetting_hall.proofs.Working.{letter_calm, letter_kept, turn_member}
use Rattle.forgetting_hall.proofs.forgetting_hall.ForgettingHall.receive.Goals as goal

pub returns-clause-turned : goal.returns-clause-turned
returns-clause-turned g c = record {
  tells = letter_told g.O.Object.rules c.args.self.now c.deliver.new.self c.args.node
      (λ l left room follows same. c.tells_in_order.ensures.receives c.args.self.now c.deliver.new.self c.args.node l left room follows same)
      (λ still same. c.tells_in_order.ensures.stays c.args.self.now c.deliver.new.self still same)
      c.deliver.result c.deliver.ensures.event c.deliver.ensures.still c.deliver.ensures.refused.none c.deliver.ensures.gathering
      c.deliver.ensures.refused.refused.err c.deliver.ensures.refused.refused.refused;
  leads = c.leads_on.ensures.receives c.args.self.now c.deliver.new.self c.args.node c.deliver.result
      c.deliver.ensures.ok c.deliver.ensures.event c.deliver.ensures.forgotten c.deliver.ensures.still c.deliver.ensures.refused;
}

pub returns-clause-member : goal.returns-clause-member
returns-clause-member g c =
    turn_member g.O.Object.rules c.args.self.now c.deliver.new.self c.args.node c.deliver.result c.deliver.ensures.refused.refused.refused

pub returns-clause-calm : goal.returns-clause-calm
returns-clause-calm g c = letter_calm g.O.Object.rules c.args.self.now c.deliver.new.self c.args.node c.deliver.result
    c.deliver.ensures.came c.deliver.ensures.refused.none

pub returns-clause-kept : goal.returns-clause-kept
returns-clause-kept g c = letter_kept g.O.Object.rules c.args.self.now c.deliver.new.self c.args.node c.deliver.result
    c.deliver.ensures.ok c.deliver.ensures.forgotten c.deliver.ensures.refused
