use Rattle.forgetting_hall.proofs.Told.{turn_told}
use Rattle.forgetting_hall.proofs.Working.{turn_calm, turn_member, turn_outcome}
use Rattle.forgetting_hall.proofs.forgetting_hall.ForgettingHall.take_turn.Goals as goal

pub returns-clause-turned : goal.returns-clause-turned
returns-clause-turned g c = record {
  tells = turn_told g.O.Object.rules c.args.self.now c.act.new.self c.args.node c.args.deed
      (λ room member follows same. c.tells_in_order.ensures.acts c.args.self.now c.act.new.self c.args.node c.args.deed room member c.requires follows same)
      c.act.result c.act.ensures.event c.act.ensures.gathering c.act.ensures.refused.err c.act.ensures.refused.refused;
  leads = c.leads_on.ensures.acts c.args.self.now c.act.new.self c.args.node c.args.deed c.act.result
      c.act.ensures.ok c.act.ensures.event c.act.ensures.refused;
}

pub returns-clause-outcome : goal.returns-clause-outcome
returns-clause-outcome g c =
    turn_outcome g.O.Object.rules c.args.self.now c.act.new.self c.args.node c.args.deed c.requires c.act.result c.act.ensures.outcome

pub returns-clause-member : goal.returns-clause-member
returns-clause-member g c =
    turn_member g.O.Object.rules c.args.self.now c.act.new.self c.args.node c.act.result c.act.ensures.refused.refused

pub returns-clause-calm : goal.returns-clause-calm
returns-clause-calm g c = turn_calm g.O.Object.rules c.args.self.now c.act.new.self c.args.node c.args.deed c.requires c.act.result
    c.act.ensures.outcome c.act.ensures.ok
