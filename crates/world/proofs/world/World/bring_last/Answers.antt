use Rattle.std.proofs.Common.{[], ap, ◌∙◌, subst}
use Rattle.world.specs.Rescues.{keeps_nodes}
use Rattle.world.specs.WaysOut.{Goes}
use Rattle.world.proofs.ways.WaysBack.{way_rescues}
use Rattle.world.proofs.world.World.bring_last.Goals as goal

pub returns-clause-some : goal.returns-clause-some
returns-clause-some g c =
    let trial = c.in_ok-way.ensures.trial in
    let goes = subst (λ w. Goes g.O.Object.rules keeps_nodes w [] c.bring.new.self.trial c.bring.new.self.events.items) trial
    (subst (λ es. Goes g.O.Object.rules keeps_nodes c.in_ok-way.way.trial es c.bring.new.self.trial
    c.bring.new.self.events.items) c.in_ok-way.ensures.events c.in_ok-bring.ensures.goes) in
    way_rescues c.ballot_laws.ensures g.O.Object.rules g.O.Op.PartialEq.eq g.met.O.Op.Eq.laws.refl c.args.self.now
    c.bring.new.self.trial c.show_reachable.ensures.world c.show_reachable-2.ensures.world c.args.command.now
    c.requires.last c.in_ok-bring.ensures.performed
    (c.in_ok-bring.ensures.submitted ∙ ap (λ w. w.happenings.submitted) trial) c.bring.new.self.events.items goes
