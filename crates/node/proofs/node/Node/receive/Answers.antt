use Rattle.std.proofs.Common.{sym, subst}
use Rattle.std.proofs.lemmas.Result.{on_ok_weaker}
use Rattle.node.specs.Holding.{Holding}
use Rattle.node.specs.Kept.{ObeysBook}
use Rattle.node.specs.Receiving.{IsFit, ShowsReceived}
use Rattle.node.proofs.Holding.{still_obeys, either_way_both}
use Rattle.node.proofs.node.Node.receive.Goals as goal

pub invariant_of-self : goal.invariant_of-self
invariant_of-self g c =
    let h = c.self.inside.lean in
    either_way_both c.receive.result c.receive.ensures.ok c.receive.ensures.object c.receive.ensures.err
    (λ shows stays. subst (λ o. ObeysBook g.O.Object.rules o c.receive.new.self.state.replica) (sym stays)
    (still_obeys g.O.Object.rules h.object c.ballot_laws.ensures c.args.«from» h.state c.receive.new.self.state c.args.body.now
    c.args.out.now.items c.receive.new.out.items shows
    (subst (λ x. IsFit x c.args.body.now) (sym c.self.view_is) c.requires) c.self.invariant))
    (λ e. subst (λ (y : Holding _ _). ObeysBook g.O.Object.rules y.object y.state.replica) (sym e.0) c.self.invariant)

pub returns-clause-ok : goal.returns-clause-ok
returns-clause-ok g c = on_ok_weaker c.receive.result (λ shows.
    subst (λ x. ShowsReceived c.args.«from» x c.args.body.now c.receive.new.self.state c.args.out.now.items c.receive.new.out.items) c.self.view_is shows)
    c.receive.ensures.ok
