use Rattle.std.proofs.Common.{refl, sym, subst}
use Rattle.hall.specs.Halls.{IsHall}
use Rattle.hall.proofs.Called.{shows_in}
use Rattle.hall.proofs.Halls.{still_is}
use Rattle.hall.proofs.Lawful.{lost_still}
use Rattle.hall.proofs.hall.Hall.lose.Goals as goal

pub invariant_of-self : goal.invariant_of-self
invariant_of-self g c =
    subst (λ k. IsHall g.O.Object.rules (record { nodes = k; book = c.self.inside.book.items; second = c.self.inside.second })) (sym c.lose.ensures.left)
    (still_is g.O.Object.rules c.laws_below.ensures _ c.self.invariant _ refl refl
    (lost_still g.O.Object.rules c.laws_below.ensures c.self.inside.nodes c.args.node))

pub returns-clause-still : goal.returns-clause-still
returns-clause-still g c = shows_in _ _ c.self.view_is _ _ c.lose.ensures.left
    (lost_still g.O.Object.rules c.laws_below.ensures c.self.inside.nodes c.args.node)
