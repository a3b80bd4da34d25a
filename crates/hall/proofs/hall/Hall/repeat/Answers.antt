use Rattle.std.proofs.Common.{refl, ap, ◌∙◌}
use Rattle.hall.specs.Halls.{HallState}
use Rattle.hall.proofs.Called.{shows_in, repeated_is, repeated_shows_on, repeated_past}
use Rattle.hall.proofs.hall.Hall.repeat.Goals as goal

pub invariant_of-self-2 : goal.invariant_of-self-2
invariant_of-self-2 g c = repeated_is g.O.Object.rules c.laws_below.ensures _ c.self.invariant c.args.node
    c.repeat.new.self c.in_ok-came.ensures.none c.in_ok-came.ensures.ok

pub returns-clause-still : goal.returns-clause-still
returns-clause-still g c = shows_in _ _ c.self.view_is _ _ refl
    (repeated_shows_on g.O.Object.rules c.laws_below.ensures _ c.self.invariant c.args.node c.repeat.new.self
    c.in_ok-came.ensures.none c.in_ok-came.ensures.ok)

pub returns-clause-past : goal.returns-clause-past
returns-clause-past g c = (repeated_past g.O.Object.rules c.laws_below.ensures _ c.self.invariant c.args.node
    c.repeat.new.self c.in_ok-came.ensures.none c.in_ok-came.ensures.ok).0 ∙ ap
    (λ (h : HallState g.row.O-Op.Denot g.row.O-Reply.Denot). h.nodes.past) c.self.view_is
