use Rattle.std.proofs.Common.{sym, subst}
use Rattle.object.specs.Happenings.{IsTimeline}
use Rattle.hall.specs.Explained.{IsExplained}
use Rattle.hall.specs.Halls.{HallState}
use Rattle.hall.proofs.Handing.{some_if}
use Rattle.hall.proofs.hall.Hall.dump.Goals as goal

pub unwrap-requires : goal.unwrap-requires
unwrap-requires g c =
    some_if c.new.result _ _ c.new.ensures
    (subst IsTimeline (λ i. record {
      submitted = sym c.in_ok-submitted.ensures.submitted i;
      answers =
          sym c.in_ok-submitted.ensures.answers i;
    }) c.in_ok-submitted.ensures.kept.timeline)

pub returns-clause-legal : goal.returns-clause-legal
returns-clause-legal g c = subst
    (λ (h : HallState g.row.O-Op.Denot g.row.O-Reply.Denot).
    IsExplained g.O.Object.rules g.O.Object.promise h.nodes.past) c.self.view_is
    (c.every_hall.ensures.explained c.self.inside.nodes c.self.invariant.shown)
