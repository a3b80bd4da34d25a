use Rattle.std.proofs.Common.{length}
use Rattle.forgetting.proofs.Exact.{one_exact, one_itself, told_apart}
use Rattle.cluster.proofs.together.Counting.{few_in_all}
use Rattle.cluster.proofs.together.Happened.{legal_part}
use Rattle.cluster.proofs.together.Showing.{hosts_show, step_shows}
use Rattle.cluster.proofs.laws.every_cluster.Goals as goal

pub returns-clause-shown : goal.returns-clause-shown
returns-clause-shown g c = λ owner members k are room. hosts_show c.ballot_laws.ensures
    (record {
      none = c.filter_remembers.ensures.none;
      done = c.filter_remembers.ensures.done;
      stale = c.filter_remembers.ensures.stale;
    })
    g.O.Object.rules (one_exact g.O.Object.rules g.O.Op.PartialEq.eq g.met.O.Object.same g.met.O.Op.Value.exact)
    (one_itself g.O.Object.rules g.O.Op.PartialEq.eq g.met.O.Object.same g.met.O.Op.Eq.laws.refl)
    (told_apart g.O.Op.PartialEq.eq g.met.O.Op.Value.exact g.met.O.Op.Eq.laws.refl) owner members k are room

pub returns-clause-goes_on : goal.returns-clause-goes_on
returns-clause-goes_on g c = λ owner k z w shows step room. step_shows c.ballot_laws.ensures
    (record {
      none = c.filter_remembers.ensures.none;
      done = c.filter_remembers.ensures.done;
      stale = c.filter_remembers.ensures.stale;
    })
    g.O.Object.rules (one_exact g.O.Object.rules g.O.Op.PartialEq.eq g.met.O.Object.same g.met.O.Op.Value.exact)
    (one_itself g.O.Object.rules g.O.Op.PartialEq.eq g.met.O.Object.same g.met.O.Op.Eq.laws.refl)
    (told_apart g.O.Op.PartialEq.eq g.met.O.Op.Value.exact g.met.O.Op.Eq.laws.refl) owner k z w shows step room

pub returns-clause-legal : goal.returns-clause-legal
returns-clause-legal g c = λ owner members k are room.
    let r = hosts_show c.ballot_laws.ensures
    (record {
      none = c.filter_remembers.ensures.none;
      done = c.filter_remembers.ensures.done;
      stale = c.filter_remembers.ensures.stale;
    })
    g.O.Object.rules (one_exact g.O.Object.rules g.O.Op.PartialEq.eq g.met.O.Object.same g.met.O.Op.Value.exact)
    (one_itself g.O.Object.rules g.O.Op.PartialEq.eq g.met.O.Object.same g.met.O.Op.Eq.laws.refl)
    (told_apart g.O.Op.PartialEq.eq g.met.O.Op.Value.exact g.met.O.Op.Eq.laws.refl) owner members k are room in
    let one = c.every_world.ensures.one_order r.0 r.1.is in (
      one.order,
      legal_part k.happenings r.0.happenings r.1.happenings g.O.Object.rules one.order one.legal,
      c.every_world.ensures.promised r.0 r.1.is one.order one.is,
    )

pub returns-clause-few : goal.returns-clause-few
returns-clause-few g c = λ k members each. few_in_all k.taken (length k.members) members each
