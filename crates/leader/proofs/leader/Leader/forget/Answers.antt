use Rattle.std.proofs.Common.{sym, subst}
use Rattle.leader.specs.Leaders.{Leading, IsLeaderOf}
use Rattle.leader.proofs.Rests.{kept_rest, rest_of_parts}
use Rattle.leader.proofs.leader.Leader.forget.Goals as goal

pub invariant_of-self : goal.invariant_of-self
invariant_of-self g c =
    let p = c.self.inside in
    let l : Leading g.row.C.Denot =
    record {
      members = p.members;
      ballot = p.ballot;
      active = p.active;
      proposals = p.proposals;
      scout =
          p.scout;
      commanders = p.commanders;
    } in
    subst (IsLeaderOf p.node p.boot)
    (sym
    (rest_of_parts c.args.base l c.forget.new.self c.forget_of_scout.new.scout c.forget-2.new.self c.forget.ensures c.forget_of_scout.ensures
    c.forget-2.ensures))
    (kept_rest c.args.base p.node p.boot l c.self.invariant)
