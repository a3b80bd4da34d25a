use Rattle.std.proofs.Common.{sym, ap, ◌∙◌}
use Rattle.ballot.specs.Slots.{Slots}
use Rattle.leader.specs.Leaders.{Leading}
use Rattle.leader.specs.Adoptions.{commanders_for}
use Rattle.leader.proofs.Kept.{kept_adopted}
use Rattle.leader.proofs.leader.Leader.lead.Goals as goal

pub invariant_of-self : goal.invariant_of-self
invariant_of-self g c =
    let p = c.self.inside in
    let l : Leading g.row.C.Denot =
    record {
      members = p.members;
      ballot = p.ballot;
      active = p.active;
      proposals = p.proposals;
      scout =
          p.scout;
      commanders = p.commanders;
    } in
    kept_adopted p.node p.boot l c.from_map.result c.in_ok-commanders.commanders c.self.invariant
    (c.in_ok-commanders.ensures.commanders ∙ ap (λ (m : Leading g.row.C.Denot). commanders_for m c.args.proposals) (sym c.self.view_is) ∙
    ap (λ (ps : Slots g.row.C.Denot). commanders_for l ps) (sym c.from_map.ensures))
