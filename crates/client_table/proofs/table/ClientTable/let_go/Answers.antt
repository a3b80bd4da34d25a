use Rattle.std.proofs.Common.{sym, ap, subst, ◌∙◌}
use Rattle.std.specs.FinMap.{remove}
use Rattle.object.proofs.LatestMaps.{taken_at}
use Rattle.client_table.specs.Clients.{Summary, HasOwnCommands}
use Rattle.client_table.proofs.Tables.{own_removed, with_same}
use Rattle.client_table.proofs.table.ClientTable.let_go.Goals as goal

pub invariant_of-self : goal.invariant_of-self
invariant_of-self g c = subst HasOwnCommands
    (sym (taken_at c.self.inside.clients.entries c.remove.new.self.entries c.args.session c.remove.ensures.updates.0))
    (own_removed _ c.args.session c.self.invariant)

pub returns : goal.returns
returns g c =
    with_same _ _ c.self.inside.submitted c.self.inside.answered c.self.inside.placed
    (taken_at c.self.inside.clients.entries c.remove.new.self.entries c.args.session c.remove.ensures.updates.0)
    ∙ ap (λ (s : Summary _ _). record s { clients = remove s.clients c.args.session }) c.self.view_is
