use Rattle.std.proofs.Common.{sym, ap, ◌∙◌}
use Rattle.std.specs.FinMap.{get}
use Rattle.object.proofs.LatestMaps.{get_at}
use Rattle.client_table.specs.Clients.{Summary}
use Rattle.client_table.proofs.table.ClientTable.client.Goals as goal

pub returns : goal.returns
returns g c =
    c.get.ensures.value ∙ sym (get_at c.self.inside.clients.entries c.args.session)
    ∙ ap (λ (s : Summary _ _). get s.clients c.args.session) c.self.view_is
