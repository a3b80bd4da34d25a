use Rattle.std.proofs.Common.{sym, ap, subst, ◌∙◌}
use Rattle.std.specs.FinMap.{insert, from_entries}
use Rattle.object.proofs.LatestMaps.{put_at}
use Rattle.client_table.specs.Clients.{Summary, HasOwnCommands, new_client}
use Rattle.client_table.proofs.Tables.{own_new, with_same}
use Rattle.client_table.proofs.table.ClientTable.open.Goals as goal

pub invariant_of-self-2 : goal.invariant_of-self-2
invariant_of-self-2 g c = subst HasOwnCommands
    (sym (put_at c.self.inside.clients.entries c.insert.new.self.entries c.args.session c.new.result c.in_ok-insert.ensures.updates.0
    ∙ ap (insert (from_entries c.self.inside.clients.entries) c.args.session) c.new.ensures))
    (own_new _ c.args.session c.self.invariant)

pub returns : goal.returns
returns g c = record {
  ok = (
    with_same _ _ c.self.inside.submitted c.self.inside.answered c.self.inside.placed
        (put_at c.self.inside.clients.entries c.insert.new.self.entries c.args.session c.new.result c.in_ok-insert.ensures.updates.0
        ∙ ap (insert (from_entries c.self.inside.clients.entries) c.args.session) c.new.ensures)
        ∙ ap (λ (s : Summary _ _). record s { clients = insert s.clients c.args.session new_client }) c.self.view_is,
    tt,
  );
}
