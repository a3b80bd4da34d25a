use Rattle.std.proofs.Common.{sym, ap, subst, ◌∙◌}
use Rattle.std.specs.FinMap.{insert, from_entries}
use Rattle.object.proofs.LatestMaps.{put_at}
use Rattle.client_table.specs.Clients.{HasOwnCommands}
use Rattle.client_table.proofs.Tables.{own_none, own_new}
use Rattle.client_table.proofs.table.ClientTable.new.Goals as goal

pub invariant_of-result : goal.invariant_of-result
invariant_of-result g c = subst HasOwnCommands
    (sym (put_at c.new-clients.result.entries c.insert.new.self.entries 0 c.new.result c.in_ok-insert.ensures.updates.0
    ∙ ap (insert (from_entries c.new-clients.result.entries) 0) c.new.ensures))
    (own_new _ 0 (own_none c.new-clients.result.entries c.new-clients.ensures.empty))
