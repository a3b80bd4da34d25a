use Rattle.std.proofs.Common.{◌+◌, sym, ap, subst, ◌∙◌, nat_cmp}
use Rattle.std.specs.Prelude.{IsSome}
use Rattle.std.specs.FinMap.{get, insert, from_entries}
use Rattle.object.specs.declared.command.Key.{Key}
use Rattle.object.proofs.LatestMaps.{get_at, put_at}
use Rattle.client_table.specs.Clients.{Summary, HasOwnCommands, client_of, with_command}
use Rattle.client_table.proofs.Tables.{own_command, with_same, is_known, when_ok}
use Rattle.client_table.proofs.table.ClientTable.hand_in.Goals as goal

pub unwrap-requires : goal.unwrap-requires
unwrap-requires g c = is_known c.insert-known.result _
    (subst IsSome
    (ap (λ (s : Summary _ _). get s.clients c.args.command.key.session) (sym c.self.view_is)
    ∙ ap (λ (k : Key). get {R = nat_cmp} (from_entries c.self.inside.clients.entries) k.session) (sym c.key-session.ensures.key)
    ∙ get_at c.self.inside.clients.entries c.key-session.result.session)
    c.requires.there) c.insert-known.ensures.absent

pub invariant_of-self : goal.invariant_of-self
invariant_of-self g c = subst HasOwnCommands
    (sym (put_at c.self.inside.clients.entries c.insert-known.new.self.entries c.key-session.result.session c.of.result
    (when_ok c.insert-known.result c.unwrap.result c.unwrap.ensures c.insert-known.ensures.updates).0
    ∙ ap (insert (from_entries c.self.inside.clients.entries) c.key-session.result.session) c.of.ensures
    ∙ ap (λ (k : Key). insert {R = nat_cmp} (from_entries c.self.inside.clients.entries) k.session (client_of c.args.command)) c.key-session.ensures.key))
    (own_command _ c.args.command c.self.invariant)

pub returns : goal.returns
returns g c =
    with_same _ _ (c.self.inside.submitted + 1) c.self.inside.answered c.self.inside.placed
    (put_at c.self.inside.clients.entries c.insert-known.new.self.entries c.key-session.result.session c.of.result
    (when_ok c.insert-known.result c.unwrap.result c.unwrap.ensures c.insert-known.ensures.updates).0
    ∙ ap (insert (from_entries c.self.inside.clients.entries) c.key-session.result.session) c.of.ensures
    ∙ ap (λ (k : Key). insert {R = nat_cmp} (from_entries c.self.inside.clients.entries) k.session (client_of c.args.command)) c.key-session.ensures.key)
    ∙ ap (λ (s : Summary _ _). with_command c.args.command s) c.self.view_is
