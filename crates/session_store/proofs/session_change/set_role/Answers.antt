use Rattle.std.proofs.Common.{◌≡◌, ◌∙◌, ℕ, ap, sym, refl, None, BTreeMap}
use Rattle.std.specs.Option.{option_copied_mut}
use Rattle.job_store.specs.Entries.{value_at}
use Rattle.job_store.specs.EntryLaws.{altered-absent}
use Rattle.job_store.proofs.maps.Entries.{set_value-altered}
use Rattle.session_store.specs.declared.session.SessionState.{SessionState}
use Rattle.session_store.specs.Sessions.{with_role}
use Rattle.session_store.proofs.session_change.set_role.Goals as goal

pub returns-in-Some : goal.returns-in-Some
returns-in-Some c =
    let f : SessionState → SessionState = with_role c.args.role in
    (c.get_mut.follows.holds (f c.in-Some.found.now)).0 ∙
    set_value-altered c.args.session 0 _ (with_role c.args.role) c.in-Some.found.now _ c.args.sessions.now.entries c.requires (sym c.in-Some.ensures.value) refl

pub returns-in_default : goal.returns-in_default
returns-in_default c =
    let none : value_at c.args.session c.args.sessions.now.entries ≡ None = sym c.get_mut.ensures.value ∙ ap option_copied_mut c.in_default.is in
    ap (λ (m : BTreeMap ℕ SessionState). m.entries) c.get_mut.follows.holds-at-none ∙
    sym (altered-absent c.args.session (with_role c.args.role) c.args.sessions.now.entries none)
