use Rattle.std.proofs.Common.{◌≡◌, ◌∙◌, ℕ, ap, sym, None, BTreeMap, rules}
use Rattle.job_store.specs.Entries.{value_at}
use Rattle.job_store.specs.EntryLaws.{altered-absent}
use Rattle.job_store.proofs.maps.Entries.{set_value-altered}
use Rattle.session_store.specs.declared.session.SessionState.{SessionState}
use Rattle.session_store.proofs.session_change.set_used.Goals as goal

pub returns-in-Some : goal.returns-in-Some
returns-in-Some c =
    let found = c.in-Some.found.now in
    let left : SessionState = record found { used = c.replace.new.dest } in
    let name : c.replace.new.dest ≡ c.args.name = search rules in
    (c.get_mut.follows.holds left).0 ∙
    set_value-altered c.args.session 0 _
    (λ (s : SessionState). record s { used = c.args.name }) found left c.args.sessions.now.entries c.requires
    (sym c.in-Some.ensures.value)
    (ap (λ tube. let s : SessionState = record found { used = tube } in s) name)

pub returns-in-None : goal.returns-in-None
returns-in-None c =
    let none : value_at c.args.session c.args.sessions.now.entries ≡ None = sym c.in-None.ensures.value in
    ap (λ (m : BTreeMap ℕ SessionState). m.entries) c.get_mut.follows.holds-at-none ∙
    sym (altered-absent c.args.session ((λ (s : SessionState). record s { used = c.args.name })) c.args.sessions.now.entries none)
