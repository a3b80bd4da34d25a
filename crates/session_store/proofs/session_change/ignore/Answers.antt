use Rattle.std.proofs.Common.{◌∙◌, ap, sym}
use Rattle.job_store.proofs.maps.Entries.{set_value-altered}
use Rattle.session_store.specs.declared.session.SessionState.{SessionState}
use Rattle.session_store.specs.WatchLists.{left_out}
use Rattle.session_store.proofs.session_change.ignore.Goals as goal

pub returns-clause-sessions : goal.returns-clause-sessions
returns-clause-sessions c =
    let found = c.in-Some.found.now in
    let left : SessionState = record found { watched = c.remove.new.self } in
    (c.get_mut.follows.holds left).0 ∙
    set_value-altered c.args.session 0 _
    (λ (s : SessionState). record s { watched = left_out c.args.name.now s.watched }) found left
    c.args.sessions.now.entries c.requires.rising (sym c.in-Some.ensures.value)
    (ap (λ names. let s : SessionState = record found { watched = names } in s) c.remove.ensures)
