use Rattle.std.proofs.Common.{◌∙◌, ap, sym}
use Rattle.object.proofs.KeyMaps.{on_err}
use Rattle.job_store.proofs.maps.Entries.{set_value-altered, set_value-same}
use Rattle.session_store.specs.declared.session.SessionState.{SessionState}
use Rattle.session_store.specs.WatchLists.{joined}
use Rattle.session_store.proofs.session_change.watch.Goals as goal

pub returns-in_err-insert-in-Some-clause-err : goal.returns-in_err-insert-in-Some-clause-err
returns-in_err-insert-in-Some-clause-err c =
    let found = c.in-Some.found.now in
    let left : SessionState = record found { watched = c.insert.new.self } in
    on_err c.from_residual.result
    ((c.get_mut.follows.holds left).0 ∙
    set_value-same c.args.session 0 _ found left c.args.sessions.now.entries c.requires.rising (sym c.in-Some.ensures.value)
    (ap (λ names. let s : SessionState = record found { watched = names } in s) c.in_err-insert-in-Some.ensures.err))

pub returns-clause-ok : goal.returns-clause-ok
returns-clause-ok c =
    let found = c.in-Some.found.now in
    let left : SessionState = record found { watched = c.insert.new.self } in
    (c.get_mut.follows.holds left).0 ∙
    set_value-altered c.args.session 0 _
    (λ (s : SessionState). record s { watched = joined c.args.name s.watched }) found left
    c.args.sessions.now.entries c.requires.rising (sym c.in-Some.ensures.value)
    (ap (λ names. let s : SessionState = record found { watched = names } in s) c.in_ok-insert-in-Some.ensures.ok)
