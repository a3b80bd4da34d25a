use Rattle.object.proofs.KeyMaps.{on_err}
use Rattle.session_store.proofs.LateTurns.{added-all, somebody-late}
use Rattle.session_store.proofs.time_outs.TimeOuts.late.Goals as goal

pub returns-in_err-join-clause-err : goal.returns-in_err-join-clause-err
returns-in_err-join-clause-err c =
    on_err c.from_residual.result
    (somebody-late c.args.second c.args.sessions.now.entries c.in-Some.place.now
    (c.in-Some-over_at.number, c.in-Some-over_at.session.now) c.in-Some-over_at.ensures)

pub returns-clause-ok : goal.returns-clause-ok
returns-clause-ok c =
    added-all c.args.second c.args.sessions.now.entries c.args.self.now _ c.loop-place.late c.requires c.in-None.ensures.steps.0
    c.loop-place.invariant
