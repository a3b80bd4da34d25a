use Rattle.std.proofs.Common.{cond, None, Some, sym, ap, ◌∙◌, arith}
use Rattle.object.specs.Happenings.{submitted_key, is_submitted}
use Rattle.recorder.specs.Fates.{fate_at}
use Rattle.recorder.specs.Records.{record_of}
use Rattle.recorder.proofs.LookUps.{lacks_there, stands_there, fate_read, fate_within}
use Rattle.recorder.proofs.recorder.Recorder.fate_of.Goals as goal

pub index-requires : goal.index-requires
index-requires g c =
    let r = record_of c.self.inside.submitted c.self.inside.answers.items c.self.inside.order.items in
    let inside = fate_within r c.self.inside.fates.items c.args.key c.in_ok-place.place c.self.invariant.fated (sym c.in_ok-place.ensures) in
    let long = c.self.inside.fates.ok.0 in
    omega arith

pub returns-in_err-place-clause-fate : goal.returns-in_err-place-clause-fate
returns-in_err-place-clause-fate g c =
    c.from_residual.ensures
    ∙ ap (λ b. cond b (Some (fate_at c.args.self.now c.args.key)) None)
    (sym (ap (λ r. is_submitted c.args.key r.happenings.submitted)
    (sym c.self.view_is) ∙ lacks_there submitted_key c.args.key c.self.inside.submitted
    (sym c.in_err-place.ensures)))

pub returns-clause-fate : goal.returns-clause-fate
returns-clause-fate g c =
    let r = record_of c.self.inside.submitted c.self.inside.answers.items c.self.inside.order.items in
    let at = sym c.in_ok-place.ensures in
    ap Some (fate_read r c.self.inside.fates.items c.args.key c.in_ok-place.place c.index.result.now
    c.self.invariant.fated at c.index.ensures ∙ ap (λ q. fate_at q c.args.key) c.self.view_is)
    ∙ ap (λ b. cond b (Some (fate_at c.args.self.now c.args.key)) None)
    (sym (ap (λ q. is_submitted c.args.key q.happenings.submitted)
    (sym c.self.view_is) ∙ stands_there submitted_key c.args.key c.self.inside.submitted c.in_ok-place.place at))
