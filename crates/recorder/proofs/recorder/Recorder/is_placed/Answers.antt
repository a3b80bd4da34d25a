use Rattle.std.proofs.Common.{sym}
use Rattle.object.specs.Happenings.{is_submitted}
use Rattle.recorder.specs.Fates.{fate_at}
use Rattle.recorder.proofs.LookUps.{chosen_none}
use Rattle.recorder.proofs.Steps.{no_place}
use Rattle.recorder.proofs.recorder.Recorder.is_placed.Goals as goal

pub returns-in-None : goal.returns-in-None
returns-in-None g c =
    let r = c.args.self.now in
    let new = chosen_none (is_submitted c.args.key r.happenings.submitted) (fate_at r c.args.key) c.in-None.ensures.fate in
    sym (no_place r.happenings.submitted r.happenings.answers r.order c.args.key c.in-None.ensures.kept new)
