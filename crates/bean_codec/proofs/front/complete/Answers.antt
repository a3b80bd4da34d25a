use Rattle.std.proofs.Common.{Ok, ap, ◌∙◌}
use Rattle.std.proofs.lemmas.Result.{on_err_weaker}
use Rattle.bean_codec.proofs.Fronts.{put_completes}
use Rattle.bean_codec.proofs.front.complete.Goals as goal

pub returns-in-Ok-WithBody-clause-memory : goal.returns-in-Ok-WithBody-clause-memory
returns-in-Ok-WithBody-clause-memory c =
    let arm = c.in-Ok-WithBody in
    on_err_weaker c.complete_put.result
    (λ put. put_completes c.args.meaning arm.pri arm.delay arm.ttr arm.size c.args.start c.args.rest.now
    (arm.is ∙ ap Ok arm.field-0-is) put.0 put.1) c.complete_put.ensures.memory
