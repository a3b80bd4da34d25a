use Rattle.std.proofs.Common.{◌++◌, ap, ◌∙◌}
use Rattle.std.specs.Option.{option_to_list}
use Rattle.job_store.proofs.maps.Undone.{one-undone}
use Rattle.job_store.proofs.undo.undo_all.Goals as goal

pub loop-undo-preserved : goal.loop-undo-preserved
loop-undo-preserved c =
    one-undone _ _ c.in-Some.undo c.loop-undo.log.items c.pop.new.self.items c.loop-undo.jobs.entries
    c.undo_one.new.jobs.entries _ (c.pop.ensures.items ∙ ap
    (λ o. c.pop.new.self.items ++ option_to_list o) c.in-Some.is) c.undo_one.ensures c.loop-undo.invariant.0
    c.loop-undo.invariant.1
