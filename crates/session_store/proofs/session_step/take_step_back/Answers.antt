use Rattle.std.proofs.Common.{◌∙◌, sym, ap}
use Rattle.job_store.proofs.maps.Entries.{remove_entry-without}
use Rattle.session_store.specs.Drafts.{session_step_back}
use Rattle.session_store.proofs.session_step.take_step_back.Goals as goal

pub returns-in-Made : goal.returns-in-Made
returns-in-Made c = c.remove.ensures.entries ∙ remove_entry-without _ _ _ _ c.requires ∙ sym
    (ap (λ step. session_step_back step c.args.sessions.now.entries) c.in-Made.is)
