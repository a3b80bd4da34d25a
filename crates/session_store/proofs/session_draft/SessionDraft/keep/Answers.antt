use Rattle.session_store.proofs.SessionDrafts.{kept}
use Rattle.session_store.proofs.session_draft.SessionDraft.keep.Goals as goal

pub invariant_of-self : goal.invariant_of-self
invariant_of-self c = kept _ _ _ c.clear.ensures.items (c.leave_steps.ensures c.self.invariant.now)
