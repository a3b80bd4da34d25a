use Rattle.session_store.proofs.SessionDrafts.{kept}
use Rattle.session_store.proofs.session_draft.SessionDraft.remove_for_good.Goals as goal

pub invariant_of-self : goal.invariant_of-self
invariant_of-self c = kept _ _ _ c.clear.ensures.items (c.forget.ensures.complete (c.leave_steps.ensures c.self.invariant.now))
