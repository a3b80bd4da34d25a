use Rattle.session_store.specs.declared.session.SessionState.{SessionState}
use Rattle.session_store.specs.Lines.{StandsIn}
use Rattle.session_store.specs.WatchLists.{left_out}
use Rattle.session_store.proofs.Standing.{all-kept, stands-less}
use Rattle.session_store.proofs.SessionDrafts.{kept}
use Rattle.session_store.proofs.session_draft.SessionDraft.ignore_for_good.Goals as goal

pub invariant_of-self : goal.invariant_of-self
invariant_of-self c =
    kept _ _ _ c.clear.ensures.items
    (c.strike.ensures
    (c.leave_tube.ensures
    (all-kept (StandsIn c.leave_steps.new.lines) c.args.session
    (λ (s : SessionState). record s { watched = left_out c.args.name.now s.watched }) _ _
    c.ignore-count.ensures.sessions (λ s h. stands-less c.leave_steps.new.lines c.args.session c.args.name.now s h)
    (c.leave_steps.ensures c.self.invariant.now))))
