use Rattle.std.proofs.Common.{◌∙◌, ap, sym, subst}
use Rattle.session_store.specs.Drafts.{sessions_before}
use Rattle.session_store.specs.Lines.{EachStands, StandsIn}
use Rattle.session_store.proofs.SessionDrafts.{kept}
use Rattle.session_store.proofs.session_draft.SessionDraft.take_back.Goals as goal

pub invariant_of-self : goal.invariant_of-self
invariant_of-self c =
    kept _ _ _ c.clear.ensures.items
    (c.leave_steps.ensures (record {
      rising = c.take_steps_back.ensures.rising;
      each = subst (EachStands (StandsIn c.self.inside.lines))
          (sym (c.take_steps_back.ensures.sessions ∙ ap
          (λ steps. sessions_before steps c.self.inside.sessions.entries) c.as_slice.ensures.value))
          c.self.invariant.before;
    }))
