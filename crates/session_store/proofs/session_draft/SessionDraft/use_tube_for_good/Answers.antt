use Rattle.std.proofs.Common.{refl}
use Rattle.session_store.proofs.Standing.{all-using}
use Rattle.session_store.proofs.SessionDrafts.{kept, grown}
use Rattle.session_store.proofs.session_draft.SessionDraft.use_tube_for_good.Goals as goal

pub invariant_of-self : goal.invariant_of-self
invariant_of-self c = grown c.self.inside.lines c.enrol.new.self _ _ c.self.inside.sessions.entries c.enrol.ensures.grown refl c.self.invariant

pub invariant_of-self-in-Some : goal.invariant_of-self-in-Some
invariant_of-self-in-Some c =
    kept _ _ _ c.clear.ensures.items
    (c.strike.ensures
    (c.leave_steps.ensures
    (all-using c.self.inside.lines c.enrol.new.self c.args.session c.args.name c.self.inside.sessions.entries _
    c.enrol.ensures.grown c.in_ok-enrol.ensures.on c.set_used-left.ensures c.self.invariant.now)))

pub invariant_of-self-in-Some-2 : goal.invariant_of-self-in-Some-2
invariant_of-self-in-Some-2 c =
    kept _ _ _ c.clear.ensures.items
    (c.strike.ensures
    (c.leave_steps.ensures
    (all-using c.self.inside.lines c.enrol.new.self c.args.session c.args.name c.self.inside.sessions.entries _
    c.enrol.ensures.grown c.in_ok-enrol.ensures.on c.set_used-left.ensures c.self.invariant.now)))

pub invariant_of-self-in_default : goal.invariant_of-self-in_default
invariant_of-self-in_default c =
    kept _ _ _ c.clear.ensures.items
    (c.leave_steps.ensures
    (all-using c.self.inside.lines c.enrol.new.self c.args.session c.args.name c.self.inside.sessions.entries _
    c.enrol.ensures.grown c.in_ok-enrol.ensures.on c.set_used-left.ensures c.self.invariant.now))
