use Rattle.std.proofs.Common.{IfSome, refl, subst, sym}
use Rattle.session_store.specs.Drafts.{AreInLines}
use Rattle.session_store.specs.Lines.{IsIn, tube_line, rank_place}
use Rattle.session_store.proofs.Places.{some_in}
use Rattle.session_store.proofs.Standing.{all-watching, grown-twice}
use Rattle.session_store.proofs.SessionDrafts.{kept, grown}
use Rattle.session_store.proofs.session_draft.SessionDraft.watch_for_good.Goals as goal

pub invariant_of-self : goal.invariant_of-self
invariant_of-self c = grown c.self.inside.lines c.join_tube.new.self _ _ c.self.inside.sessions.entries c.join_tube.ensures.grown refl c.self.invariant

pub invariant_of-self-in_err-enrol : goal.invariant_of-self-in_err-enrol
invariant_of-self-in_err-enrol c =
    grown c.self.inside.lines c.enrol.new.self _ _ c.self.inside.sessions.entries
    (grown-twice c.self.inside.lines c.join_tube.new.self c.enrol.new.self c.join_tube.ensures.grown c.enrol.ensures.grown)
    refl c.self.invariant

pub invariant_of-self-in_err-count : goal.invariant_of-self-in_err-count
invariant_of-self-in_err-count c =
    subst (AreInLines c.enrol.new.self c.self.inside.steps.items) (sym c.in_err-count.ensures.err)
    (grown c.self.inside.lines c.enrol.new.self _ _ c.self.inside.sessions.entries
    (grown-twice c.self.inside.lines c.join_tube.new.self c.enrol.new.self c.join_tube.ensures.grown c.enrol.ensures.grown)
    refl c.self.invariant)

pub invariant_of-self-2 : goal.invariant_of-self-2
invariant_of-self-2 c =
    kept _ _ _ c.clear.ensures.items
    (c.leave_steps.ensures
    (all-watching c.self.inside.lines c.enrol.new.self c.args.session c.args.name c.self.inside.sessions.entries
    c.watch.new.sessions.entries
    (grown-twice c.self.inside.lines c.join_tube.new.self c.enrol.new.self c.join_tube.ensures.grown c.enrol.ensures.grown)
    (some_in (tube_line c.args.name c.join_tube.new.self.tubes) (tube_line c.args.name c.enrol.new.self.tubes) _ (c.enrol.ensures.grown.1 c.args.name)
    (subst (λ wait. IfSome (rank_place c.args.session wait) (IsIn (tube_line c.args.name c.join_tube.new.self.tubes)))
    c.wait_of-wait.ensures c.in_ok-join_tube.ensures.stands))
    c.in_ok-enrol.ensures.on
    c.in_ok-count.ensures.ok c.self.invariant.now))
