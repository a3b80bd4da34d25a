use Rattle.std.proofs.Common.{◌≡◌, ◌∙◌, ap, sym, subst, List, ℕ, refl, rules}
use Rattle.job_store.specs.Entries.{value_at, with_value}
use Rattle.session_store.specs.declared.session.SessionState.{SessionState}
use Rattle.session_store.specs.Rolls.{IsOn}
use Rattle.session_store.specs.Drafts.{Draft, AreInLines}
use Rattle.session_store.proofs.Standing.{all-grown, all-made}
use Rattle.session_store.proofs.SessionDrafts.{before-step, made-back, stepped, grown}
use Rattle.session_store.proofs.session_draft.SessionDraft.make.Goals as goal

pub invariant_of-self-in_err-enrol : goal.invariant_of-self-in_err-enrol
invariant_of-self-in_err-enrol c =
    grown c.self.inside.lines c.enrol.new.self c.self.inside.steps.items c.reserve.new.self.items
    c.self.inside.sessions.entries c.enrol.ensures.grown c.in_ok-reserve.ensures.items c.self.invariant

pub invariant_of-self-in_err-insert : goal.invariant_of-self-in_err-insert
invariant_of-self-in_err-insert c =
    let same : c.insert.new.self.entries ≡ c.self.inside.sessions.entries = search rules in
    subst (AreInLines c.enrol.new.self c.reserve.new.self.items) (sym same)
    (grown c.self.inside.lines c.enrol.new.self c.self.inside.steps.items c.reserve.new.self.items
    c.self.inside.sessions.entries c.enrol.ensures.grown c.in_ok-reserve.ensures.items c.self.invariant)

pub invariant_of-self-2 : goal.invariant_of-self-2
invariant_of-self-2 c =
    stepped c.self.inside.lines c.enrol.new.self c.self.inside.steps.items c.push.new.self.items
    c.self.inside.sessions.entries c.insert.new.self.entries c.enrol.ensures.grown
    (before-step c.self.inside.steps.items c.reserve.new.self.items c.push.new.self.items _
    c.self.inside.sessions.entries c.insert.new.self.entries _ refl c.in_ok-reserve.ensures.items
    c.in_ok-push.ensures.items
    (made-back c.args.session _ _ _
    (ap (λ (d : Draft (List (ℕ × SessionState))). value_at c.args.session d.now) c.self.view_is ∙ c.requires)
    c.in_ok-insert.ensures.entries))
    (all-made c.enrol.new.self c.args.session _ _ c.ranges.session.fits
    (c.in_ok-insert.ensures.entries ∙ ap
    (λ s. with_value c.args.session s c.self.inside.sessions.entries) c.in_ok-made.ensures)
    (subst (λ t. IsOn t c.enrol.new.self.rolls c.args.session)
    (ap (λ (v : SessionState). v.used) c.in_ok-made.ensures) c.in_ok-enrol.ensures.on)
    (all-grown c.self.inside.lines c.enrol.new.self c.self.inside.sessions.entries c.enrol.ensures.grown c.self.invariant.now))
    c.self.invariant

pub returns : goal.returns
returns c = record {
  now = search rules;
  err = tt;
  before = before-step c.self.inside.steps.items c.reserve.new.self.items _ _ _ _ _
      (ap (λ (d : Draft (List (ℕ × SessionState))). d.before) c.self.view_is) c.in_ok-reserve.ensures.items
      c.in_ok-push.ensures.items
      (made-back c.args.session _ _ _
      (ap (λ (d : Draft (List (ℕ × SessionState))). value_at c.args.session d.now) c.self.view_is ∙ c.requires)
      c.in_ok-insert.ensures.entries);
}
