use Rattle.std.proofs.Common.{◌≡◌, ◌∙◌, sym, ap, refl, subst, List, ℕ, None, rules}
use Rattle.std.specs.Option.{option_copied}
use Rattle.job_store.specs.Entries.{value_at, altered}
use Rattle.job_store.specs.EntryLaws.{altered-absent}
use Rattle.session_store.specs.declared.session.SessionState.{SessionState}
use Rattle.session_store.specs.Sessions.{with_role}
use Rattle.session_store.specs.Drafts.{Draft}
use Rattle.session_store.specs.Lines.{StandsIn}
use Rattle.session_store.proofs.Standing.{all-kept}
use Rattle.session_store.proofs.SessionDrafts.{unplayed, before-step, played-back, stepped}
use Rattle.session_store.proofs.session_draft.SessionDraft.set_role.Goals as goal

pub returns-in_default : goal.returns-in_default
returns-in_default c =
    let none : value_at c.args.session c.args.self.now.now ≡ None =
    ap (λ (d : Draft (List (ℕ × SessionState))). value_at c.args.session d.now)
    (sym c.self.view_is) ∙ sym c.get.ensures.value ∙ ap option_copied c.in_default.is in
    record {
      now = sym (altered-absent c.args.session (with_role c.args.role) c.args.self.now.now none);
      err = tt;
      before = search rules;
    }

pub returns-then-eq : goal.returns-then-eq
returns-then-eq c =
    let same : c.in-Some.found.now.role ≡ c.args.role = search rules in
    let now : c.self.inside.sessions.entries ≡ c.args.self.now.now = ap (λ (d : Draft (List (ℕ × SessionState))). d.now) c.self.view_is in
    record {
      now = subst (λ es. es ≡ altered c.args.session (with_role c.args.role) es) now
          (sym (unplayed c.args.session 0 _ c.args.role c.in-Some.found.now c.self.inside.sessions.entries c.self.invariant.now.rising
          (sym c.in-Some.ensures.value) same));
      err = tt;
      before = search rules;
    }

pub invariant_of-self-2 : goal.invariant_of-self-2
invariant_of-self-2 c =
    stepped c.self.inside.lines c.self.inside.lines c.self.inside.steps.items c.push.new.self.items _ _
    (λ p h. h, λ t p h. h, λ t x h. h)
    (before-step c.self.inside.steps.items c.self.inside.steps.items c.push.new.self.items _ _ _ _ refl refl c.in_ok-push.ensures.items
    (played-back c.args.session 0 _ c.args.role c.in-Some.found.now _ _ c.self.invariant.now.rising (sym c.in-Some.ensures.value) c.set_role.ensures))
    (all-kept (StandsIn c.self.inside.lines) c.args.session (with_role c.args.role) _ _ c.set_role.ensures (λ s h. h) c.self.invariant.now)
    c.self.invariant

pub returns : goal.returns
returns c = record {
  now = search rules;
  err = tt;
  before = before-step c.self.inside.steps.items c.self.inside.steps.items c.push.new.self.items _ _ _ _
      (ap (λ (d : Draft (List (ℕ × SessionState))). d.before) c.self.view_is) refl c.in_ok-push.ensures.items
      (played-back c.args.session 0 _ c.args.role c.in-Some.found.now _ _ c.self.invariant.now.rising
      (sym c.in-Some.ensures.value) c.set_role.ensures);
}
