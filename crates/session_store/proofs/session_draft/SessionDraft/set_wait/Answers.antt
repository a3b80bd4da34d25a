use Rattle.std.proofs.Common.{◌≡◌, ◌∙◌, sym, ap, refl, subst, List, ℕ, None, rules}
use Rattle.std.specs.Option.{option_copied}
use Rattle.job_store.specs.Entries.{value_at, altered}
use Rattle.job_store.specs.EntryLaws.{altered-absent}
use Rattle.session_store.specs.declared.session.SessionState.{SessionState}
use Rattle.session_store.specs.Sessions.{with_wait}
use Rattle.session_store.specs.Drafts.{Draft}
use Rattle.session_store.specs.Lines.{StandsIn}
use Rattle.session_store.proofs.Standing.{all-altered, all-grown, stands-again}
use Rattle.session_store.proofs.SessionDrafts.{unwaited, before-step, waited-back, waited-still, stepped}
use Rattle.session_store.proofs.session_draft.SessionDraft.set_wait.Goals as goal

pub returns-in_default : goal.returns-in_default
returns-in_default c =
    let none : value_at c.args.session c.args.self.now.now ≡ None =
    ap (λ (d : Draft (List (ℕ × SessionState))). value_at c.args.session d.now)
    (sym c.self.view_is) ∙ sym c.get.ensures.value ∙ ap option_copied c.in_default.is in
    record {
      now = sym (altered-absent c.args.session (with_wait c.args.wait) c.args.self.now.now none);
      err = tt;
      before = search rules;
    }

pub returns-then-is_none-2 : goal.returns-then-is_none-2
returns-then-is_none-2 c =
    let before : c.in-Some.found.now.wait ≡ None = search rules in
    let after : c.args.wait ≡ None = search rules in
    let same : c.self.inside.sessions.entries ≡ c.args.self.now.now = ap (λ (d : Draft (List (ℕ × SessionState))). d.now) c.self.view_is in
    record {
      now = subst (λ es. es ≡ altered c.args.session (with_wait c.args.wait) es) same
          (subst (λ w. c.self.inside.sessions.entries ≡ altered c.args.session (with_wait w) c.self.inside.sessions.entries) (sym after)
          (sym (unwaited c.args.session 0 _ c.in-Some.found.now c.self.inside.sessions.entries c.self.invariant.now.rising
          (sym c.in-Some.ensures.value) before)));
      err = tt;
      before = search rules;
    }

pub invariant_of-self-in_err-join : goal.invariant_of-self-in_err-join
invariant_of-self-in_err-join c =
    stepped c.self.inside.lines c.join.new.self c.self.inside.steps.items c.push.new.self.items _ _ c.join.ensures.grown
    (before-step c.self.inside.steps.items c.self.inside.steps.items c.push.new.self.items _ _ _ _ refl refl c.in_ok-push.ensures.items
    (waited-still c.args.session 0 _ c.args.wait c.in-Some.found.now _ c.self.invariant.now.rising (sym c.in-Some.ensures.value)))
    (all-grown c.self.inside.lines c.join.new.self _ c.join.ensures.grown c.self.invariant.now)
    c.self.invariant

pub returns-in_err-join : goal.returns-in_err-join
returns-in_err-join c = record {
  now = search rules;
  err = search rules;
  before = before-step c.self.inside.steps.items c.self.inside.steps.items c.push.new.self.items _ _ _ _
      (ap (λ (d : Draft (List (ℕ × SessionState))). d.before) c.self.view_is) refl c.in_ok-push.ensures.items
      (waited-still c.args.session 0 _ c.args.wait c.in-Some.found.now _ c.self.invariant.now.rising (sym c.in-Some.ensures.value));
}

pub invariant_of-self-2 : goal.invariant_of-self-2
invariant_of-self-2 c =
    stepped c.self.inside.lines c.join.new.self c.self.inside.steps.items c.push.new.self.items _ _ c.join.ensures.grown
    (before-step c.self.inside.steps.items c.self.inside.steps.items c.push.new.self.items _ _ _ _ refl refl c.in_ok-push.ensures.items
    (waited-back c.args.session 0 _ c.args.wait c.in-Some.found.now _ _ c.self.invariant.now.rising (sym c.in-Some.ensures.value) c.set_wait.ensures))
    (all-altered (StandsIn c.join.new.self) c.args.session (with_wait c.args.wait) _ _ c.set_wait.ensures
    (λ s i. stands-again c.join.new.self c.args.session _ c.self.inside.sessions.entries c.args.wait
    c.in-Some.found.now s c.self.invariant.now.rising (sym c.in-Some.ensures.value) i c.in_ok-join.ensures.stands
    ((all-grown c.self.inside.lines c.join.new.self _ c.join.ensures.grown c.self.invariant.now).each (c.args.session, s) i))
    (all-grown c.self.inside.lines c.join.new.self _ c.join.ensures.grown c.self.invariant.now))
    c.self.invariant

pub returns : goal.returns
returns c = record {
  now = search rules;
  err = tt;
  before = before-step c.self.inside.steps.items c.self.inside.steps.items c.push.new.self.items _ _ _ _
      (ap (λ (d : Draft (List (ℕ × SessionState))). d.before) c.self.view_is) refl c.in_ok-push.ensures.items
      (waited-back c.args.session 0 _ c.args.wait c.in-Some.found.now _ _ c.self.invariant.now.rising
      (sym c.in-Some.ensures.value) c.set_wait.ensures);
}
