use Rattle.std.proofs.Common.{◌≡◌, ◌∙◌, ap, sym, subst, List, ℕ, None, Some, unwrap_or, option_map, rules}
use Rattle.std.specs.Option.{option_copied}
use Rattle.job_store.specs.Entries.{value_at}
use Rattle.job_store.specs.EntryLaws.{value_at-insert, value_at-altered}
use Rattle.session_store.specs.declared.session.SessionState.{SessionState}
use Rattle.session_store.specs.Sessions.{new_session, session_of, known, with_wait}
use Rattle.session_store.specs.Drafts.{Draft}
use Rattle.session_store.proofs.SessionDrafts.{known-already}
use Rattle.session_store.proofs.session_draft.SessionDraft.know.Goals as goal

pub make-requires : goal.make-requires
make-requires c =
    ap (λ (d : Draft (List (ℕ × SessionState))). value_at c.args.session d.now) (sym c.self.view_is) ∙
    sym c.get.ensures.value ∙ ap option_copied c.in_default.is

pub returns-in_default-clause-role : goal.returns-in_default-clause-role
returns-in_default-clause-role c =
    c.none.ensures ∙
    sym (ap (λ es. (session_of c.args.session es).role) c.in_ok-make.ensures.now ∙ ap
    (λ o. (unwrap_or o new_session).role) (value_at-insert c.args.session new_session _))

pub returns-in_ok-set_wait-clause-role : goal.returns-in_ok-set_wait-clause-role
returns-in_ok-set_wait-clause-role c =
    let there : value_at c.args.session c.args.self.now.now ≡ Some c.in-Some.found.now =
    ap (λ (d : Draft (List (ℕ × SessionState))). value_at c.args.session d.now) (sym c.self.view_is) ∙ sym c.in-Some.ensures.value in
    sym (ap (λ es. (session_of c.args.session es).role) c.in_ok-set_wait.ensures.now ∙ ap
    (λ o. (unwrap_or o new_session).role) (value_at-altered c.args.session (with_wait None) _ ∙ ap (option_map (with_wait None)) there))

pub returns-else-is_some-clause-drafts : goal.returns-else-is_some-clause-drafts
returns-else-is_some-clause-drafts c =
    let none : c.in-Some.found.now.wait ≡ None = search rules in
    let same : c.self.inside.sessions.entries ≡ c.args.self.now.now = ap (λ (d : Draft (List (ℕ × SessionState))). d.now) c.self.view_is in
    record {
      now = subst (λ es. es ≡ known c.args.session es) same
          (known-already c.args.session 0 _ c.in-Some.found.now c.self.inside.sessions.entries c.self.invariant.now.rising
          (sym c.in-Some.ensures.value) none);
      err = tt;
      before = search rules;
    }
