use Rattle.std.proofs.Common.{◌≡◌, ℕ, ◌^◌, List, [], ◌∷◌, Option, Some, None, true, unwrap_or, sym, ap, ap₂, subst, ◌∙◌, true≢false}
use Rattle.job_store.specs.Entries.{Rising, value_at, without}
use Rattle.job_store.specs.LookUps.{is_among}
use Rattle.session_store.specs.declared.session.SessionState.{SessionState}
use Rattle.session_store.specs.Drafts.{Draft}
use Rattle.session_store.specs.Sessions.{new_session}
use Rattle.bean_queue.specs.Queue.{QueueState, state_of, with_sessions}
use Rattle.bean_queue.specs.Rows.{settled}
use Rattle.bean_queue.specs.Staying.{AreTubes}
use Rattle.bean_queue.specs.Tubes.{all_tubes}
use Rattle.bean_queue.specs.Effects.{forgotten}
use Rattle.bean_queue.proofs.tubes.Settled.{settled-then, settled-default}
use Rattle.bean_queue.proofs.tubes.Staying.{forgotten-tubes, absent-tubes}
use Rattle.bean_queue.proofs.tubes.Turning.{settled-tubes}
use Rattle.bean_queue.proofs.logic.Logic.forget.Goals as goal
use Rattle.bean_queue.proofs.logic.Logic.forget.Goals.{then-used, else-used}

-- the tubes of the session that there may be
abbrev tubes_in : Option SessionState → List (List ℕ)
tubes_in o = let c = unwrap_or o new_session in c.used ∷ c.watched

pub returns-after-used-clause-state : goal.returns-after-used-clause-state
returns-after-used-clause-state g c =
    let x = c.args.session in
    let s = state_of c.self.inside.counters c.self.inside.jobs.now c.self.inside.sessions.now c.self.inside.pauses.now.pauses c.self.inside.tubes.now in
    let there : Some c.in-Some.gone ≡ value_at x s.sessions = sym c.in-Some.is ∙ c.remove_for_good.ensures.gone in
    c.settle_all-watched.ensures.counts ∙
    ap₂ settled c.as_slice.ensures
    (c.settle-used.ensures.counts ∙ ap (λ es. settled (c.in-Some.gone.used ∷ []) (with_sessions s es)) c.remove_for_good.ensures.kept.now) ∙
    settled-then c.in-Some.gone.used c.in-Some.gone.watched (with_sessions s (without x s.sessions)) ∙
    ap (λ o. settled (tubes_in o) (with_sessions s (without x s.sessions))) there ∙
    ap (λ (d : Draft QueueState). forgotten x d.now) c.self.view_is

pub returns-after-used-clause-stay : goal.returns-after-used-clause-stay
returns-after-used-clause-stay g c =
    let x = c.args.session in
    let s = state_of c.self.inside.counters c.self.inside.jobs.now c.self.inside.sessions.now c.self.inside.pauses.now.pauses c.self.inside.tubes.now in
    let there : value_at x s.sessions ≡ Some c.in-Some.gone = sym c.remove_for_good.ensures.gone ∙ c.in-Some.is in
    let rising : Rising 0 (2 ^ 32) s.sessions = subst (λ (d : Draft QueueState). Rising 0 (2 ^ 32) d.now.sessions) (sym c.self.view_is) c.numbers_rise.ensures in
    let all = c.settle_all-watched.new.self.now in
    let of_settled : all_tubes all ≡ all_tubes c.settle-used.new.self.now =
    ap all_tubes c.settle_all-watched.ensures.counts ∙ settled-tubes c.as_slice.result.now c.settle-used.new.self.now in
    let after : all_tubes all ≡ all_tubes (with_sessions s (without x s.sessions)) =
    of_settled ∙ ap all_tubes c.settle-used.ensures.counts ∙ settled-tubes (c.in-Some.gone.used ∷ []) _ ∙
    ap (λ es. all_tubes (with_sessions s es)) c.remove_for_good.ensures.kept.now in
    let both : c.if-used.result ≡ true → (c.settle-used.result ≡ true) × (c.settle_all-watched.result ≡ true) =
    elim c.if-used.branch as (λ w. c.if-used.result ≡ true → (c.settle-used.result ≡ true) × (c.settle_all-watched.result ≡ true)) [
      | then-used w ↦ λ so. (w.if-used.true, sym w.result-is ∙ so)
      | else-used w ↦ λ so. absurd (true≢false (sym so ∙ w.result-is ∙ w.if-used.false))
    ] in
    λ so.
    forgotten-tubes s x (2 ^ 32) c.in-Some.gone rising there all after
    (ap (is_among c.in-Some.gone.used) of_settled ∙ sym c.settle-used.ensures.there ∙ (both so).0)
    (subst (λ ts. AreTubes ts all) c.as_slice.ensures (c.settle_all-watched.ensures.there (both so).1)) ∙
    ap (λ (d : Draft QueueState). all_tubes d.now) c.self.view_is

pub returns-in-None-clause-state : goal.returns-in-None-clause-state
returns-in-None-clause-state g c =
    let x = c.args.session in
    let s = state_of c.self.inside.counters c.self.inside.jobs.now c.self.inside.sessions.now c.self.inside.pauses.now.pauses c.self.inside.tubes.now in
    let absent : None ≡ value_at x s.sessions = sym c.in-None.is ∙ c.remove_for_good.ensures.gone in
    ap (with_sessions s) c.remove_for_good.ensures.kept.now ∙
    sym (settled-default (with_sessions s (without x s.sessions))) ∙
    ap (λ o. settled (tubes_in o) (with_sessions s (without x s.sessions))) absent ∙
    ap (λ (d : Draft QueueState). forgotten x d.now) c.self.view_is

pub returns-in-None-clause-stay : goal.returns-in-None-clause-stay
returns-in-None-clause-stay g c =
    let x = c.args.session in
    let s = state_of c.self.inside.counters c.self.inside.jobs.now c.self.inside.sessions.now c.self.inside.pauses.now.pauses c.self.inside.tubes.now in
    λ so.
    ap (λ es. all_tubes (with_sessions s es)) c.remove_for_good.ensures.kept.now ∙
    absent-tubes s x (sym c.remove_for_good.ensures.gone ∙ c.in-None.is) ∙
    ap (λ (d : Draft QueueState). all_tubes d.now) c.self.view_is
