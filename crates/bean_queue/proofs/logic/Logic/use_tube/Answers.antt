use Rattle.std.proofs.Common.{◌≡◌, [], ◌∷◌, ap, ap₂, ◌∙◌, rules}
use Rattle.session_store.specs.declared.session.SessionState.{SessionState}
use Rattle.session_store.specs.Drafts.{Draft}
use Rattle.bean_queue.specs.Queue.{QueueState, state_of, with_sessions, used_by}
use Rattle.bean_queue.specs.Rows.{settled, with_session, use_row}
use Rattle.bean_queue.proofs.logic.Logic.use_tube.Goals as goal

pub returns : goal.returns
unfolding use_row
returns g c =
    let x = c.args.session in
    let s = state_of c.self.inside.counters c.self.inside.jobs.now c.self.inside.sessions.now c.self.inside.pauses.now.pauses c.self.inside.tubes.now in
    let left : c.in_ok-left.left ≡ used_by c.args.self.now.now x = c.in_ok-left.ensures ∙ ap (λ (t : SessionState). t.used) c.session.ensures in
    let moved : with_sessions s c.use_tube_for_good.new.self.now ≡ with_session c.args.self.now.now x (λ t. record t { used = c.args.tube.now }) =
    ap (with_sessions s) c.in_ok-use_tube_for_good.ensures.kept.now ∙
    ap (λ name. with_session s x (λ t. record t { used = name })) c.in_ok-copy.ensures ∙
    ap (λ (d : Draft QueueState). with_session d.now x (λ t. record t { used = c.args.tube.now })) c.self.view_is in
    record {
      state = c.settle.ensures.counts ∙ ap₂ (λ name t. settled (name ∷ []) t) left moved;
      reply = search rules;
      err = search rules;
    }
