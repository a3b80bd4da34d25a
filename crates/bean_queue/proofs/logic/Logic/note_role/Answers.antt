use Rattle.std.proofs.Common.{◌≡◌, ap, sym, rules, ◌∙◌}
use Rattle.std.proofs.lemmas.Result.{on_ok_weaker}
use Rattle.job_store.specs.Entries.{altered}
use Rattle.session_store.specs.Drafts.{Draft}
use Rattle.session_store.specs.Sessions.{with_role}
use Rattle.bean_queue.specs.Queue.{QueueState, state_of, with_sessions}
use Rattle.bean_queue.specs.Effects.{role_after, with_ask_noted}
use Rattle.bean_queue.proofs.calm.Called.{role-noted, role-stays}
use Rattle.bean_queue.proofs.logic.Logic.note_role.Goals as goal

pub returns-then-eq-clause-now : goal.returns-then-eq-clause-now
returns-then-eq-clause-now g c =
    let x = c.args.session in
    let op = c.args.op.now in
    let same : c.args.before ≡ c.role_after-role.result = search rules in
    ap (with_sessions c.args.self.now.now)
    (role-stays op x c.args.self.now.now.sessions c.numbers_rise.ensures c.requires.there
    (sym c.requires.role ∙ same ∙ c.role_after-role.ensures ∙ ap (role_after op) c.requires.role))

pub returns-clause-now : goal.returns-clause-now
returns-clause-now g c =
    let x = c.args.session in
    let op = c.args.op.now in
    let role = c.role_after-role.result in
    let s = state_of c.self.inside.counters c.self.inside.jobs.now c.self.inside.sessions.now c.self.inside.pauses.now.pauses c.self.inside.tubes.now in
    let noted : altered x (with_role role) c.args.self.now.now.sessions ≡ altered x (with_ask_noted op) c.args.self.now.now.sessions =
    role-noted op x c.args.self.now.now.sessions role c.numbers_rise.ensures c.requires.there
    (c.role_after-role.ensures ∙ ap (role_after op) c.requires.role) in
    on_ok_weaker c.set_role.result
    (λ e.
    ap (with_sessions s) e ∙
    ap (λ (d : Draft QueueState). with_sessions d.now (altered x (with_role role) d.now.sessions)) c.self.view_is ∙
    ap (with_sessions c.args.self.now.now) noted)
    c.set_role.ensures.now
