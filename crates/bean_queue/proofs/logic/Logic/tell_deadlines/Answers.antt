use Rattle.std.proofs.Common.{◌≡◌, ℕ, ◌∙◌, ◌+◌, ◌^◌, List, IsSome, refl, sym, ap, subst}
use Rattle.job_store.specs.Entries.{Rising}
use Rattle.object.proofs.KeyMaps.{on_err}
use Rattle.object.specs.Lists.{In}
use Rattle.job_store.specs.declared.job.Job.{Job}
use Rattle.session_store.specs.declared.session.SessionState.{SessionState}
use Rattle.session_store.specs.Drafts.{Draft}
use Rattle.bean_queue.specs.HolderLines.{HasAllHolders, HaveJoined}
use Rattle.bean_queue.specs.Holders.{HasHolders, IsSomeHolder}
use Rattle.bean_queue.specs.Queue.{QueueState, state_of}
use Rattle.bean_queue.specs.Turns.{deadline_turn}
use Rattle.bean_queue.proofs.best.Served.{tells_deadline, turn_made, no_turn}
use Rattle.bean_queue.proofs.due.Holders.{has-holders}
use Rattle.bean_queue.proofs.due.Lines.{all-joined}
use Rattle.bean_queue.proofs.best.Turned.{still-begun, holder-told}
use Rattle.bean_queue.proofs.logic.Logic.tell_deadlines.Goals as goal

pub of-requires : goal.of-requires
of-requires g c = subst (Rising 0 (2 ^ 32)) (sym c.map-3.ensures.sessions) c.map-3.ensures.rising

pub turns-init : goal.turns-init
turns-init g c =
    let s = state_of c.self.inside.counters c.self.inside.jobs.now c.self.inside.sessions.now c.self.inside.pauses.now.pauses c.self.inside.tubes.now in
    let holders = c.in_ok-holders.holders.items in
    record {
      line =
          subst (λ (d : Draft QueueState). HasAllHolders c.in_ok-line.line (d.now.now + 1) d.now.jobs d.now.sessions) c.self.view_is
          (all-joined c.in_ok-line.line holders (s.now + 1) s.jobs s.sessions
          (subst (λ jobs. HasHolders holders (s.now + 1) jobs s.sessions) c.map.ensures.jobs
          (subst (HasHolders holders (s.now + 1) (g.M.JobMap.entries c.map.result.now)) c.map-2.ensures.sessions
          (has-holders holders (s.now + 1) (2 ^ 32) (g.M.JobMap.entries c.map.result.now) c.map-2.result.now.entries
          (subst (Rising 0 (2 ^ 32)) (sym c.map-2.ensures.sessions) c.map-2.ensures.rising) c.in_ok-holders.ensures.ok)))
          (subst (λ numbers. HaveJoined c.in_ok-line.line numbers s.sessions) c.as_slice.ensures.value
          (subst (HaveJoined c.in_ok-line.line c.as_slice.result.now) c.map-3.ensures.sessions c.in_ok-line.ensures.joined)));
      state = refl;
      answers = refl;
      before = refl;
      begun = λ none. refl;
    }

pub turns-smaller : goal.turns-smaller
turns-smaller g c = (turn_made deadline_turn tells_deadline _ _ _ _ c.in_ok-tell_deadline.field-0 c.if-branch.true c.in_ok-tell_deadline.ensures.turn.turn).fewer

pub turns-preserved : goal.turns-preserved
turns-preserved g c =
    let r = turn_made deadline_turn tells_deadline _ _ _ _ c.in_ok-tell_deadline.field-0 c.if-branch.true c.in_ok-tell_deadline.ensures.turn.turn in
    record {
      line = c.in_ok-tell_deadline.ensures.left c.if-branch.true;
      state = r.state ∙ c.turns.invariant.state;
      answers = r.answers ∙ c.turns.invariant.answers;
      before = c.tell_deadline.ensures.turn.before ∙ c.turns.invariant.before;
      begun = still-begun deadline_turn c.args.self.now.now _ _ _ _ c.in_ok-tell_deadline.field-0 c.if-branch.true c.in_ok-tell_deadline.ensures.turn.turn c.turns.invariant.begun;
    }

pub returns-clause-turns : goal.returns-clause-turns
returns-clause-turns g c = record {
  state =
      (no_turn deadline_turn tells_deadline _ _ _ _ c.in_ok-tell_deadline.field-0 c.if-branch.false
      c.in_ok-tell_deadline.ensures.turn.turn).state ∙ c.turns.invariant.state;
  answers =
      (no_turn deadline_turn tells_deadline _ _ _ _ c.in_ok-tell_deadline.field-0 c.if-branch.false
      c.in_ok-tell_deadline.ensures.turn.turn).answers ∙ c.turns.invariant.answers;
  before = c.tell_deadline.ensures.turn.before ∙ c.turns.invariant.before;
}

-- who is told, in the words of the code
told : (s : QueueState) (d : Draft QueueState) (jobs : List (ℕ × Job)) (sessions : List (ℕ × SessionState)) → s ≡ d.now → jobs ≡ s.jobs
    → sessions ≡ s.sessions → IsSomeHolder (s.now + 1) jobs sessions → IsSome (deadline_turn d.now)
told s d jobs sessions is same_jobs same_sessions h =
    subst (λ t. IsSome (deadline_turn t)) is
    (holder-told s (subst (λ js. IsSomeHolder (s.now + 1) js s.sessions) same_jobs (subst (IsSomeHolder (s.now + 1) jobs) same_sessions h)))

pub returns-in_err-holders-clause-err : goal.returns-in_err-holders-clause-err
returns-in_err-holders-clause-err g c =
    let s = state_of c.self.inside.counters c.self.inside.jobs.now c.self.inside.sessions.now c.self.inside.pauses.now.pauses c.self.inside.tubes.now in
    on_err c.from_residual.result
    (told s c.args.self.now (g.M.JobMap.entries c.map.result.now) c.map-2.result.now.entries (ap (λ (d : Draft QueueState). d.now) c.self.view_is)
    c.map.ensures.jobs c.map-2.ensures.sessions c.in_err-holders.ensures.err)

pub returns-in_err-line-clause-err : goal.returns-in_err-line-clause-err
returns-in_err-line-clause-err g c =
    let s = state_of c.self.inside.counters c.self.inside.jobs.now c.self.inside.sessions.now c.self.inside.pauses.now.pauses c.self.inside.tubes.now in
    let w = c.in_err-line.ensures.err in
    let among = subst (In w.0) c.as_slice.ensures.value w.1 in
    on_err c.from_residual-in_err-line.result
    (told s c.args.self.now (g.M.JobMap.entries c.map.result.now) c.map-2.result.now.entries (ap (λ (d : Draft QueueState). d.now) c.self.view_is)
    c.map.ensures.jobs c.map-2.ensures.sessions (w.0, (c.in_ok-holders.ensures.ok w.0).0 among))
