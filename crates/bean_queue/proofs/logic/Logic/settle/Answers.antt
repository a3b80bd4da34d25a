use Rattle.std.proofs.Common.{◌≡◌, ◌∷◌, [], false, true, ◌||◌, inl, inr, ◌∙◌, sym, ap, ap₂, refl}
use Rattle.session_store.specs.Drafts.{Draft}
use Rattle.job_store.specs.LookUps.{is_among}
use Rattle.pause_store.specs.Pauses.{is_paused}
use Rattle.bean_queue.specs.Queue.{QueueState, state_of}
use Rattle.bean_queue.specs.Rows.{is_kept, settled}
use Rattle.bean_queue.specs.Tubes.{all_tubes}
use Rattle.bean_queue.proofs.tubes.Settled.{settled-gone, settled-kept, either-kept}
use Rattle.bean_queue.proofs.tubes.Turning.{same-lists}
use Rattle.bean_queue.proofs.logic.Logic.settle.Goals as goal
use Rattle.bean_queue.proofs.logic.Logic.settle.Goals.{else-not-there-via-then-not-there+else-not-is_paused, else-not-there-via-else-not-there}

pub returns-then-not-is_paused-clause-counts : goal.returns-then-not-is_paused-clause-counts
returns-then-not-is_paused-clause-counts g c =
    let s = state_of c.self.inside.counters c.self.inside.jobs.now c.self.inside.sessions.now c.self.inside.pauses.now.pauses c.self.inside.tubes.now in
    let gone : is_kept s c.args.tube.now ≡ false =
    ap₂ (λ a b. a || b)
    (ap (λ (d : Draft QueueState). is_among c.args.tube.now (all_tubes d.now)) c.self.view_is ∙ sym c.is_tube-there.ensures ∙ c.if-not-there.true)
    (sym c.is_paused.ensures ∙ c.if-not-is_paused.true) in
    ap (λ es. let t : QueueState = record s { tubes = es } in t) (c.forget_for_good.ensures.now ∙ settled-gone c.args.tube.now s gone) ∙
    ap (λ (d : Draft QueueState). settled (c.args.tube.now ∷ []) d.now) c.self.view_is

pub returns-then-not-is_paused-clause-there : goal.returns-then-not-is_paused-clause-there
returns-then-not-is_paused-clause-there g c =
    let s = state_of c.self.inside.counters c.self.inside.jobs.now c.self.inside.sessions.now c.self.inside.pauses.now.pauses c.self.inside.tubes.now in
    c.is_tube-there.ensures ∙ ap (λ (d : Draft QueueState). is_among c.args.tube.now (all_tubes d.now)) (sym c.self.view_is) ∙
    ap (is_among c.args.tube.now) (sym (same-lists s (let t : QueueState = record s { tubes = c.forget_for_good.new.self.now } in t) refl refl))

pub returns-else-not-there-clause-counts : goal.returns-else-not-there-clause-counts
returns-else-not-there-clause-counts g c =
    let s = c.args.self.now.now in
    let kept : is_kept s c.args.tube.now ≡ true =
    elim c.else-not-there.branch as (λ w. is_kept s c.args.tube.now ≡ true) [
      | else-not-there-via-then-not-there+else-not-is_paused w ↦
          either-kept s c.args.tube.now (inr (ap (λ (d : Draft QueueState). is_paused c.args.tube.now d.now.pauses) (sym c.self.view_is) ∙
          sym w.is_paused.ensures ∙ w.if-not-is_paused.false))
      | else-not-there-via-else-not-there w ↦ either-kept s c.args.tube.now (inl (sym c.is_tube-there.ensures ∙ w.if-not-there.false))
    ] in
    ap (λ es. let t : QueueState = record s { tubes = es } in t) (settled-kept c.args.tube.now s kept)
