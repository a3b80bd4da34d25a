-- Events that a world doesn't refuse.
use Rattle.std.proofs.Common.{◌≡◌, ℕ, ◌+◌, ◌<◌, Bool, true, false, not, [], ◌∷◌, length, None, Some, Result, Ok, Err, OnOk, refl, ap, ◌∙◌, arith}
use Rattle.std.specs.Prelude.{nat_le, if◌then◌else◌}
use Rattle.std.proofs.lemmas.Bool.Decides.{nat_tests}
use Rattle.std.proofs.lemmas.List.{length-append}
use Rattle.std.proofs.lemmas.Option.{slice_get_within}
use Rattle.object.specs.declared.command.Command.{Command}
use Rattle.object.specs.Objects.{Rules}
use Rattle.ballot.specs.Letters.{letter}
use Rattle.ballot.specs.Members.{is_member}
use Rattle.ballot.specs.declared.letter.Letter.{Letter}
use Rattle.ballot.specs.declared.letter.LetterBody.TheVariants.{P1a, P2a}
use Rattle.agreement.specs.Nodes.{node}
use Rattle.agreement.specs.Worlds.{World}
use Rattle.agreement.specs.Steps.{Step}
use Rattle.world.specs.Refusals.{IsAllowed, refusal, keeps_acts}
use Rattle.agreement.specs.Events.{is_at_member, is_sent}
use Rattle.agreement.specs.Runs.{most_events}
use Rattle.world.specs.declared.error.WorldError.{WorldError}
use Rattle.world.specs.declared.error.WorldError.TheVariants as reasons
use Rattle.agreement.specs.declared.event.Event.{Event}
use Rattle.agreement.specs.declared.event.Event.TheVariants as events
use Rattle.world.specs.WaySteps.{ButForMemory}
use Rattle.world.specs.WaysOut.{IsQuestion, promise, vote}
use Rattle.world.proofs.rounds.Hearing.{HasReceived, received, p1a_received, p2a_received}

-- what follows where memory was not refused
pub but_for_memory : {P R : Type 0} (r : Result Unit WorldError) → ButForMemory r P → (P → R) → ButForMemory r R
but_for_memory (Ok x) p f = f p
but_for_memory (Err e) p f = p

pub where_done : {P R : Type 0} (r : Result Unit WorldError) → ButForMemory r P → (P → R) → OnOk r R
where_done (Ok x) p f = f p
where_done (Err e) p f = tt

pub and_also : {P Q S R : Type 0} (r : Result Unit WorldError) → OnOk r P → OnOk r Q → ButForMemory r S → (P → Q → S → R) → ButForMemory r R
and_also (Ok x) p q s f = f p q s
and_also (Err e) p q s f = s

pub on_ok : {P R : Type 0} (r : Result Unit WorldError) → OnOk r P → (P → R) → OnOk r R
on_ok (Ok x) p f = f p
on_ok (Err e) p f = tt

pub on_three : {P Q S R : Type 0} (r : Result Unit WorldError) → OnOk r P → OnOk r Q → OnOk r S → (P → Q → S → R) → OnOk r R
on_three (Ok x) p q s f = f p q s
on_three (Err e) p q s f = tt

pub not_refused : {Op Reply : Type 0} (same : Op → Op → Bool) (w : World Op Reply) (e : Event Op) → IsAllowed same w e → refusal same w e ≡ None
unfolding refusal
not_refused same w e a =
    let room = a.room in
    let full : nat_le most_events w.taken ≡ false = grind (arith, nat_tests) in
    λ j.
    if not (a.member j) then Some reasons.NoSuchNode
    else (if not (a.sent j) then Some reasons.NoSuchLetter
    else (if not (a.acts j) then Some reasons.BadNumber
    else (if full j then Some reasons.Full else None)))

pub unrefused : {Op Reply : Type 0} (same : Op → Op → Bool) (w : World Op Reply) (e : Event Op)
    → is_at_member w.cluster.members e ≡ true → is_sent (length w.cluster.letters) e ≡ true
    → keeps_acts same w.happenings.submitted e ≡ true → w.taken < most_events → refusal same w e ≡ None
unrefused same w e member sent acts room = not_refused same w e (record { member = member; sent = sent; acts = acts; room = room })

pub may_deliver : {Op Reply : Type 0} (same : Op → Op → Bool) (w : World Op Reply) (j : ℕ)
    → j < length w.cluster.letters → w.taken < most_events → refusal same w (events.Deliver j) ≡ None
may_deliver same w j there room = unrefused same w (events.Deliver j) refl (grind (arith, nat_tests)) refl room

pub may_wake : {Op Reply : Type 0} (same : Op → Op → Bool) (w : World Op Reply) (n : ℕ)
    → is_member w.cluster.members n ≡ true → w.taken < most_events → refusal same w (events.Wake n) ≡ None
may_wake same w n member room = unrefused same w (events.Wake n) member refl refl room

pub may_nudge : {Op Reply : Type 0} (same : Op → Op → Bool) (w : World Op Reply) (n : ℕ)
    → is_member w.cluster.members n ≡ true → w.taken < most_events → refusal same w (events.Nudge n) ≡ None
may_nudge same w n member room = unrefused same w (events.Nudge n) member refl refl room

pub may_propose : {Op Reply : Type 0} (same : Op → Op → Bool) (w : World Op Reply) (n : ℕ)
    → is_member w.cluster.members n ≡ true → w.taken < most_events → refusal same w (events.Propose n) ≡ None
may_propose same w n member room = unrefused same w (events.Propose n) member refl refl room

pub may_perform : {Op Reply : Type 0} (same : Op → Op → Bool) (w : World Op Reply) (n : ℕ)
    → is_member w.cluster.members n ≡ true → w.taken < most_events → refusal same w (events.Perform n) ≡ None
may_perform same w n member room = unrefused same w (events.Perform n) member refl refl room

pub question_sent : {Op Reply : Type 0} (w : World Op Reply) (j : ℕ) → IsQuestion w j → j < length w.cluster.letters
question_sent w j (promise b m member at) = slice_get_within w.cluster.letters j (letter 1 (P1a b) m) at
question_sent w j (vote p m member at) = slice_get_within w.cluster.letters j (letter 1 (P2a p) m) at

-- a question has one answer
module _ {O Op Reply : Type 0} (rules : Rules O Op Reply) (w u : World Op Reply) (j : ℕ) (step : Step rules w (events.Deliver j) u) where
  one_more : (l a : Letter (Command Op)) → (h : HasReceived w u l) → h.sent ≡ a ∷ [] → length u.cluster.letters ≡ length w.cluster.letters + 1
  one_more l a h sent = ap (λ z. length z.cluster.letters) h.is ∙ length-append w.cluster.letters h.sent ∙ ap
      (λ out. length w.cluster.letters + length out) sent

  pub one_answer : IsQuestion w j → length u.cluster.letters ≡ length w.cluster.letters + 1
  one_answer (promise b m member at) =
      let h = received rules w u j (letter 1 (P1a b) m) at step in
      let r = p1a_received w.cluster.members 1 m (node w.cluster m) b h.state h.sent h.receives in
      one_more (letter 1 (P1a b) m) _ h r.3
  one_answer (vote p m member at) =
      let h = received rules w u j (letter 1 (P2a p) m) at step in
      let r = p2a_received w.cluster.members 1 m (node w.cluster m) p h.state h.sent h.receives in
      one_more (letter 1 (P2a p) m) _ h r.1
