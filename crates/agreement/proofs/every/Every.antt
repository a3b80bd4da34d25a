-- What is so of every world that events lead to.
use Rattle.std.proofs.Common.{◌≡◌, ℕ, ◌+◌, ◌<◌, ◌≤◌, List, Some, None, Option, refl, ap, arith}
use Rattle.std.specs.Prelude.{slice_get}
use Rattle.std.specs.FinMap.{get}
use Rattle.object.specs.declared.command.Command.{Command}
use Rattle.slot_log.specs.Books.{SlotBook}
use Rattle.slot_log.specs.Decisions.{next_decided}
use Rattle.agreement.specs.declared.event.Event.{Event}
use Rattle.object.specs.Objects.{Rules}
use Rattle.agreement.specs.Nodes.{node}
use Rattle.agreement.specs.Worlds.{World, opening}
use Rattle.agreement.specs.Steps.{Step, submit, deliver, wake, nudge, propose, perform, restart, after_performing}
use Rattle.agreement.specs.Runs.{most_events, IsWorld, InEvery, AfterEach}
use Rattle.agreement.specs.Showing.{IsReceivable}
use Rattle.agreement.specs.Chosen.{IsChosen}
use Rattle.object.specs.Happenings.{SubmittedOnce, IsTimeline}
use Rattle.object.specs.Legal.{WasSubmitted}
use Rattle.agreement.specs.Told.{IsGivenByReached}
use Rattle.agreement.proofs.order.Legal.{reached_gives}
use Rattle.agreement.proofs.order.Submitted.{chosen_submitted}
use Rattle.agreement.proofs.order.Timeline.{reachable_timeline}
use Rattle.agreement.specs.Agreements.{HasOneCommand, KeepsChosen, DecidesChosen, ChoosesOne, StaysChosen}
use Rattle.ballot.specs.OrderLaws.{BallotLaws}
use Rattle.agreement.proofs.chosen.Invariants.{IsSound, agree, one_command, keeps_chosen, decides_chosen}
use Rattle.agreement.proofs.chosen.Grows.{chosen_stays}
use Rattle.agreement.proofs.chosen.Reach.{reachable_sound, step_sound, one_more, opening_reachable}
use Rattle.agreement.proofs.answered.Told.{reachable_within_reach}
use Rattle.agreement.proofs.every.Events.{receiver, fit}

module _ (laws : BallotLaws) {O Op Reply : Type 0} (rules : Rules O Op Reply) where
  sound : (w : World Op Reply) → IsWorld rules w → IsSound w.cluster
  sound w i = reachable_sound laws rules w i.reachable

  perform_counts : (w : World Op Reply) (n : ℕ) (book : SlotBook (Command Op)) (o : Option (Command Op)) → (after_performing rules w n book o).taken ≡ w.taken
  perform_counts w n book None = refl
  perform_counts w n book (Some c) = refl

  -- each event is counted
  pub counts : (w v : World Op Reply) (e : Event Op) → Step rules w e v → v.taken ≡ w.taken + 1
  counts w v e (submit n c member own) = refl
  counts w v e (deliver j l x out at receives) = refl
  counts w v e (wake n member) = refl
  counts w v e (nudge n member) = refl
  counts w v e (propose n member) = refl
  counts w v e (perform n member) = ap (λ t. t + 1) (perform_counts w n (node w.cluster n).replica (next_decided (node w.cluster n).replica))
  counts w v e (restart n member) = refl

  pub opens : (members : List ℕ) → IsWorld rules (opening members)
  opens members = record { reachable = opening_reachable laws rules members; few = omega arith }

  pub goes_on : AfterEach rules (λ w v. w.taken < most_events → IsWorld rules v)
  goes_on w v e i s room = record {
    reachable = one_more laws rules w e v i.reachable s;
    few = let count = counts w v e s in omega arith;
  }

  pub may_receive : InEvery rules (λ w. (j : ℕ) (l : _) → slice_get w.cluster.letters j ≡ Some l → IsReceivable w.cluster l)
  may_receive w i j l at = record { receiver = receiver laws rules w w refl i j l at; fit = fit laws rules w w refl i j l at }

  pub within_reach : InEvery rules (λ w. (n : ℕ) → (node w.cluster n).replica.slot_out ≤ w.reach + 1)
  within_reach w i n = reachable_within_reach laws rules w i.reachable n

  pub is_decided : InEvery rules (λ w. (n s : ℕ) (c : Command Op) → get (node w.cluster n).replica.decisions s ≡ Some c → IsChosen w.cluster s c)
  is_decided w i n s c e = ((sound w i).nodes n).decisions s c e

  pub agrees : InEvery rules (λ w. ChoosesOne w.cluster)
  agrees w i = agree laws w.cluster (sound w i)

  pub chosen_for_good : AfterEach rules (λ w v. StaysChosen w.cluster v.cluster)
  chosen_for_good w v e i s t c h = chosen_stays w.cluster v.cluster (step_sound laws rules w e v (sound w i) s).grows t c h

  pub has_one_command : InEvery rules (λ w. HasOneCommand w.cluster)
  has_one_command w i = one_command laws w.cluster (sound w i)

  pub keeps_what_is_chosen : InEvery rules (λ w. KeepsChosen w.cluster)
  keeps_what_is_chosen w i = keeps_chosen laws w.cluster (sound w i)

  pub decides_what_is_chosen : InEvery rules (λ w. DecidesChosen w.cluster)
  decides_what_is_chosen w i = decides_chosen laws w.cluster (sound w i)

  -- each chosen command was submitted
  pub knows_chosen : InEvery rules (λ w. (s : ℕ) (c : Command Op) → IsChosen w.cluster s c → WasSubmitted c w.happenings.submitted)
  knows_chosen w i s c chosen = chosen_submitted laws rules w.cluster.members w i.reachable.0 i.reachable.1 s c chosen

  pub is_given : InEvery rules (IsGivenByReached rules)
  is_given w i = reached_gives laws rules w i.reachable

-- what happened is one list in time
pub submitted_once : {O Op Reply : Type 0} (rules : Rules O Op Reply) → InEvery rules (λ w. SubmittedOnce w.happenings.submitted)
submitted_once rules w i = (reachable_timeline rules w i.reachable).once

pub in_time : {O Op Reply : Type 0} (rules : Rules O Op Reply) → InEvery rules (λ w. IsTimeline w.happenings)
in_time rules w i = let t = reachable_timeline rules w i.reachable in record { ordered = t.ordered; within = t.within }
