-- Which events a world refuses, and why. Of several reasons the first in this order is told.
use Rattle.std.specs.Prelude.{◌≡◌, ℕ, ◌<◌, Bool, true, not, ◌&&◌, nat_le, List, length, slice_get, Option, None, Some, unwrap_or, if◌then◌else◌}
use Rattle.std.specs.List.{list_any}
use Rattle.object.specs.declared.command.Command.{Command}
use Rattle.object.specs.declared.command.Submission.{Submission}
use Rattle.object.specs.Commands.{same_acts}
use Rattle.agreement.specs.declared.event.Event.{Event}
use Rattle.agreement.specs.declared.event.Event.TheVariants.{Submit, Deliver, Wake, Nudge, Propose, Perform, Restart}
use Rattle.world.specs.declared.error.WorldError.{WorldError}
use Rattle.world.specs.declared.error.WorldError.TheVariants.{OutOfMemory, NoSuchNode, NoSuchLetter, BadNumber, Full}
use Rattle.agreement.specs.Worlds.{World}
use Rattle.agreement.specs.Events.{is_at_member, is_sent}
use Rattle.agreement.specs.Runs.{most_events}
use Rattle.object.specs.Keys.{same_key}

-- the command's key was submitted with another act
abbrev pub has_other_act : {Op : Type 0} → (Op → Op → Bool) → List (Submission Op) → Command Op → Bool
has_other_act same submitted c = list_any (λ s. same_key s.command.key c.key && not (same_acts same s.command.act c.act)) submitted

-- the key that it submits was not submitted with another act
abbrev pub keeps_acts : {Op : Type 0} → (Op → Op → Bool) → List (Submission Op) → Event Op → Bool
keeps_acts same submitted (Submit n c) = not (has_other_act same submitted c)
keeps_acts same submitted (Deliver i) = true
keeps_acts same submitted (Wake n) = true
keeps_acts same submitted (Nudge n) = true
keeps_acts same submitted (Propose n) = true
keeps_acts same submitted (Perform n) = true
keeps_acts same submitted (Restart n) = true

-- why the world refuses the event, want of memory aside
unfoldable pub refusal : {Op Reply : Type 0} → (Op → Op → Bool) → World Op Reply → Event Op → Option WorldError
refusal same w e =
    if not (is_at_member w.cluster.members e) then Some NoSuchNode
    else (if not (is_sent (length w.cluster.letters) e) then Some NoSuchLetter
    else (if not (keeps_acts same w.happenings.submitted e) then Some BadNumber
    else (if nat_le most_events w.taken then Some Full else None)))

-- what is true of an event that is not refused
pub record IsAllowed {Op Reply : Type 0} (same : Op → Op → Bool) (w : World Op Reply) (e : Event Op) : Type 0 where
  pub member : is_at_member w.cluster.members e ≡ true
  pub sent : is_sent (length w.cluster.letters) e ≡ true
  pub acts : keeps_acts same w.happenings.submitted e ≡ true
  pub room : w.taken < most_events

-- why the event is refused: the first reason that there is, and want of memory only where there is none
abbrev pub reason_for : {Op Reply : Type 0} → (Op → Op → Bool) → World Op Reply → Event Op → WorldError
reason_for same w e = unwrap_or (refusal same w e) OutOfMemory

-- the event of this place is the one that this world refuses, for this reason
pub record IsRefused {Op Reply : Type 0} (same : Op → Op → Bool) (w : World Op Reply) (events : List (Event Op))
    (place : ℕ) (reason : WorldError) : Type 0 where
  pub event : Event Op
  pub at : slice_get events place ≡ Some event
  pub because : reason ≡ reason_for same w event
