-- When a key stands in the order, when it is the last of its session, and which events bring it into the order.
use Rattle.std.specs.Prelude.{◌≡◌, ℕ, ◌<◌, ◌≤◌, Bool, true, false, ◌⊎◌, List, take, slice_get, None, Some}
use Rattle.std.specs.List.{list_all}
use Rattle.object.specs.Happenings.{is_submitted}
use Rattle.object.specs.Legal.{WasSubmitted}
use Rattle.object.specs.Lists.{In}
use Rattle.object.specs.Objects.{Rules}
use Rattle.object.specs.declared.command.Command.{Command}
use Rattle.object.specs.declared.command.Key.{Key}
use Rattle.object.specs.declared.command.Submission.{Submission}
use Rattle.agreement.specs.Chosen.{IsOrder}
use Rattle.agreement.specs.Nodes.{Cluster}
use Rattle.agreement.specs.Reached.{HasKey}
use Rattle.world.specs.Refusals.{refusal}
use Rattle.agreement.specs.Runs.{Leads}
use Rattle.agreement.specs.Worlds.{World}
use Rattle.agreement.specs.declared.event.Event.{Event}
use Rattle.agreement.specs.declared.event.Event.TheVariants.{Submit, Deliver, Wake, Nudge, Propose, Perform, Restart}

-- the key stands in the order
abbrev pub IsInOrder : {Op : Type 0} → Cluster (Command Op) → Key → Type 0
IsInOrder {Op} k key = (order : List (Command Op)) × IsOrder k order × HasKey key order

-- the key's command is the last of its session: it was submitted, and no greater number of its session was
pub record IsLast {Op : Type 0} (key : Key) (submitted : List (Submission Op)) : Type 0 where
  pub command : Command Op
  pub was : WasSubmitted command submitted
  pub own : command.key ≡ key
  pub last : (s : Submission Op) → In s submitted → s.command.key.session ≡ key.session → s.command.key.number ≤ key.number

-- a greater number of the key's session was submitted
pub record HasGreater {Op : Type 0} (key : Key) (submitted : List (Submission Op)) : Type 0 where
  pub submission : Submission Op
  pub was : In submission submitted
  pub session : submission.command.key.session ≡ key.session
  pub greater : key.number < submission.command.key.number

-- the event restarts no node
abbrev pub keeps_nodes : {Op : Type 0} → Event Op → Bool
keeps_nodes (Submit n c) = true
keeps_nodes (Deliver i) = true
keeps_nodes (Wake n) = true
keeps_nodes (Nudge n) = true
keeps_nodes (Propose n) = true
keeps_nodes (Perform n) = true
keeps_nodes (Restart n) = false

-- These events bring the key into the order, whatever report each leader takes. None of them restarts a node. After any
-- run of the first of them the next one is refused for want of memory alone. And after any run of all of them the key
-- stands in the order.
pub record Rescues {O Op Reply : Type 0} (rules : Rules O Op Reply) (same : Op → Op → Bool) (w : World Op Reply)
    (key : Key) (events : List (Event Op)) : Type 0 where
  pub calm : list_all keeps_nodes events ≡ true
  pub allowed : (n : ℕ) (v : World Op Reply) (e : Event Op) → Leads rules w (take n events) v → slice_get events n ≡ Some e → refusal same v e ≡ None
  pub ends : (v : World Op Reply) → Leads rules w events v → IsInOrder v.cluster key

-- no events need bring the key into the order: it was not submitted, or it is not in the order and a greater number of
-- its session was submitted
abbrev pub HasNoWay : {Op Reply : Type 0} → World Op Reply → Key → Type 0
HasNoWay {Op} w key = (is_submitted key w.happenings.submitted ≡ false) ⊎ ((IsInOrder w.cluster key → ⊥) × HasGreater key w.happenings.submitted)
