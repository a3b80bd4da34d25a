-- Which commands a host may be asked for.
use Rattle.std.specs.Prelude.{◌≡◌, ◌≤◌, true, List}
use Rattle.object.specs.Happenings.{Happenings, with_submission}
use Rattle.object.specs.Lists.{In}
use Rattle.object.specs.OnceOnly.{is_later}
use Rattle.object.specs.declared.command.Command.{Command}
use Rattle.object.specs.declared.command.Submission.{Submission}
use Rattle.node.specs.declared.deed.Deed.{Deed}
use Rattle.node.specs.declared.deed.Deed.TheVariants as deeds
use Rattle.agreement.specs.Steps.{IsItsOwn}
use Rattle.cluster.specs.Hosts.{HostState}

-- its key comes with it alone, and none of its session that was submitted has a greater number
pub record IsLastSubmitted {Op : Type 0} (c : Command Op) (submitted : List (Submission Op)) : Type 0 where
  pub own : IsItsOwn c submitted
  pub last :
      (s : Submission Op) → In s submitted
      → s.command.key.session ≡ c.key.session → s.command.key.number ≤ c.key.number

-- a command that is asked for is the last of its session, and the deed is no restart
abbrev pub AsksForLastSubmitted : {Op : Type 0} → Deed Op → List (Submission Op) → Type 0
AsksForLastSubmitted (deeds.Request c) submitted = IsLastSubmitted c submitted
AsksForLastSubmitted deeds.Wake submitted = Unit {0}
AsksForLastSubmitted deeds.Nudge submitted = Unit {0}
AsksForLastSubmitted deeds.Propose submitted = Unit {0}
AsksForLastSubmitted deeds.Perform submitted = Unit {0}
AsksForLastSubmitted deeds.Restart submitted = ⊥

-- The key of a command that is asked for comes with it alone, and the host's filter lets it through: later ones of its
-- session may have been submitted. The deed is no restart.
abbrev pub AsksForUnknown : {Op O : Type 0} → HostState Op O → Deed Op → List (Submission Op) → Type 0
AsksForUnknown s (deeds.Request c) submitted = IsItsOwn c submitted × (is_later c.key s.holding.object.latest ≡ true)
AsksForUnknown s deeds.Wake submitted = Unit {0}
AsksForUnknown s deeds.Nudge submitted = Unit {0}
AsksForUnknown s deeds.Propose submitted = Unit {0}
AsksForUnknown s deeds.Perform submitted = Unit {0}
AsksForUnknown s deeds.Restart submitted = ⊥

-- a command that is asked for is submitted
abbrev pub with_asked : {Op Reply : Type 0} → Deed Op → Happenings Op Reply → Happenings Op Reply
with_asked (deeds.Request c) h = with_submission c h
with_asked deeds.Wake h = h
with_asked deeds.Nudge h = h
with_asked deeds.Propose h = h
with_asked deeds.Perform h = h
with_asked deeds.Restart h = h
