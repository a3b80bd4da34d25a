-- What an outcome tells of the order of commands, where the slots up to a reach were performed before.
use Rattle.std.specs.Prelude.{ℕ, nat_lt, max, Bool, true, false, ◌&&◌, if◌then◌else◌, Option, None, Some}
use Rattle.object.specs.declared.command.Key.{Key}
use Rattle.object.specs.declared.once.Effect.{Effect}
use Rattle.object.specs.declared.once.Effect.TheVariants as effects
use Rattle.node.specs.declared.deed.Outcome.{Outcome}
use Rattle.node.specs.declared.deed.Outcome.TheVariants.{Idle, Done, Performed}

-- the reach after what came of a deed
abbrev pub reach_after : ℕ → Outcome → ℕ
reach_after reach Idle = reach
reach_after reach Done = reach
reach_after reach (Performed p) = max reach p.slot

-- the command isn't stale
abbrev pub takes_effect : Effect → Bool
takes_effect effects.Done = true
takes_effect effects.Stale = false

-- the key that takes effect with what came of a deed, or none: that of a slot past the reach, unless its command is stale
abbrev pub key_placed : ℕ → Outcome → Option Key
key_placed reach Idle = None
key_placed reach Done = None
key_placed reach (Performed p) = if nat_lt reach p.slot && takes_effect p.effect then Some p.key else None
