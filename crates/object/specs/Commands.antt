-- What a command is.
use Rattle.std.specs.Prelude.{◌≡◌, ◌<◌, ◌≤◌, ◌^◌, Bool, true, false, ◌&&◌, ◌==◌}
use Rattle.object.specs.declared.command.Key.{Key}
use Rattle.object.specs.declared.command.Act.{Act}
use Rattle.object.specs.declared.command.Act.TheVariants.{Do, Close, Tick}

-- a command, as clauses see it
pub record KeyedAct (Op : Type 0) : Type 0 where
  pub key : Key
  pub act : Act Op

-- session 0 is the clock: it ticks, up to second 2^40, and nobody else does
abbrev pub MayAsk : {Op : Type 0} → Key → Act Op → Type 0
MayAsk key (Do op) = 0 < key.session
MayAsk key Close = 0 < key.session
MayAsk key Tick = (key.session ≡ 0) × (key.number ≤ 2 ^ 40)

-- the key may ask for the act, and its number is 1 to 2^62
pub record IsCommand {Op : Type 0} (c : KeyedAct Op) : Type 0 where
  pub above : 0 < c.key.number
  pub within : c.key.number ≤ 2 ^ 62
  pub allowed : MayAsk c.key c.act

-- two acts are one, where `same` tells operations apart
abbrev pub same_acts : {Op : Type 0} → (Op → Op → Bool) → Act Op → Act Op → Bool
same_acts same (Do o) (Do p) = same o p
same_acts same (Do o) Close = false
same_acts same (Do o) Tick = false
same_acts same Close (Do p) = false
same_acts same Close Close = true
same_acts same Close Tick = false
same_acts same Tick (Do p) = false
same_acts same Tick Close = false
same_acts same Tick Tick = true

-- and two commands
abbrev pub same_commands : {Op : Type 0} → (Op → Op → Bool) → KeyedAct Op → KeyedAct Op → Bool
same_commands same a b =
    (a.key.session == b.key.session && a.key.number == b.key.number) && same_acts same a.act b.act
