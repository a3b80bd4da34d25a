-- Lists of events, and the worlds that they reach.
use Rattle.std.specs.Prelude.{ℕ, ◌≤◌, ◌^◌, List, [], ◌∷◌, ◌++◌}
use Rattle.agreement.specs.declared.event.Event.{Event}
use Rattle.object.specs.Objects.{Rules}
use Rattle.agreement.specs.Worlds.{World, opening}
use Rattle.agreement.specs.Steps.{Step}

-- how many events a world takes
abbrev pub most_events : ℕ
most_events = 2 ^ 48

-- these events lead from the one world to the other
pub data Leads {O Op Reply : Type 0} (rules : Rules O Op Reply) (w : World Op Reply) : List (Event Op) → World Op Reply → Type 0 where
  at_once : Leads rules w [] w
  after : {es : List (Event Op)} {v : World Op Reply} (e : Event Op) (u : World Op Reply) → Leads rules w es v
      → Step rules v e u → Leads rules w (es ++ (e ∷ [])) u

-- some events lead from the opening world of its members to this one; the world counts how many
abbrev pub IsReachable : {O Op Reply : Type 0} → Rules O Op Reply → World Op Reply → Type 0
IsReachable {O} {Op} rules w = (es : List (Event Op)) × Leads rules (opening w.cluster.members) es w

-- some events lead to the world, and no more than it takes
pub record IsWorld {O Op Reply : Type 0} (rules : Rules O Op Reply) (w : World Op Reply) : Type 0 where
  pub reachable : IsReachable rules w
  pub few : w.taken ≤ most_events

-- this is so of every world that events lead to
abbrev pub InEvery : {O Op Reply : Type 0} → Rules O Op Reply → (World Op Reply → Type 0) → Type 0
InEvery {O} {Op} {Reply} rules holds = (w : World Op Reply) → IsWorld rules w → holds w

-- and this of every one of them and what it becomes by an event
abbrev pub AfterEach : {O Op Reply : Type 0} → Rules O Op Reply → (World Op Reply → World Op Reply → Type 0) → Type 0
AfterEach {O} {Op} {Reply} rules holds = (w v : World Op Reply) (e : Event Op) → IsWorld rules w → Step rules w e v → holds w v
