-- The commands of the slots that were performed.
use Rattle.std.specs.Prelude.{◌≡◌, ℕ, ◌+◌, ⊤, List, [], ◌∷◌, map, length}
use Rattle.object.specs.Lists.{In}
use Rattle.object.specs.Replays.{kept}
use Rattle.object.specs.declared.command.Command.{Command}
use Rattle.object.specs.declared.command.Key.{Key}
use Rattle.agreement.specs.Nodes.{Cluster}
use Rattle.agreement.specs.Worlds.{World}
use Rattle.agreement.specs.Chosen.{IsChosen}

-- these commands are chosen in the slots from s on
abbrev pub IsRun : {C : Type 0} → Cluster C → ℕ → List C → Type 0
IsRun k s [] = ⊤
IsRun k s (c ∷ cs) = IsChosen k s c × IsRun k (s + 1) cs

-- and these in the slots from 1 to the reach
pub record IsReached {Op Reply : Type 0} (w : World Op Reply) (cs : List (Command Op)) : Type 0 where
  pub chosen : IsRun w.cluster 1 cs
  pub count : length cs ≡ w.reach

-- one of these commands has the key
abbrev pub HasKey : {Op : Type 0} → Key → List (Command Op) → Type 0
HasKey {Op} key cs = (c : Command Op) × In c cs × (c.key ≡ key)

-- these are the keys of the commands that took effect in the slots from 1 to the reach: of those chosen there, the kept ones
abbrev pub HasPlaced : {Op Reply : Type 0} → World Op Reply → List Key → Type 0
HasPlaced {Op} w keys = (cs : List (Command Op)) × IsReached w cs × (keys ≡ map (λ c. c.key) (kept cs))
