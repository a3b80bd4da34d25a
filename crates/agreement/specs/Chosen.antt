-- What is chosen, and the order that it makes (Paxos Made Moderately Complex, 2.2: a command is chosen for a slot when
-- a majority of the acceptors accepted it under one ballot). Letters are no evidence here.
use Rattle.std.specs.Prelude.{◌≡◌, ℕ, ◌+◌, Bool, true, List, [], ◌∷◌}
use Rattle.object.specs.declared.command.Command.{Command}
use Rattle.object.specs.Lists.{In}
use Rattle.object.specs.Replays.{kept}
use Rattle.ballot.specs.Ballots.{Numbers}
use Rattle.ballot.specs.Members.{has, is_majority}
use Rattle.leader.specs.Leaders.{pvalue}
use Rattle.agreement.specs.Nodes.{Cluster, node}

-- a majority of the acceptors accepted c in this slot, under this ballot
pub record IsChosenAt {C : Type 0} (k : Cluster C) (b : Numbers) (s : ℕ) (c : C) : Type 0 where
  pub voters : List Bool
  pub majority : is_majority k.members voters ≡ true
  pub accepted : (m : ℕ) → has voters m ≡ true → In (pvalue b s c) (node k m).acceptor.accepted

-- under some ballot
abbrev pub IsChosen : {C : Type 0} → Cluster C → ℕ → C → Type 0
IsChosen k s c = (b : Numbers) × IsChosenAt k b s c

-- the commands chosen in the slots from s on, up to the first slot with none chosen
abbrev pub IsChosenFrom : {C : Type 0} → Cluster C → ℕ → List C → Type 0
IsChosenFrom {C} k s [] = (c : C) → IsChosen k s c → ⊥
IsChosenFrom k s (c ∷ cs) = IsChosen k s c × IsChosenFrom k (s + 1) cs

-- the order of a world: those of them that are kept
abbrev pub IsOrder : {Op : Type 0} → Cluster (Command Op) → List (Command Op) → Type 0
IsOrder {Op} k order = (chosen : List (Command Op)) × IsChosenFrom k 1 chosen × (order ≡ kept chosen)
