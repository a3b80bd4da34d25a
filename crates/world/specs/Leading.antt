-- What each leader of a reachable cluster has: an active one is promised its ballot and waits for votes on each proposal,
-- or has told that it is decided.
use Rattle.std.specs.Prelude.{◌≡◌, ◌⊎◌, ℕ, Bool, true, false, List, length, None, Some, IsSome}
use Rattle.std.specs.FinMap.{empty, get}
use Rattle.object.specs.Lists.{In}
use Rattle.ballot.specs.Ballots.{Numbers}
use Rattle.ballot.specs.Letters.{letter}
use Rattle.ballot.specs.Members.{is_member, has, is_majority}
use Rattle.ballot.specs.OrderLaws.{IsUpto}
use Rattle.ballot.specs.declared.letter.LetterBody.TheVariants.{Decision}
use Rattle.scout_commander.specs.Commanders.{Commanding}
use Rattle.scout_commander.specs.Scouts.{Scouting}
use Rattle.ballot.specs.Slots.{Slots}
use Rattle.leader.specs.Leaders.{Leading}
use Rattle.agreement.specs.Nodes.{Cluster, node}

-- a majority of the acceptors has promised this ballot or a higher one
pub record IsPromised {C : Type 0} (k : Cluster C) (b : Numbers) : Type 0 where
  pub row : List Bool
  pub majority : is_majority k.members row ≡ true
  pub promised : (m : ℕ) → has row m ≡ true → IsUpto b (node k m).acceptor.promised

-- node n told every member that c is decided in slot s
abbrev pub IsToldToAll : {C : Type 0} → Cluster C → ℕ → ℕ → C → Type 0
IsToldToAll k n s c = (m : ℕ) → is_member k.members m ≡ true → In (letter n (Decision s c) m) k.letters

-- an active leader: its ballot is promised, it has no scout, and each of its proposals has a commander or was told to be
-- decided
pub record IsActive {C : Type 0} (k : Cluster C) (n : ℕ) (l : Leading C) : Type 0 where
  pub promised : IsPromised k l.ballot
  pub alone : l.scout ≡ None
  pub followed_up : (s : ℕ) (c : C) → get l.proposals s ≡ Some c → IsSome (get l.commanders s) ⊎ IsToldToAll k n s c

-- a scout that waits: those that it heard, of a row of seven, are members, and no majority
pub record IsStillScouting {C : Type 0} (k : Cluster C) (s : Scouting C) : Type 0 where
  pub few : is_majority s.members s.heard ≡ false
  pub full : length s.heard ≡ 7
  pub within : (m : ℕ) → has s.heard m ≡ true → is_member k.members m ≡ true

-- a commander of slot s that waits: those that it heard are members, and no majority, and its command is the one that is
-- proposed there
pub record IsStillCommanding {C : Type 0} (k : Cluster C) (proposals : Slots C) (s : ℕ) (c : Commanding C) : Type 0 where
  pub few : is_majority c.members c.heard ≡ false
  pub full : length c.heard ≡ 7
  pub value : get proposals s ≡ Some c.pvalue.value
  pub within : (m : ℕ) → has c.heard m ≡ true → is_member k.members m ≡ true

-- node n has this leader, whose scout and commanders are as they ought to be: while it isn't active it has no commander
pub record IsLed {C : Type 0} (k : Cluster C) (n : ℕ) (l : Leading C) : Type 0 where
  pub active : l.active ≡ true → IsActive k n l
  pub asleep : l.active ≡ false → l.commanders ≡ empty
  pub scout : (s : Scouting C) → l.scout ≡ Some s → IsStillScouting k s
  pub commander : (s : ℕ) (c : Commanding C) → get l.commanders s ≡ Some c → IsStillCommanding k l.proposals s c

abbrev pub HasLeader : {C : Type 0} → Cluster C → ℕ → Type 0
HasLeader k n = IsLed k n (node k n).leader
