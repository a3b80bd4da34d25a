-- What holds in each reachable cluster, and that it gives agreement.
use Rattle.std.proofs.Common.{◌≡◌, ◌⊎◌, ⊎_elim, ℕ, ◌≤◌, Bool, true, false, List, length, Some, None, refl, sym, subst}
use Rattle.std.specs.Prelude.{⊤}
use Rattle.std.specs.FinMap.{get}
use Rattle.object.specs.Lists.{In}
use Rattle.ballot.specs.Ballots.{Numbers, is_below}
use Rattle.ballot.specs.Members.{has, is_member, is_majority}
use Rattle.ballot.specs.declared.pvalue.Pvalue.{Pvalue}
use Rattle.ballot.specs.declared.letter.LetterBody.{LetterBody}
use Rattle.ballot.specs.declared.letter.Letter.{Letter}
use Rattle.ballot.specs.declared.letter.LetterBody.TheVariants.{P1a, P1b, P2a, P2b, Propose, Decision, Ask}
use Rattle.acceptor.specs.Acceptors.{Acceptances}
use Rattle.scout_commander.specs.Scouts.{Scouting}
use Rattle.scout_commander.specs.Commanders.{Commanding}
use Rattle.leader.specs.Leaders.{Leading, IsScoutOf, IsCommanderOf, pvalue}
use Rattle.node.specs.Nodes.{NodeState}
use Rattle.agreement.specs.Nodes.{Cluster, node}
use Rattle.agreement.specs.Chosen.{IsChosenAt, IsChosen}
use Rattle.agreement.specs.Agreements.{IsPvalue, asked, reported, accepted}
use Rattle.object.specs.ListLaws.{Each, Each-at}
use Rattle.ballot.specs.OrderLaws.{BallotLaws, IsUpto, IsUnder}

-- a P2a of this pvalue was sent
abbrev pub Asked : {C : Type 0} → List (Letter C) → Pvalue C → Type 0
Asked {C} letters p = (l : Letter C) × In l letters × (l.body ≡ P2a p)

-- a majority promised more than b and accepted nothing at b in this slot: nothing can be chosen there any more
pub record IsBlocked {C : Type 0} (k : Cluster C) (b : Numbers) (s : ℕ) : Type 0 where
  pub row : List Bool
  pub majority : is_majority k.members row ≡ true
  pub promised : (m : ℕ) → has row m ≡ true → IsUnder b (node k m).acceptor.promised
  pub nothing : (m : ℕ) → has row m ≡ true → (c : C) → In (pvalue b s c) (node k m).acceptor.accepted → ⊥

-- at each lower ballot this command was asked for, or nothing can be chosen
abbrev pub IsSafe : {C : Type 0} → Cluster C → Numbers → ℕ → C → Type 0
IsSafe k b s c = (a : Numbers) → is_below a b ≡ true → Asked k.letters (pvalue a s c) ⊎ IsBlocked k a s

-- where the ballot of a sent P2a stands against the leader that owns it
pub record IsOwned {C : Type 0} (x : NodeState C) (p : Pvalue C) : Type 0 where
  pub boot : p.ballot.boot ≤ x.boot
  pub round : p.ballot.boot ≡ x.boot → p.ballot.round ≤ x.leader.ballot.round
  pub active : p.ballot ≡ x.leader.ballot → x.leader.active ≡ true
  pub value : p.ballot ≡ x.leader.ballot → get x.leader.proposals p.slot ≡ Some p.value

-- what a P1b says of its acceptor
pub record IsPromise {C : Type 0} (k : Cluster C) (m : ℕ) (b : Numbers) (report : List (Pvalue C)) : Type 0 where
  pub promised : IsUpto b (node k m).acceptor.promised
  pub sent : (p : Pvalue C) → In p report → Asked k.letters p
  pub greatest : (p : Pvalue C) → In p (node k m).acceptor.accepted → is_below p.ballot b ≡ true → (q : Pvalue C)
      × In q report × (q.slot ≡ p.slot) × (is_below q.ballot p.ballot ≡ false)

-- acceptor m accepted something at this slot and ballot
abbrev pub IsVote : {C : Type 0} → Cluster C → ℕ → ℕ → Numbers → Type 0
IsVote {C} k m s b = (c : C) × In (pvalue b s c) (node k m).acceptor.accepted

-- what a letter's body says, by its sender
abbrev pub IsTrueOf : {C : Type 0} → Cluster C → ℕ → LetterBody C → Type 0
IsTrueOf k m (P1a b) = ⊤
IsTrueOf k m (P1b b report) = IsPromise k m b report
IsTrueOf k m (P2a p) = ⊤
IsTrueOf k m (P2b b s by) = b ≡ Some by → IsVote k m s by
IsTrueOf k m (Propose s c) = ⊤
IsTrueOf k m (Decision s c) = IsChosen k s c
IsTrueOf k m (Ask s) = ⊤

-- a letter says what is true, and goes from a member to a member
pub record IsFair {C : Type 0} (k : Cluster C) (l : Letter C) : Type 0 where
  pub says : IsTrueOf k l.«from» l.body
  pub sender : is_member k.members l.«from» ≡ true
  pub receiver : is_member k.members l.to ≡ true

-- a proposal that an active leader has, or may still take
abbrev pub MayPropose : {C : Type 0} → Leading C → ℕ → C → Type 0
MayPropose l s c = (get l.proposals s ≡ None) ⊎ (get l.proposals s ≡ Some c)

-- what a scout gathered was asked for, and those heard said what the reports hold
pub record IsGathering {C : Type 0} (k : Cluster C) (b : Numbers) (heard : List Bool) (gathered : List (Pvalue C)) : Type 0 where
  pub sent : (p : Pvalue C) → In p gathered → Asked k.letters p
  pub reports : (m : ℕ) → has heard m ≡ true → (report : List (Pvalue C)) × IsPromise k m b report × ((p : Pvalue C) → In p report → In p gathered)

-- a scout stands only where the leader sleeps
pub record IsScouting {C : Type 0} (k : Cluster C) (l : Leading C) (s : Scouting C) : Type 0 where
  pub own : IsScoutOf l s
  pub asleep : l.active ≡ false
  pub gathering : IsGathering k l.ballot s.heard s.gathered

-- a commander's pvalue was asked for, and those heard accepted it
pub record IsVoting {C : Type 0} (k : Cluster C) (l : Leading C) (s : ℕ) (c : Commanding C) : Type 0 where
  pub own : IsCommanderOf l s c
  pub sent : Asked k.letters c.pvalue
  pub heard : (m : ℕ) → has c.heard m ≡ true → In c.pvalue (node k m).acceptor.accepted

pub record IsAcceptor {C : Type 0} (k : Cluster C) (a : Acceptances C) : Type 0 where
  pub sent : (p : Pvalue C) → In p a.accepted → Asked k.letters p
  pub promised : (p : Pvalue C) → In p a.accepted → IsUpto p.ballot a.promised

pub record IsLeading {C : Type 0} (k : Cluster C) (l : Leading C) : Type 0 where
  pub members : l.members ≡ k.members
  pub safe : l.active ≡ true → (s : ℕ) (c : C) → MayPropose l s c → IsSafe k l.ballot s c
  pub scouting : (s : Scouting C) → l.scout ≡ Some s → IsScouting k l s
  pub commanding : (s : ℕ) (c : Commanding C) → get l.commanders s ≡ Some c → IsVoting k l s c

pub record IsNode {C : Type 0} (k : Cluster C) (n : ℕ) (x : NodeState C) : Type 0 where
  pub owner : x.leader.ballot.node ≡ n
  pub boot : x.leader.ballot.boot ≡ x.boot
  pub acceptor : IsAcceptor k x.acceptor
  pub leader : IsLeading k x.leader
  pub decisions : (s : ℕ) (c : C) → get x.replica.decisions s ≡ Some c → IsChosen k s c

pub record IsSound {C : Type 0} (k : Cluster C) : Type 0 where
  pub size : length k.nodes ≡ length k.members
  pub owned : (p : Pvalue C) → Asked k.letters p → IsOwned (node k p.ballot.node) p
  pub unique : (p q : Pvalue C) → Asked k.letters p → Asked k.letters q → p.ballot ≡ q.ballot → p.slot ≡ q.slot → p.value ≡ q.value
  pub safe : (p : Pvalue C) → Asked k.letters p → IsSafe k p.ballot p.slot p.value
  pub nodes : (n : ℕ) → IsNode k n (node k n)
  pub letters : Each (IsFair k) k.letters

module _ (laws : BallotLaws) {C : Type 0} (k : Cluster C) (i : IsSound k) where
  -- every pvalue was asked for
  pub was_asked : (p : Pvalue C) → IsPvalue k p → Asked k.letters p
  was_asked p (asked l at same) = (l, at, same)
  was_asked p (reported l b report at same within) =
      (subst (λ body. IsTrueOf k l.«from» body) same (Each-at (IsFair k) k.letters l i.letters at).says).sent p within
  was_asked p (accepted m within) = (i.nodes m).acceptor.sent p within

  -- who accepted a chosen command
  voter : (b : Numbers) (s : ℕ) (c : C) → IsChosenAt k b s c → Asked k.letters (pvalue b s c)
  voter b s c h =
      let m = laws.share k.members h.voters h.voters h.majority h.majority in
      (i.nodes m.0).acceptor.sent (pvalue b s c) (h.accepted m.0 m.1)

  -- once (s, c) is chosen at a ballot, every pvalue of that slot asked for at a later one has c
  chosen_value : (a : Numbers) (s : ℕ) (c d : C) (b : Numbers) → IsChosenAt k a s c → Asked k.letters (pvalue b s d) → is_below a b ≡ true → c ≡ d
  chosen_value a s c d b h sent below =
      ⊎_elim
      (λ (x : Asked k.letters (pvalue a s d)). i.unique (pvalue a s c) (pvalue a s d) (voter a s c h) x refl refl)
      (λ (x : IsBlocked k a s). let m = laws.share k.members h.voters x.row h.majority x.majority in absurd (x.nothing m.0 m.2 c (h.accepted m.0 m.1)))
      (i.safe (pvalue b s d) sent a below)

  pub keeps_chosen : (b : Numbers) (s : ℕ) (c : C) → IsChosenAt k b s c → (p : Pvalue C) → IsPvalue k p → p.slot ≡ s → is_below b p.ballot ≡ true → p.value ≡ c
  keeps_chosen b s c h p is slot below =
      sym (chosen_value b s c p.value p.ballot h (subst (λ t. Asked k.letters (pvalue p.ballot t p.value)) slot (was_asked p is)) below)

  pub one_command : (p q : Pvalue C) → IsPvalue k p → IsPvalue k q → p.ballot ≡ q.ballot → p.slot ≡ q.slot → p.value ≡ q.value
  one_command p q a b same slot = i.unique p q (was_asked p a) (was_asked q b) same slot

  lower : (a b : Numbers) (s : ℕ) (c d : C) → IsChosenAt k a s c → IsChosenAt k b s d → is_below a b ≡ true → c ≡ d
  lower a b s c d h g below = chosen_value a s c d b h (voter b s d g) below

  pub agree : (s : ℕ) (c d : C) → IsChosen k s c → IsChosen k s d → c ≡ d
  agree s c d h g =
      ⊎_elim
      (λ (x : is_below h.0 g.0 ≡ true). lower h.0 g.0 s c d h.1 g.1 x)
      (λ (r : (h.0 ≡ g.0) ⊎ (is_below g.0 h.0 ≡ true)). ⊎_elim
      (λ (e : h.0 ≡ g.0). i.unique (pvalue h.0 s c) (pvalue g.0 s d) (voter h.0 s c h.1) (voter g.0 s d g.1) e refl)
      (λ (x : is_below g.0 h.0 ≡ true). sym (lower g.0 h.0 s d c g.1 h.1 x))
      r)
      (laws.total h.0 g.0)

  pub decides_chosen : (l : Letter C) (s : ℕ) (c : C) → In l k.letters → l.body ≡ Decision s c → IsChosen k s c
  decides_chosen l s c at same = subst (λ body. IsTrueOf k l.«from» body) same (Each-at (IsFair k) k.letters l i.letters at).says
