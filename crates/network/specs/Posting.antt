-- What is so of mails, and of letters that aren't sorted into them yet.
use Rattle.std.specs.Prelude.{◌≡◌, true, ℕ, ◌≤◌, ◌==◌, if◌then◌else◌, List, [], ◌∷◌, length}
use Rattle.object.specs.Lists.{In}
use Rattle.ballot.specs.declared.letter.Letter.{Letter}
use Rattle.ballot.specs.Members.{is_member}
use Rattle.node.specs.Nodes.{NodeState, IsSeated, node_in}
use Rattle.network.specs.Networks.{mail_in, posted}

-- one of the numbers 1 to count
abbrev pub IsAmong : ℕ → ℕ → Type 0
IsAmong count n = (1 ≤ n) × (n ≤ count)

-- the letter is from one of the nodes 1 to count, and to one
pub record IsBetween {C : Type 0} (count : ℕ) (l : Letter C) : Type 0 where
  pub sender : IsAmong count l.«from»
  pub receiver : IsAmong count l.to

-- and so are all of these
abbrev pub AreBetween : {C : Type 0} → ℕ → List (Letter C) → Type 0
AreBetween {C} count letters = (l : Letter C) → In l letters → IsBetween count l

-- every letter, in a mail or not, is between nodes that have a mail
pub record IsPost {C : Type 0} (mails : List (List (Letter C))) (fresh : List (Letter C)) : Type 0 where
  pub mailed : (mail : List (Letter C)) → In mail mails → AreBetween (length mails) mail
  pub unsorted : AreBetween (length mails) fresh

-- each member has a node of its number and a mail, and every letter is between members
pub record IsNetwork {C : Type 0} (members : List ℕ) (nodes : List (NodeState C)) (mails : List (List (Letter C))) (fresh : List (Letter C)) : Type 0 where
  pub has_nodes : length nodes ≡ length members
  pub has_mails : length mails ≡ length members
  pub seated : (n : ℕ) → is_member members n ≡ true → IsSeated members n (node_in members nodes n)
  pub post : IsPost mails fresh

-- the letters that are on their way to node n: those in its mail, and behind them those that aren't sorted into it yet
abbrev pub on_way : {C : Type 0} → List (List (Letter C)) → List (Letter C) → ℕ → List (Letter C)
on_way mails fresh n = mail_in (posted fresh mails) n

-- the letters without the first that is to node n
abbrev pub but_first : {C : Type 0} → ℕ → List (Letter C) → List (Letter C)
but_first n [] = []
but_first n (l ∷ ls) = if l.to == n then ls else (l ∷ but_first n ls)
