-- Nodes, each with the letters that are on their way to it.
use Rattle.std.specs.Prelude.{◌≡◌, ℕ, zero, suc, ◌==◌, Bool, is_some, List, [], ◌∷◌, ◌++◌, map, drop, slice_get, slice_index_or, slice_set, Option}
use Rattle.std.specs.List.{filter}
use Rattle.ballot.specs.declared.letter.Letter.{Letter}
use Rattle.ballot.specs.Members.{numbers}
use Rattle.object.specs.declared.command.Command.{Command}
use Rattle.object.specs.Objects.{Rules}
use Rattle.node.specs.Deeds.{Turn, acted}
use Rattle.node.specs.declared.deed.Deed.{Deed}
use Rattle.node.specs.Nodes.{NodeState, new_node, node_in, put}
use Rattle.node.specs.Receiving.{ShowsReceived}

-- the nodes 1, 2, .. of these members, and the mail of each in the order in which it was sent: that of node n is at n - 1
pub record NetworkState (C : Type 0) : Type 0 where
  pub members : List ℕ
  pub nodes : List (NodeState C)
  pub mails : List (List (Letter C))

-- the members, before anything happened
abbrev pub new_network : {C : Type 0} → List ℕ → NetworkState C
new_network members = record { members = members; nodes = map (new_node members) (numbers members); mails = map (λ _. []) (numbers members) }

-- node n; a new one where there is none
abbrev pub node_of : {C : Type 0} → NetworkState C → ℕ → NodeState C
node_of k n = node_in k.members k.nodes n

-- mail n of these; none where there is no such node
abbrev pub mail_in : {C : Type 0} → List (List (Letter C)) → ℕ → List (Letter C)
mail_in mails zero = []
mail_in mails (suc i) = slice_index_or mails i []

-- the mail of node n
abbrev pub mail_of : {C : Type 0} → NetworkState C → ℕ → List (Letter C)
mail_of k n = mail_in k.mails n

-- the letter that is in front of these
abbrev pub front : {C : Type 0} → List (Letter C) → Option (Letter C)
front mail = slice_get mail 0

-- a letter is on its way to node n
abbrev pub has_mail : {C : Type 0} → NetworkState C → ℕ → Bool
has_mail k n = is_some (front (mail_of k n))

-- these mails, with another one in the place of mail n
abbrev pub put_mail : {C : Type 0} → List (List (Letter C)) → ℕ → List (Letter C) → List (List (Letter C))
put_mail mails zero mail = mails
put_mail mails (suc i) mail = slice_set mails i mail

-- those of these letters that are to node n
abbrev pub letters_to : {C : Type 0} → ℕ → List (Letter C) → List (Letter C)
letters_to n letters = filter (λ l. l.to == n) letters

-- the mails of the nodes n, n + 1, .., with these letters at the back of their receivers' mail
abbrev pub posted_from : {C : Type 0} → ℕ → List (Letter C) → List (List (Letter C)) → List (List (Letter C))
posted_from n letters [] = []
posted_from n letters (mail ∷ mails) = (mail ++ letters_to n letters) ∷ posted_from (suc n) letters mails

-- the mails, with these letters at the back of their receivers' mail
abbrev pub posted : {C : Type 0} → List (Letter C) → List (List (Letter C)) → List (List (Letter C))
posted letters mails = posted_from 1 letters mails

-- node n becomes x, and sends letters
abbrev pub turned_net : {C : Type 0} → NetworkState C → ℕ → NodeState C → List (Letter C) → NetworkState C
turned_net k n x out = record k { nodes = put k.nodes n x; mails = posted out k.mails }

-- what node n becomes, sends and answers by this deed
abbrev pub turn_of : {O Op Reply : Type 0} → Rules O Op Reply → NetworkState (Command Op) → ℕ → Deed Op → Turn Op Reply
turn_of rules k n deed = acted rules k.members n (node_of k n) deed

-- node n does this, and what it sends is posted
abbrev pub acted_net : {O Op Reply : Type 0} → Rules O Op Reply → NetworkState (Command Op) → ℕ → Deed Op → NetworkState (Command Op)
acted_net rules k n deed = turned_net k n (turn_of rules k n deed).state (turn_of rules k n deed).sent

-- node n's mail loses the letter in front
abbrev pub without_front : {C : Type 0} → NetworkState C → ℕ → NetworkState C
without_front k n = record k { mails = put_mail k.mails n (drop 1 (mail_of k n)) }

-- a letter goes to the back of node n's mail
abbrev pub with_last : {C : Type 0} → NetworkState C → ℕ → Letter C → NetworkState C
with_last k n l = record k { mails = put_mail k.mails n (mail_of k n ++ (l ∷ [])) }

-- node n received the letter that was in front of its mail, and what it sent was posted
abbrev pub IsDelivered : {C : Type 0} → NetworkState C → ℕ → Letter C → NetworkState C → Type 0
IsDelivered {C} k n l z =
    (x : NodeState C) × (sent : List (Letter C))
    × (z ≡ turned_net (without_front k n) n x sent)
    × ShowsReceived l.«from» (node_of k n) l.body x [] sent
