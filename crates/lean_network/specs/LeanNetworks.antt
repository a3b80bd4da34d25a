-- Nodes that can forget slots, each with its object and with the letters that are on their way to it.
use Rattle.std.specs.Prelude.{◌≡◌, ℕ, zero, suc, List, [], ◌∷◌, ◌++◌, map, drop, slice_index_or, slice_set}
use Rattle.object.specs.declared.command.Command.{Command}
use Rattle.object.specs.Objects.{Rules}
use Rattle.object.specs.OnceOnly.{Filtered}
use Rattle.ballot.specs.Members.{numbers}
use Rattle.ballot.specs.declared.letter.Letter.{Letter}
use Rattle.ballot.specs.declared.letter.LetterBody.{LetterBody}
use Rattle.node.specs.Nodes.{NodeState, new_node}
use Rattle.node.specs.Holding.{Holding, HeldTurn, new_object, turned_held}
use Rattle.node.specs.Rests.{rest_of_node}
use Rattle.node.specs.Receiving.{ShowsReceived}
use Rattle.node.specs.declared.deed.Deed.{Deed}
use Rattle.network.specs.Networks.{NetworkState, mail_in, put_mail, posted}

-- the nodes 1, 2, .. of these members, and the mail of each in the order in which it was sent: that of node n is at n - 1
pub record LeanState (Op O : Type 0) : Type 0 where
  pub members : List ℕ
  pub nodes : List (Holding Op O)
  pub mails : List (List (Letter (Command Op)))

-- the network as far as slots and letters go, without its objects
abbrev pub states : {Op O : Type 0} → LeanState Op O → NetworkState (Command Op)
states k = record { members = k.members; nodes = map (λ h. h.state) k.nodes; mails = k.mails }

-- node n of these members before anything happened, with a new object
abbrev pub new_holding : {O Op Reply : Type 0} → Rules O Op Reply → List ℕ → ℕ → Holding Op O
new_holding rules members n = record { state = new_node members n; object = new_object rules }

-- the members, before anything happened
abbrev pub new_lean : {O Op Reply : Type 0} → Rules O Op Reply → List ℕ → LeanState Op O
new_lean rules members = record {
  members = members;
  nodes = map (new_holding rules members) (numbers members);
  mails = map (λ _. []) (numbers members);
}

-- node n of these nodes; a new one where there is none
abbrev pub lean_node_in : {O Op Reply : Type 0} → Rules O Op Reply → List ℕ → List (Holding Op O) → ℕ → Holding Op O
lean_node_in rules members nodes zero = new_holding rules members 0
lean_node_in rules members nodes (suc i) = slice_index_or nodes i (new_holding rules members (suc i))

-- node n; a new one where there is none
abbrev pub lean_node_of : {O Op Reply : Type 0} → Rules O Op Reply → LeanState Op O → ℕ → Holding Op O
lean_node_of rules k n = lean_node_in rules k.members k.nodes n

-- the object that node n holds
abbrev pub object_of : {O Op Reply : Type 0} → Rules O Op Reply → LeanState Op O → ℕ → Filtered O
object_of rules k n = (lean_node_of rules k n).object

-- the mail of node n
abbrev pub lean_mail_of : {Op O : Type 0} → LeanState Op O → ℕ → List (Letter (Command Op))
lean_mail_of k n = mail_in k.mails n

-- these nodes, with another one in the place of node n
abbrev pub put_lean : {Op O : Type 0} → List (Holding Op O) → ℕ → Holding Op O → List (Holding Op O)
put_lean nodes zero h = nodes
put_lean nodes (suc i) h = slice_set nodes i h

-- node n becomes h, and sends letters
abbrev pub turned_lean : {Op O : Type 0} → LeanState Op O → ℕ → Holding Op O → List (Letter (Command Op)) → LeanState Op O
turned_lean k n h out = record k { nodes = put_lean k.nodes n h; mails = posted out k.mails }

-- what node n becomes, sends and answers by this deed
abbrev pub lean_turn_of : {O Op Reply : Type 0} → Rules O Op Reply → LeanState Op O → ℕ → Deed Op → HeldTurn Op O Reply
lean_turn_of rules k n deed = turned_held rules k.members n (lean_node_of rules k n) deed

-- node n does this, and what it sends is posted
abbrev pub acted_lean : {O Op Reply : Type 0} → Rules O Op Reply → LeanState Op O → ℕ → Deed Op → LeanState Op O
acted_lean rules k n deed = turned_lean k n (lean_turn_of rules k n deed).state (lean_turn_of rules k n deed).sent

-- node n's mail loses the letter in front
abbrev pub lean_without_front : {Op O : Type 0} → LeanState Op O → ℕ → LeanState Op O
lean_without_front k n = record k { mails = put_mail k.mails n (drop 1 (lean_mail_of k n)) }

-- a letter goes to the back of node n's mail
abbrev pub lean_with_last : {Op O : Type 0} → LeanState Op O → ℕ → Letter (Command Op) → LeanState Op O
lean_with_last k n l = record k { mails = put_mail k.mails n (lean_mail_of k n ++ (l ∷ [])) }

-- what is left of a node that forgets the slots below the base; its object stays
abbrev pub rest_of_holding : {Op O : Type 0} → ℕ → Holding Op O → Holding Op O
rest_of_holding base h = record h { state = rest_of_node base h.state }

-- each node forgets the slots below the base; the letters stay
abbrev pub forgotten_lean : {Op O : Type 0} → ℕ → LeanState Op O → LeanState Op O
forgotten_lean base k = record k { nodes = map (rest_of_holding base) k.nodes }

-- node n received what was left of the letter that was in front of its mail, and what it sent was posted
abbrev pub IsLeanDelivered : {O Op Reply : Type 0} → Rules O Op Reply → LeanState Op O → ℕ → Letter (Command Op)
    → LetterBody (Command Op) → LeanState Op O → Type 0
IsLeanDelivered {O} {Op} rules k n l left z =
    (x : NodeState (Command Op)) × (sent : List (Letter (Command Op)))
    × (z ≡ turned_lean (lean_without_front k n) n (record (lean_node_of rules k n) { state = x }) sent)
    × ShowsReceived l.«from» (lean_node_of rules k n).state left x [] sent
