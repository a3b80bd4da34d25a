-- What it is that nodes with their mail show a cluster, of which they have forgotten the slots up to a base.
use Rattle.std.specs.Prelude.{◌≡◌, ◌≤◌, ℕ, true, List, [], length, map, ◌==◌, if◌then◌else◌, Some, slice_get}
use Rattle.object.specs.Lists.{In}
use Rattle.object.specs.declared.command.Command.{Command}
use Rattle.object.specs.Objects.{Rules}
use Rattle.ballot.specs.Members.{is_member}
use Rattle.ballot.specs.declared.letter.Letter.{Letter}
use Rattle.ballot.specs.declared.letter.LetterBody.{LetterBody}
use Rattle.node.specs.Nodes.{NodeState}
use Rattle.node.specs.Deeds.{acted, outcome_of}
use Rattle.node.specs.Receiving.{ShowsNode, ShowsReceived}
use Rattle.node.specs.declared.deed.Deed.{Deed}
use Rattle.network.specs.Networks.{NetworkState, node_of, mail_of, turned_net, without_front}
use Rattle.agreement.specs.Nodes.{Cluster, node}
use Rattle.agreement.specs.Worlds.{World}
use Rattle.agreement.specs.Steps.{Step, IsItsOwn}
use Rattle.agreement.specs.Events.{event_of}
use Rattle.agreement.specs.declared.event.Event.TheVariants.{Deliver}
use Rattle.ballot.specs.Rests.{rest_of_body}
use Rattle.node.specs.Rests.{rest_of_node}
use Rattle.node.specs.Holding.{Holding, HeldTurn, outcome_held}
use Rattle.forgetting.specs.Holding.{acted_held}
use Rattle.object.specs.OnceOnly.{Filtered}
use Rattle.object.specs.Obeying.{obeyed}
use Rattle.object.specs.declared.command.Submission.{Submission}
use Rattle.slot_log.specs.Histories.{history}
use Rattle.node.specs.declared.deed.Deed.TheVariants as deeds

-- the letter was sent to n; of either one the same is left
pub record IsLetterOf {C : Type 0} (base : ℕ) (n : ℕ) (kept sent : Letter C) : Type 0 where
  pub sender : kept.«from» ≡ sent.«from»
  pub receiver : sent.to ≡ n
  pub own : kept.to ≡ n
  pub left : rest_of_body base kept.body ≡ rest_of_body base sent.body

-- Each member's replica has performed the slots up to the base, and its node is the rest of that of
-- the world, but that the acceptor may keep less, if that is enough for a report; and of each letter of its mail as much
-- is left as of one that was sent to it.
pub record ShowsRest {C : Type 0} (base : ℕ) (k : NetworkState C) (w : Cluster C) : Type 0 where
  pub members : k.members ≡ w.members
  pub has_nodes : length k.nodes ≡ length k.members
  pub has_mails : length k.mails ≡ length k.members
  pub nodes : (n : ℕ) → is_member k.members n ≡ true → ShowsNode (node_of k n) (rest_of_node base (node w n))
  pub past : (n : ℕ) → is_member k.members n ≡ true → base ≤ (node w n).replica.slot_out
  pub letters : (n : ℕ) (l : Letter C) → In l (mail_of k n) → (m : Letter C) × In m w.letters × IsLetterOf base n l m

-- node n, with its object
abbrev pub holder : {Op O : Type 0} → NetworkState (Command Op) → (ℕ → Filtered O) → ℕ → Holding Op O
holder k objects n = record { state = node_of k n; object = objects n }

-- each member's object has obeyed what its node performed
abbrev pub ObeyWorld : {O Op Reply : Type 0} → Rules O Op Reply → NetworkState (Command Op) → (ℕ → Filtered O) → Cluster (Command Op) → Type 0
ObeyWorld rules k objects w = (n : ℕ) → is_member k.members n ≡ true → objects n ≡ obeyed rules (history (node w n).replica)

-- the objects, with another one for node n
abbrev pub with_object : {O : Type 0} → (ℕ → Filtered O) → ℕ → Filtered O → ℕ → Filtered O
with_object objects n o m = if m == n then o else objects m

-- what node n becomes, sends and answers
abbrev pub turn_held : {O Op Reply : Type 0} → Rules O Op Reply → NetworkState (Command Op) → (ℕ → Filtered O) → ℕ → Deed Op → HeldTurn Op O Reply
turn_held rules k objects n d = acted_held rules k.members n (holder k objects n) d

abbrev pub acted_net_held : {O Op Reply : Type 0} → Rules O Op Reply → NetworkState (Command Op) → (ℕ → Filtered O) → ℕ → Deed Op → NetworkState (Command Op)
acted_net_held rules k objects n d = turned_net k n (turn_held rules k objects n d).state.state (turn_held rules k objects n d).sent

-- the world's event is the node's deed: it makes a world that is shown then, with the same answers and outcome
pub record FollowsDeed {O Op Reply : Type 0} (rules : Rules O Op Reply) (base : ℕ) (k : NetworkState (Command Op))
    (objects : ℕ → Filtered O) (n : ℕ) (d : Deed Op) (w : World Op Reply) : Type 0 where
  pub world : World Op Reply
  pub step : Step rules w (event_of n d) world
  pub shows : ShowsRest base (acted_net_held rules k objects n d) world.cluster
  pub obey : ObeyWorld rules k (with_object objects n (turn_held rules k objects n d).state.object) world.cluster
  pub answers : (turn_held rules k objects n d).answers ≡ (acted rules w.cluster.members n (node w.cluster n) d).answers
  pub outcome : outcome_held (holder k objects n) d ≡ outcome_of (node w.cluster n) d

-- a command that is asked for comes with its own key, and none of its session that was submitted has a greater number
pub record IsLastSubmitted {Op : Type 0} (c : Command Op) (submitted : List (Submission Op)) : Type 0 where
  pub own : IsItsOwn c submitted
  pub last : (s : Submission Op) → In s submitted → s.command.key.session ≡ c.key.session → s.command.key.number ≤ c.key.number

abbrev pub AsksForLastSubmitted : {Op : Type 0} → Deed Op → List (Submission Op) → Type 0
AsksForLastSubmitted (deeds.Request c) submitted = IsLastSubmitted c submitted
AsksForLastSubmitted deeds.Wake submitted = Unit {0}
AsksForLastSubmitted deeds.Nudge submitted = Unit {0}
AsksForLastSubmitted deeds.Propose submitted = Unit {0}
AsksForLastSubmitted deeds.Perform submitted = Unit {0}
AsksForLastSubmitted deeds.Restart submitted = ⊥

-- node n received what was left of the letter in front of its mail
abbrev pub IsDeliveredSince : {C : Type 0} → NetworkState C → ℕ → Letter C → LetterBody C → NetworkState C → Type 0
IsDeliveredSince {C} k n l left z =
    (x : NodeState C) × (sent : List (Letter C))
    × (z ≡ turned_net (without_front k n) n x sent)
    × ShowsReceived l.«from» (node_of k n) left x [] sent

-- the world's event is that a letter is delivered, of which this was left: the one that l, in front of node n's mail, stands for
pub record FollowsLetter {O Op Reply : Type 0} (rules : Rules O Op Reply) (base n : ℕ) (l : Letter (Command Op)) (left : LetterBody (Command Op))
    (objects : ℕ → Filtered O) (z : NetworkState (Command Op)) (w : World Op Reply) : Type 0 where
  pub place : ℕ
  pub letter : Letter (Command Op)
  pub sent : slice_get w.cluster.letters place ≡ Some letter
  pub was : rest_of_body base letter.body ≡ Some left
  pub stood : IsLetterOf base n l letter
  pub world : World Op Reply
  pub step : Step rules w (Deliver place) world
  pub shows : ShowsRest base z world.cluster
  pub obey : ObeyWorld rules z objects world.cluster

-- the nodes forget the slots up to a higher base
abbrev pub forgotten_net : {C : Type 0} → ℕ → NetworkState C → NetworkState C
forgotten_net base k = record k { nodes = map (rest_of_node base) k.nodes }
