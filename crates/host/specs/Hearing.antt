-- What a host hears at once, and what it votes later.
use Rattle.std.specs.Prelude.{◌≡◌, ◌<◌, ◌+◌, ℕ, List, [], ◌∷◌, ◌++◌}
use Rattle.object.specs.declared.command.Command.{Command}
use Rattle.ballot.specs.declared.letter.Letter.{Letter}
use Rattle.node.specs.Nodes.{NodeState}
use Rattle.node.specs.Receiving.{ShowsReceived}
use Rattle.cluster.specs.Envelopes.{Envelope, IsReadAs}
use Rattle.cluster.specs.Hosts.{with_node_state}
use Rattle.host.specs.Counting.{receipt_events}
use Rattle.host.specs.Receiving.{AsksForVote, Comes, put_aside}
use Rattle.host.specs.Views.{HostView}
use Rattle.host.specs.declared.receipt.Receipt.{Receipt}
use Rattle.host.specs.declared.receipt.Receipt.TheVariants as receipts

-- Host h receives an envelope that doesn't ask for a vote, or puts it aside, or leaves it out, and becomes z. What asks
-- for a vote is not received here.
pub record ReadsEnvelope {Op O : Type 0} (r : Receipt) (h : HostView Op O) (p : Envelope (Command Op)) (z : HostView Op O)
    (before now : List (Letter (Command Op))) : Type 0 where
  pub number : z.number ≡ h.number
  pub shown : Comes r h.number h.shown p z.shown before now
  pub aside : z.aside ≡ h.aside ++ put_aside r p
  pub voted : z.voted ≡ h.voted
  pub taken : z.taken ≡ h.taken + receipt_events r
  pub waits : AsksForVote p.letter.body → r ≡ receipts.Received → ⊥

-- host h receives the first that was put aside, whose record is among the first so many, and becomes z
pub record Votes {Op O : Type 0} (upto : ℕ) (h z : HostView Op O) (before now : List (Letter (Command Op)))
    : Type 0 where
  pub kept : h.voted < upto
  pub envelope : Envelope (Command Op)
  pub first : h.aside ≡ envelope ∷ z.aside
  pub reads : IsReadAs envelope h.number h.shown.base envelope.letter.body
  pub new : NodeState (Command Op)
  pub sent : List (Letter (Command Op))
  pub received : ShowsReceived envelope.letter.«from» h.shown.holding.state envelope.letter.body new [] sent
  pub shown : z.shown ≡ with_node_state h.shown new
  pub behind : now ≡ before ++ sent
  pub number : z.number ≡ h.number
  pub voted : z.voted ≡ h.voted + 1
  pub taken : z.taken ≡ h.taken + 1

-- and so on with those behind it: h becomes z, and the letters now are those before with what it sent
pub data VotesOn {Op O : Type 0} (upto : ℕ) (h : HostView Op O) (before : List (Letter (Command Op)))
    : HostView Op O → List (Letter (Command Op)) → Type 0 where
  at_once : VotesOn upto h before h before
  further :
      {y : HostView Op O} {now : List (Letter (Command Op))}
      (z : HostView Op O) (after : List (Letter (Command Op)))
      → VotesOn upto h before y now
      → Votes upto y z now after
      → VotesOn upto h before z after
