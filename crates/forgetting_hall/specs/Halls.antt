-- A hall that forgets, as its code has it: nodes with their mail that keep the slots from a base on, and what is kept of what
-- happened; and which world it shows.
use Rattle.std.specs.Prelude.{◌≡◌, ◌≤◌, ◌<◌, ℕ, ◌+◌, ◌^◌, Bool, true, false, List, IsSome, Some}
use Rattle.std.specs.FinMap.{get}
use Rattle.object.specs.Objects.{Rules}
use Rattle.object.specs.declared.command.Command.{Command}
use Rattle.ballot.specs.Members.{is_member}
use Rattle.ballot.specs.declared.letter.Letter.{Letter}
use Rattle.ballot.specs.declared.letter.LetterBody.{LetterBody}
use Rattle.agreement.specs.Runs.{IsWorld}
use Rattle.agreement.specs.Worlds.{World}
use Rattle.agreement.specs.declared.event.Event.{Event}
use Rattle.lean_network.specs.LeanNetworks.{LeanState, states, new_lean, lean_node_of, object_of}
use Rattle.lean_network.specs.declared.receipt.Receipt.{Receipt}
use Rattle.lean_network.specs.declared.receipt.Receipt.TheVariants as receipts
use Rattle.client_table.specs.Clients.{Summary, blank_summary, number_of_last}
use Rattle.client_table.specs.declared.client.Client.{Client}
use Rattle.forgetting_hall.specs.Gathered.{Gathering, not_gathering}
use Rattle.forgetting_hall.specs.Rests.{HallRest, ShowsWorld, FollowsEvent, FollowsLetterOf}

-- the nodes, each with its object, and their mail, from the base on; what is kept of what happened; how many sessions were
-- opened; the reach, and the count of events; and what it gathers
pub record ForgettingState (Op O Reply : Type 0) : Type 0 where
  pub network : LeanState Op O
  pub base : ℕ
  pub summary : Summary Op Reply
  pub opened : ℕ
  pub reach : ℕ
  pub taken : ℕ
  pub gathering : Gathering Op

-- what it keeps, the objects apart, but for what it gathers
abbrev pub rest_of_hall : {O Op Reply : Type 0} → Rules O Op Reply → ForgettingState Op O Reply → HallRest Op O Reply
rest_of_hall rules h = record {
  network = states h.network;
  objects = object_of rules h.network;
  base = h.base;
  summary = h.summary;
  opened = h.opened;
  reach = h.reach;
  taken = h.taken;
}

-- these members, before anything happened
abbrev pub new_forgetting : {O Op Reply : Type 0} → Rules O Op Reply → List ℕ → ForgettingState Op O Reply
new_forgetting rules members = record {
  network = new_lean rules members;
  base = 0;
  summary = blank_summary;
  opened = 0;
  reach = 0;
  taken = 0;
  gathering = not_gathering;
}

-- The clock is there; no more was handed in or took effect than there were events; no session's number is greater than one
-- that is handed in with its command, and the events after that; and no more sessions were opened than a hall opens.
pub record IsCounted {Op Reply : Type 0} (s : Summary Op Reply) (opened taken : ℕ) : Type 0 where
  pub clock : IsSome (get s.clients 0)
  pub submitted : s.submitted ≤ taken
  pub placed : s.placed ≤ taken
  pub numbers : (session : ℕ) (client : Client Op Reply) → get s.clients session ≡ Some client → number_of_last client.last ≤ 2 ^ 61 + taken
  pub few : opened < 2 ^ 32

-- events lead to a world that it shows
pub record IsForgettingHall {O Op Reply : Type 0} (rules : Rules O Op Reply) (h : ForgettingState Op O Reply) : Type 0 where
  pub shown : (w : World Op Reply) × IsWorld rules w × ShowsWorld rules (rest_of_hall rules h) w
  pub counted : IsCounted h.summary h.opened h.taken

-- of each world that events lead to and that the one state shows, the event makes a world that the other shows
abbrev pub FollowsIn : {O Op Reply : Type 0} → Rules O Op Reply → ForgettingState Op O Reply → Event Op → ForgettingState Op O Reply → Type 0
FollowsIn {O} {Op} {Reply} rules h e z =
    (w : World Op Reply) → IsWorld rules w → ShowsWorld rules (rest_of_hall rules h) w → FollowsEvent rules w e (rest_of_hall rules z)

-- the same, where the event is that the letter is delivered that l, in front of node n's mail, stands for, of which this was left
abbrev pub FollowsLeft : {O Op Reply : Type 0} → Rules O Op Reply → ForgettingState Op O Reply → ℕ → Letter (Command Op) →
    LetterBody (Command Op) → ForgettingState Op O Reply → Type 0
FollowsLeft {O} {Op} {Reply} rules h n l left z =
    (w : World Op Reply) → IsWorld rules w → ShowsWorld rules (rest_of_hall rules h) w → FollowsLetterOf rules w h.base n l left (rest_of_hall rules z)

-- where there is no event, the other shows each world that the one shows
abbrev pub ShowsStill : {O Op Reply : Type 0} → Rules O Op Reply → ForgettingState Op O Reply → ForgettingState Op O Reply → Type 0
ShowsStill {O} {Op} {Reply} rules h z =
    (w : World Op Reply) → IsWorld rules w → ShowsWorld rules (rest_of_hall rules h) w → ShowsWorld rules (rest_of_hall rules z) w

-- this is the least slot that some replica hasn't performed yet
pub record IsLeastOut {O Op Reply : Type 0} (rules : Rules O Op Reply) (h : ForgettingState Op O Reply) (slot : ℕ) : Type 0 where
  pub node : ℕ
  pub member : is_member h.network.members node ≡ true
  pub out : (lean_node_of rules h.network node).state.replica.slot_out ≡ slot
  pub least : (n : ℕ) → is_member h.network.members n ≡ true → slot ≤ (lean_node_of rules h.network n).state.replica.slot_out

-- the node received what was left of a letter
abbrev pub is_received : Receipt → Bool
is_received receipts.Nothing = false
is_received receipts.Forgotten = false
is_received receipts.Received = true
