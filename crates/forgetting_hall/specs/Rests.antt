-- A hall that forgets: what it keeps, what its calls make of it, and which world it shows.
use Rattle.std.specs.Prelude.{◌≡◌, ℕ, ◌+◌, ◌≤◌, ⊤, nat_lt, List, [], if◌then◌else◌, slice_get, Some}
use Rattle.std.specs.FinMap.{empty, insert, remove}
use Rattle.object.specs.Lists.{In}
use Rattle.object.specs.Objects.{Rules}
use Rattle.object.specs.OnceOnly.{Filtered}
use Rattle.object.specs.declared.command.Answer.{Answer}
use Rattle.object.specs.declared.command.Command.{Command}
use Rattle.object.specs.declared.command.Submission.{Submission}
use Rattle.ballot.specs.declared.letter.Letter.{Letter}
use Rattle.ballot.specs.declared.letter.LetterBody.{LetterBody}
use Rattle.node.specs.declared.deed.Deed.{Deed}
use Rattle.node.specs.declared.deed.Deed.TheVariants.{Request, Wake, Nudge, Propose, Perform, Restart}
use Rattle.node.specs.declared.deed.Outcome.{Outcome}
use Rattle.node.specs.declared.deed.Outcome.TheVariants.{Idle, Done, Performed}
use Rattle.node.specs.Outcomes.{reach_after, key_placed}
use Rattle.network.specs.Networks.{NetworkState, new_network, without_front, with_last}
use Rattle.agreement.specs.Steps.{Step}
use Rattle.agreement.specs.Worlds.{World}
use Rattle.agreement.specs.declared.event.Event.{Event}
use Rattle.agreement.specs.declared.event.Event.TheVariants.{Deliver}
use Rattle.object.specs.Legal.{IsLegal, IsGivenAt}
use Rattle.ballot.specs.Rests.{rest_of_body}
use Rattle.node.specs.Holding.{outcome_held}
use Rattle.client_table.specs.Clients.{Summary, blank_summary, new_client, with_command, with_replies, with_effect}
use Rattle.forgetting_hall.specs.Clients.{IsSummaryOf, CountsPlaced, IsOpenedUpTo}
use Rattle.forgetting_hall.specs.Shown.{ShowsRest, ObeyWorld, IsLetterOf, holder, with_object, turn_held, acted_net_held, forgotten_net, IsDeliveredSince}

-- The nodes with their mail, from a base on, and their objects; what is kept of what happened; how many sessions were opened;
-- the reach, and the count of events.
pub record HallRest (Op O Reply : Type 0) : Type 0 where
  pub network : NetworkState (Command Op)
  pub objects : ℕ → Filtered O
  pub base : ℕ
  pub summary : Summary Op Reply
  pub opened : ℕ
  pub reach : ℕ
  pub taken : ℕ

-- these members, before anything happened
abbrev pub new_rest : {O Op Reply : Type 0} → Rules O Op Reply → List ℕ → HallRest Op O Reply
new_rest rules members = record {
  network = new_network members;
  objects = λ n. record { object = rules.fresh; latest = empty };
  base = 0;
  summary = blank_summary;
  opened = 0;
  reach = 0;
  taken = 0;
}

-- It shows the world: its nodes and letters from the base on, objects that obey what the nodes performed, and what is kept of what
-- happened; no session but those that were opened has handed in anything.
pub record ShowsWorld {O Op Reply : Type 0} (rules : Rules O Op Reply) (h : HallRest Op O Reply) (w : World Op Reply) : Type 0 where
  pub cluster : ShowsRest h.base h.network w.cluster
  pub objects : ObeyWorld rules h.network h.objects w.cluster
  pub summary : IsSummaryOf h.summary w.happenings
  pub placed : CountsPlaced h.summary.placed w
  pub opened : IsOpenedUpTo h.opened h.summary
  pub handed_in : (s : Submission Op) → In s w.happenings.submitted → s.command.key.session ≤ h.opened
  pub reach : h.reach ≡ w.reach
  pub taken : h.taken ≡ w.taken

-- the event makes of the world one that is shown then
abbrev pub FollowsEvent : {O Op Reply : Type 0} → Rules O Op Reply → World Op Reply → Event Op → HallRest Op O Reply → Type 0
FollowsEvent {O} {Op} {Reply} rules w e z = (v : World Op Reply) × Step rules w e v × ShowsWorld rules z v

-- the same, where the event is that a letter is delivered of which this was left: the one that l, in front of node n's mail,
-- stands for, so it is from the same sender, and to node n
abbrev pub FollowsLetterOf : {O Op Reply : Type 0} → Rules O Op Reply → World Op Reply → ℕ → ℕ → Letter (Command Op) →
    LetterBody (Command Op) → HallRest Op O Reply → Type 0
FollowsLetterOf {O} {Op} {Reply} rules w base n l left z =
    (place : ℕ) × (letter : Letter (Command Op)) × (slice_get w.cluster.letters place ≡ Some letter)
    × (rest_of_body base letter.body ≡ Some left) × IsLetterOf base n l letter × FollowsEvent rules w (Deliver place) z

-- the deed is one that a node does by itself, but that it doesn't begin anew
abbrev pub IsGoingOn : {Op : Type 0} → Deed Op → Type 0
IsGoingOn (Request c) = ⊥
IsGoingOn Wake = ⊤
IsGoingOn Nudge = ⊤
IsGoingOn Propose = ⊤
IsGoingOn Perform = ⊤
IsGoingOn Restart = ⊥

-- this reply to the command was given, and what happened is legal for an order, in which it is the reply; what the object promises
-- of all commands holds of that order
pub record IsReplyInOrder {O Op Reply : Type 0} (rules : Rules O Op Reply) (promise : List (Command Op) → Type 0) (w : World Op Reply)
    (c : Command Op) (reply : Reply) : Type 0 where
  pub told : In (record { to = c.key; reply = reply }) w.happenings.answers
  pub order : List (Command Op)
  pub legal : IsLegal rules w.happenings order
  pub place : ℕ
  pub given : IsGivenAt rules order place (record { to = c.key; reply = reply })
  pub promised : promise order

-- node n does this: nodes, letters and objects
abbrev pub acted_rest : {O Op Reply : Type 0} → Rules O Op Reply → HallRest Op O Reply → ℕ → Deed Op → HallRest Op O Reply
acted_rest rules h n d = record h {
  network = acted_net_held rules h.network h.objects n d;
  objects = with_object h.objects n (turn_held rules h.network h.objects n d).state.object;
  taken = h.taken + 1;
}

-- a session's next command is handed in at node n
abbrev pub handed_in : {O Op Reply : Type 0} → Rules O Op Reply → HallRest Op O Reply → ℕ → Command Op → HallRest Op O Reply
handed_in rules h n c = record (acted_rest rules h n (Request c)) { summary = with_command c h.summary }

-- the answers that nobody was given before: those of a slot past the reach
abbrev pub fresh_answers : {Reply : Type 0} → ℕ → Outcome → List (Answer Reply) → List (Answer Reply)
fresh_answers reach Idle given = []
fresh_answers reach Done given = []
fresh_answers reach (Performed p) given = if nat_lt reach p.slot then given else []

-- what comes of the deed
abbrev pub outcome_rest : {Op O Reply : Type 0} → HallRest Op O Reply → ℕ → Deed Op → Outcome
outcome_rest h n d = outcome_held (holder h.network h.objects n) d

-- node n does this by itself: clients are told what is answered past the reach
abbrev pub done_rest : {O Op Reply : Type 0} → Rules O Op Reply → HallRest Op O Reply → ℕ → Deed Op → HallRest Op O Reply
done_rest rules h n d = record (acted_rest rules h n d) {
  summary = with_effect (key_placed h.reach (outcome_rest h n d))
      (with_replies (fresh_answers h.reach (outcome_rest h n d) (turn_held rules h.network h.objects n d).answers) h.summary);
  reach = reach_after h.reach (outcome_rest h n d);
}

-- node n received what was left of the letter in front of its mail
abbrev pub IsReceivedRest : {O Op Reply : Type 0} → HallRest Op O Reply → ℕ → Letter (Command Op) → LetterBody (Command Op) → HallRest Op O Reply → Type 0
IsReceivedRest {O} {Op} h n l left z =
    (network : NetworkState (Command Op)) × IsDeliveredSince h.network n l left network
    × (z ≡ record h { network = network; taken = h.taken + 1 })

-- the letter in front of node n's mail is lost
abbrev pub lost_rest : {Op O Reply : Type 0} → HallRest Op O Reply → ℕ → HallRest Op O Reply
lost_rest h n = record h { network = without_front h.network n }

-- it comes once more, at the back of that mail
abbrev pub repeated_rest : {Op O Reply : Type 0} → HallRest Op O Reply → ℕ → Letter (Command Op) → HallRest Op O Reply
repeated_rest h n l = record h { network = with_last h.network n l }

-- the slots below a higher base are forgotten
abbrev pub forgotten_rest : {Op O Reply : Type 0} → HallRest Op O Reply → ℕ → HallRest Op O Reply
forgotten_rest h base = record h { network = forgotten_net base h.network; base = base }

-- a session is opened: the next one
abbrev pub opened_rest : {Op O Reply : Type 0} → HallRest Op O Reply → HallRest Op O Reply
opened_rest h = record h {
  summary = record h.summary { clients = insert h.summary.clients (h.opened + 1) new_client };
  opened = h.opened + 1;
}

-- a session is opened that has this number
abbrev pub opened_as : {Op O Reply : Type 0} → HallRest Op O Reply → ℕ → HallRest Op O Reply
opened_as h session = record h {
  summary = record h.summary { clients = insert h.summary.clients session new_client };
  opened = session;
}

-- a session is let go of
abbrev pub let_go_rest : {Op O Reply : Type 0} → HallRest Op O Reply → ℕ → HallRest Op O Reply
let_go_rest h session = record h { summary = record h.summary { clients = remove h.summary.clients session } }
