-- Nodes with their mail, and what happened there.
use Rattle.std.specs.Prelude.{◌≡◌, ℕ, ◌+◌, ⊤, List, Option, None, Some}
use Rattle.object.specs.declared.command.Command.{Command}
use Rattle.object.specs.declared.command.Key.{Key}
use Rattle.object.specs.Happenings.{with_submission}
use Rattle.object.specs.Objects.{Rules}
use Rattle.ballot.specs.declared.letter.Letter.{Letter}
use Rattle.node.specs.Deeds.{outcome_of}
use Rattle.node.specs.Outcomes.{reach_after, key_placed}
use Rattle.node.specs.declared.deed.Deed.{Deed}
use Rattle.node.specs.declared.deed.Deed.TheVariants.{Request, Wake, Nudge, Propose, Perform, Restart}
use Rattle.network.specs.Networks.{NetworkState, new_network, node_of, turn_of, acted_net, without_front, with_last, IsDelivered}
use Rattle.recorder.specs.Records.{Record, blank, with_first_answers, with_place}

-- the nodes and their mail; what happened; the greatest slot that any of them performed so far is the reach, 0 at first;
-- and the events are counted
pub record RecordedState (Op Reply : Type 0) : Type 0 where
  pub network : NetworkState (Command Op)
  pub past : Record Op Reply
  pub reach : ℕ
  pub taken : ℕ

-- these members, before anything happened
abbrev pub untouched : {Op Reply : Type 0} → List ℕ → RecordedState Op Reply
untouched members = record { network = new_network members; past = blank; reach = 0; taken = 0 }

-- node n is asked for a command, which is submitted unless its key was
abbrev pub asked : {O Op Reply : Type 0} → Rules O Op Reply → RecordedState Op Reply → ℕ → Command Op → RecordedState Op Reply
asked rules k n c = record {
  network = acted_net rules k.network n (Request c);
  past = record k.past { happenings = with_submission c k.past.happenings };
  reach = k.reach;
  taken = k.taken + 1;
}

-- the command of the key takes effect, where there is one
abbrev pub with_place_if : {Op Reply : Type 0} → Option Key → Record Op Reply → Record Op Reply
with_place_if None r = r
with_place_if (Some key) r = with_place key r

-- node n does this, and what comes of it is recorded: the answers that it gives, but for those to a key that has its
-- answer, and the key of what it performs past the reach
abbrev pub done : {O Op Reply : Type 0} → Rules O Op Reply → RecordedState Op Reply → ℕ → Deed Op → RecordedState Op Reply
done rules k n deed = record {
  network = acted_net rules k.network n deed;
  past =
      with_place_if (key_placed k.reach (outcome_of (node_of k.network n) deed))
      (with_first_answers (turn_of rules k.network n deed).answers k.past);
  reach = reach_after k.reach (outcome_of (node_of k.network n) deed);
  taken = k.taken + 1;
}

-- node n received the letter in front of its mail
abbrev pub HasReceived : {Op Reply : Type 0} → RecordedState Op Reply → ℕ → Letter (Command Op) → RecordedState Op Reply → Type 0
HasReceived {Op} k n l z =
    (network : NetworkState (Command Op)) × IsDelivered k.network n l network × (z ≡ record k { network = network; taken = k.taken + 1 })

-- the letter in front of node n's mail is lost
abbrev pub without_front_letter : {Op Reply : Type 0} → RecordedState Op Reply → ℕ → RecordedState Op Reply
without_front_letter k n = record k { network = without_front k.network n }

-- the letter comes once more, at the back of node n's mail
abbrev pub repeated : {Op Reply : Type 0} → RecordedState Op Reply → ℕ → Letter (Command Op) → RecordedState Op Reply
repeated k n l = record k { network = with_last k.network n l }

-- the deed is the node's own: nobody asks it for a command
abbrev pub IsOwnDeed : {Op : Type 0} → Deed Op → Type 0
IsOwnDeed (Request c) = ⊥
IsOwnDeed Wake = ⊤
IsOwnDeed Nudge = ⊤
IsOwnDeed Propose = ⊤
IsOwnDeed Perform = ⊤
IsOwnDeed Restart = ⊤
