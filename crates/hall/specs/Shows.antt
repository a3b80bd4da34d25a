-- What it is that recorded nodes show a world, and that they follow one of its events.
use Rattle.std.specs.Prelude.{◌≡◌, ℕ, true, map, length, Some, slice_get}
use Rattle.object.specs.declared.command.Command.{Command}
use Rattle.object.specs.Lists.{In}
use Rattle.object.specs.Answers.{answered_key}
use Rattle.object.specs.Happenings.{Happenings}
use Rattle.object.specs.Legal.{given_before}
use Rattle.object.specs.Objects.{Rules}
use Rattle.ballot.specs.Members.{is_member}
use Rattle.ballot.specs.declared.letter.Letter.{Letter}
use Rattle.node.specs.Receiving.{ShowsNode}
use Rattle.network.specs.Networks.{NetworkState, node_of, mail_of}
use Rattle.recorder.specs.Firsts.{firsts}
use Rattle.agreement.specs.Nodes.{Cluster, node}
use Rattle.agreement.specs.Reached.{HasPlaced}
use Rattle.agreement.specs.Runs.{IsWorld}
use Rattle.agreement.specs.Steps.{Step}
use Rattle.agreement.specs.Worlds.{World}
use Rattle.agreement.specs.declared.event.Event.{Event}
use Rattle.agreement.specs.declared.event.Event.TheVariants.{Deliver}
use Rattle.hall.specs.Recorded.{RecordedState}

-- what happened, with every answer but the first to each key left out
abbrev pub told_once : {Op Reply : Type 0} → Happenings Op Reply → Happenings Op Reply
told_once h = record {
  submitted = map (λ s. record { command = s.command; after = length (firsts answered_key (given_before s h.answers)) }) h.submitted;
  answers = firsts answered_key h.answers;
}

-- Each member has a node and a mail. Its node is that of the world, but that the acceptor may keep less, if that is
-- enough for a report; and each letter of its mail was sent to it in the world.
pub record ShowsCluster {C : Type 0} (k : NetworkState C) (w : Cluster C) : Type 0 where
  pub members : k.members ≡ w.members
  pub has_nodes : length k.nodes ≡ length k.members
  pub has_mails : length k.mails ≡ length k.members
  pub nodes : (n : ℕ) → is_member k.members n ≡ true → ShowsNode (node_of k n) (node w n)
  pub letters : (n : ℕ) (l : Letter C) → In l (mail_of k n) → In l w.letters × (l.to ≡ n)

-- The recorded nodes show the world: its nodes and letters, what happened with each key's first answer alone, how far it
-- was performed, and the keys of what took effect up to there.
pub record Shows {Op Reply : Type 0} (k : RecordedState Op Reply) (w : World Op Reply) : Type 0 where
  pub cluster : ShowsCluster k.network w.cluster
  pub happenings : k.past.happenings ≡ told_once w.happenings
  pub order : HasPlaced w k.past.order
  pub reach : k.reach ≡ w.reach
  pub taken : k.taken ≡ w.taken

-- events lead to a world that they show, which counts them, 2^48 at most
abbrev pub IsShown : {O Op Reply : Type 0} → Rules O Op Reply → RecordedState Op Reply → Type 0
IsShown {O} {Op} {Reply} rules k = (w : World Op Reply) × IsWorld rules w × Shows k w

-- of each world that events lead to and that the one state shows, the event makes a world that the other shows
abbrev pub Follows : {O Op Reply : Type 0} → Rules O Op Reply → RecordedState Op Reply → Event Op → RecordedState Op Reply → Type 0
Follows {O} {Op} {Reply} rules k e z =
    (w : World Op Reply) → IsWorld rules w → Shows k w → (v : World Op Reply) × Step rules w e v × Shows z v

-- the same, where the event is that this letter is delivered
abbrev pub FollowsDelivery : {O Op Reply : Type 0} → Rules O Op Reply → RecordedState Op Reply → Letter (Command Op) → RecordedState Op Reply → Type 0
FollowsDelivery {O} {Op} {Reply} rules k l z =
    (w : World Op Reply) → IsWorld rules w → Shows k w
    → (i : ℕ) × (v : World Op Reply) × (slice_get w.cluster.letters i ≡ Some l) × Step rules w (Deliver i) v × Shows z v

-- where there is no event, the other shows each world that the one shows
abbrev pub ShowsOn : {Op Reply : Type 0} → RecordedState Op Reply → RecordedState Op Reply → Type 0
ShowsOn {Op} {Reply} k z = (w : World Op Reply) → Shows k w → Shows z w
