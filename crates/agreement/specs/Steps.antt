-- One event of the world, made of the functions that the parts' contracts name. Each case of `Step` but
-- `deliver` is one row of the node table in docs/NODES.md, and so is each case of a node's `Receives`, which `deliver` is.
use Rattle.std.specs.Prelude.{◌≡◌, ℕ, ◌+◌, max, ⊤, true, List, [], Option, None, Some, slice_get}
use Rattle.object.specs.Lists.{In}
use Rattle.object.specs.declared.command.Command.{Command}
use Rattle.object.specs.declared.command.Submission.{Submission}
use Rattle.object.specs.Keys.{same_key}
use Rattle.object.specs.Happenings.{with_submission, with_answers}
use Rattle.object.specs.Objects.{Rules, is_one}
use Rattle.object.specs.Obeying.{answers_after}
use Rattle.ballot.specs.Members.{is_member}
use Rattle.ballot.specs.Letters.{all_to_all}
use Rattle.ballot.specs.declared.letter.Letter.{Letter}
use Rattle.leader.specs.Leaders.{Leading, Done, woken}
use Rattle.slot_log.specs.Books.{SlotBook}
use Rattle.slot_log.specs.Requests.{requested}
use Rattle.slot_log.specs.Proposals.{next_proposal, proposed_next}
use Rattle.slot_log.specs.Decisions.{next_decided}
use Rattle.slot_log.specs.Advances.{advanced}
use Rattle.replica.specs.Replicas.{proposes_first}
use Rattle.slot_log.specs.Histories.{history}
use Rattle.node.specs.Nodes.{NodeState, restarted}
use Rattle.node.specs.Deeds.{led, said_again}
use Rattle.node.specs.Receiving.{Receives}
use Rattle.node.specs.declared.deed.Deed.{Deed}
use Rattle.node.specs.declared.deed.Deed.TheVariants as deeds
use Rattle.agreement.specs.Nodes.{Cluster, node, turned}
use Rattle.agreement.specs.Worlds.{World}
use Rattle.agreement.specs.declared.event.Event.{Event}
use Rattle.agreement.specs.declared.event.Event.TheVariants.{Submit, Deliver, Wake, Nudge, Propose as ProposeNext, Perform, Restart}

-- node n's leader has done this, and tells all
abbrev pub leader_turn : {C : Type 0} → Cluster C → ℕ → Done (Leading C) C → Cluster C
leader_turn k n d = turned k n (led (node k n) d) (all_to_all k.members n d.says)

-- node n's replica has become this, and sends letters
abbrev pub replica_turn : {C : Type 0} → Cluster C → ℕ → SlotBook C → List (Letter C) → Cluster C
replica_turn k n book out = turned k n (record (node k n) { replica = book }) out

-- a key that was submitted before comes with its own command
abbrev pub IsItsOwn : {Op : Type 0} → Command Op → List (Submission Op) → Type 0
IsItsOwn {Op} c submitted = (s : Submission Op) → In s submitted → same_key s.command.key c.key ≡ true → s.command ≡ c

-- and so does one that is asked for now
abbrev pub AsksForItsOwn : {Op : Type 0} → Deed Op → List (Submission Op) → Type 0
AsksForItsOwn (deeds.Request c) submitted = IsItsOwn c submitted
AsksForItsOwn deeds.Wake submitted = ⊤
AsksForItsOwn deeds.Nudge submitted = ⊤
AsksForItsOwn deeds.Propose submitted = ⊤
AsksForItsOwn deeds.Perform submitted = ⊤
AsksForItsOwn deeds.Restart submitted = ⊤

-- replica n performs the command that is decided at its slot_out; where none is known, nothing
abbrev pub after_performing : {O Op Reply : Type 0} → Rules O Op Reply → World Op Reply → ℕ → SlotBook (Command Op) → Option (Command Op) → World Op Reply
after_performing rules w n book None = w
after_performing rules w n book (Some c) = record w {
  cluster = replica_turn w.cluster n (advanced (is_one rules) book) [];
  happenings = with_answers (answers_after rules (history book) c) w.happenings;
  reach = max w.reach book.slot_out;
}

-- one event more
abbrev pub counted : {Op Reply : Type 0} → World Op Reply → World Op Reply
counted w = record w { taken = w.taken + 1 }

abbrev pub with_cluster : {Op Reply : Type 0} → World Op Reply → Cluster (Command Op) → World Op Reply
with_cluster w k = record w { cluster = k }

-- one event
pub data Step {O Op Reply : Type 0} (rules : Rules O Op Reply) (w : World Op Reply) : Event Op → World Op Reply → Type 0 where
  submit :
      (n : ℕ) (c : Command Op)
      → is_member w.cluster.members n ≡ true
      → IsItsOwn c w.happenings.submitted
      → Step rules w (Submit n c) (counted (record w {
        cluster = replica_turn w.cluster n (requested (is_one rules) (node w.cluster n).replica c) [];
        happenings = with_submission c w.happenings;
      }))
  deliver :
      (i : ℕ) (l : Letter (Command Op)) (x : NodeState (Command Op)) (out : List (Letter (Command Op)))
      → slice_get w.cluster.letters i ≡ Some l
      → Receives w.cluster.members l.«from» l.to (node w.cluster l.to) l.body x out
      → Step rules w (Deliver i) (counted (with_cluster w (turned w.cluster l.to x out)))
  wake :
      (n : ℕ)
      → is_member w.cluster.members n ≡ true
      → Step rules w (Wake n) (counted (with_cluster w (leader_turn w.cluster n (woken (node w.cluster n).leader))))
  nudge :
      (n : ℕ)
      → is_member w.cluster.members n ≡ true
      → Step rules w (Nudge n) (counted (with_cluster w (turned w.cluster n (node w.cluster n) (said_again w.cluster.members n (node w.cluster n)))))
  propose :
      (n : ℕ)
      → is_member w.cluster.members n ≡ true
      → Step rules w (ProposeNext n)
      (counted (with_cluster w (replica_turn w.cluster n (proposed_next (node w.cluster n).replica)
      (all_to_all w.cluster.members n (proposes_first (next_proposal (node w.cluster n).replica))))))
  perform :
      (n : ℕ)
      → is_member w.cluster.members n ≡ true
      → Step rules w (Perform n) (counted (after_performing rules w n (node w.cluster n).replica (next_decided (node w.cluster n).replica)))
  restart :
      (n : ℕ)
      → is_member w.cluster.members n ≡ true
      → Step rules w (Restart n) (counted (with_cluster w (turned w.cluster n (restarted w.cluster.members n (node w.cluster n)) [])))
