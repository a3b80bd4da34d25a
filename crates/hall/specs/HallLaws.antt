-- The laws of the layers below, on which a hall rests.
use Rattle.std.specs.Prelude.{◌≡◌, ℕ, ◌<◌, ◌^◌, true, List, Some, slice_get}
use Rattle.object.specs.declared.command.Answer.{Answer}
use Rattle.object.specs.declared.command.Command.{Command}
use Rattle.object.specs.declared.command.Key.{Key}
use Rattle.object.specs.Answers.{answered_key}
use Rattle.object.specs.Happenings.{SubmittedOnce, IsTimeline, is_submitted}
use Rattle.object.specs.Keys.{KeysOnce}
use Rattle.object.specs.Legal.{IsLegal}
use Rattle.object.specs.Lists.{In}
use Rattle.object.specs.Objects.{Rules}
use Rattle.object.specs.Replays.{kept}
use Rattle.ballot.specs.Members.{is_member}
use Rattle.ballot.specs.declared.letter.LetterBody.{LetterBody}
use Rattle.ballot.specs.declared.letter.Letter.{Letter}
use Rattle.node.specs.Nodes.{NodeState}
use Rattle.node.specs.Deeds.{acted, outcome_of, IsAble}
use Rattle.node.specs.Receiving.{ShowsNode, IsFit}
use Rattle.node.specs.Turns.{IsSameTurn}
use Rattle.node.specs.declared.deed.Deed.{Deed}
use Rattle.recorder.specs.Firsts.{CutsBefore}
use Rattle.agreement.specs.Nodes.{node}
use Rattle.agreement.specs.Placing.{placed_after}
use Rattle.agreement.specs.Reached.{IsReached, HasPlaced}
use Rattle.agreement.specs.Runs.{most_events, IsWorld, InEvery, AfterEach}
use Rattle.agreement.specs.Showing.{HasNode, IsReceivable}
use Rattle.agreement.specs.Steps.{Step}
use Rattle.agreement.specs.Told.{TellsReached}
use Rattle.agreement.specs.Worlds.{World, opening}
use Rattle.agreement.specs.declared.event.Event.{Event}

-- what is so of every world; that a deed does the same to every node that a node shows; and that first answers come bit
-- by bit as they come at once
pub record HallLaws {O Op Reply : Type 0} (rules : Rules O Op Reply) : Type 0 where
  pub opening : (members : List ℕ) → IsWorld rules (opening members)
  pub next : AfterEach rules (λ w v. w.taken < most_events → IsWorld rules v)
  pub nodes : InEvery rules (λ w. (n : ℕ) → is_member w.cluster.members n ≡ true → HasNode n w.cluster)
  pub boots : InEvery rules (λ w. (n : ℕ) → w.taken < most_events → (node w.cluster n).boot < 2 ^ 62)
  pub letters : InEvery rules (λ w. (i : ℕ) (l : Letter (Command Op)) → slice_get w.cluster.letters i ≡ Some l → IsReceivable w.cluster l)
  pub once : InEvery rules (λ w. SubmittedOnce w.happenings.submitted)
  pub timeline : InEvery rules (λ w. IsTimeline w.happenings)
  pub placed : (w v : World Op Reply) (e : Event Op) (keys : List Key) → IsWorld rules w → Step rules w e v
      → HasPlaced w keys → HasPlaced v (placed_after w e keys)
  pub placed_once : InEvery rules (λ w. (keys : List Key) → HasPlaced w keys → KeysOnce (λ k. k) keys)
  pub legal_so_far : InEvery rules (λ w. (cs : List (Command Op)) → IsReached w cs → IsLegal rules w.happenings (kept cs))
  pub told : InEvery rules (TellsReached rules)
  pub answered_known : InEvery rules (λ w. (a : Answer Reply) → In a w.happenings.answers → is_submitted a.to w.happenings.submitted ≡ true)
  pub able : (kept x : NodeState (Command Op)) (d : Deed Op) → ShowsNode kept x → IsAble x d → IsAble kept d
  pub turn : (members : List ℕ) (n : ℕ) (kept x : NodeState (Command Op)) (d : Deed Op) → ShowsNode kept x
      → IsSameTurn (acted rules members n kept d) (acted rules members n x d)
  pub outcome : (kept x : NodeState (Command Op)) (d : Deed Op) → ShowsNode kept x → outcome_of kept d ≡ outcome_of x d
  pub fit : (kept x : NodeState (Command Op)) (body : LetterBody (Command Op)) → ShowsNode kept x → IsFit x body → IsFit kept body
  pub cut : (xs ys : List (Answer Reply)) → CutsBefore answered_key xs ys
