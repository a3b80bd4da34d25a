-- One question of a round after another.
use Rattle.std.proofs.Common.{◌≡◌, ℕ, ◌+◌, ◌<◌, ◌≤◌, true, length, Some, sym, ◌∙◌, subst}
use Rattle.std.specs.Prelude.{slice_get}
use Rattle.object.specs.declared.command.Command.{Command}
use Rattle.object.specs.Objects.{Rules}
use Rattle.ballot.specs.Letters.{letter}
use Rattle.ballot.specs.Members.{is_member}
use Rattle.ballot.specs.OrderLaws.{BallotLaws}
use Rattle.ballot.specs.declared.letter.LetterBody.{LetterBody}
use Rattle.ballot.specs.declared.letter.LetterBody.TheVariants.{P1a, P2a}
use Rattle.agreement.specs.Worlds.{World}
use Rattle.agreement.specs.Runs.{IsWorld}
use Rattle.agreement.proofs.chosen.Reach.{reachable_sound}
use Rattle.agreement.proofs.chosen.Invariants.{IsSound}
use Rattle.world.specs.Leading.{HasLeader}
use Rattle.world.specs.WaysOut.{first_leader, AsksAt, IsQuestion, promise, vote, HasAsked}
use Rattle.world.proofs.leading.LeadingEvery.{has_leader}
use Rattle.world.proofs.rounds.Talking.{still_at, asks_promise, asks_vote}
use Rattle.world.proofs.rounds.Asking.{IsAsk, promise as of_promise, vote as of_vote, IsRound, IsManned, IsAsking, promise_asked, vote_asked}

-- what stands of a leader's parts in every world
pub manned : {Op Reply : Type 0} (w : World Op Reply) → IsSound w.cluster → HasLeader w.cluster 1 → IsManned w
manned w i led = record {
  scout = λ s is. let h = (i.nodes 1).leader.scouting s is in (h.own.members ∙ (i.nodes 1).leader.members, h.own.ballot, h.asleep, (led.scout s is).full);
  commander = λ s c is. let h = (i.nodes 1).leader.commanding s c is
      in (h.own.members ∙ (i.nodes 1).leader.members, h.own.ballot, h.own.slot, (led.commander s c is).full);
}

module _ (laws : BallotLaws) {O Op Reply : Type 0} (rules : Rules O Op Reply) where
  pub manned_world : (w : World Op Reply) → IsWorld rules w → is_member w.cluster.members 1 ≡ true → IsManned w
  manned_world w i first = manned w (reachable_sound laws rules w i.reachable) (has_leader laws rules w i 1 first)

  module _ (old w : World Op Reply) (start stop p : ℕ) (round : IsRound old start stop) (low : start ≤ p)
      (high : p < stop) (asking : IsAsking old w start p) where
    still : (body : LetterBody (Command Op)) (m : ℕ) → AsksAt old p body m → AsksAt w p body m
    still body m at = subst (λ ls. slice_get ls p ≡ Some (letter 1 body m)) (sym asking.talk.letters.1)
        (still_at old.cluster.letters asking.talk.letters.0 p (letter 1 body m) at)

    now : (m : ℕ) → is_member old.cluster.members m ≡ true → is_member w.cluster.members m ≡ true
    now m member = subst (λ ms. is_member ms m ≡ true) (sym asking.talk.members) member

    question_of : IsAsk old p → IsQuestion w p
    question_of (of_promise m member asleep at) =
        promise (first_leader old.cluster).ballot m (now m member) (still (P1a (first_leader old.cluster).ballot) m at)
    question_of (of_vote m s c member active stands at) = vote c.pvalue m (now m member) (still (P2a c.pvalue) m at)

    pub is_question : IsQuestion w p
    is_question = question_of (round.each p low high)

    asked_of : IsWorld rules w → IsManned w → IsManned old → length old.cluster.members ≤ 7
        → is_member old.cluster.members 1 ≡ true → (v : World Op Reply) → HasAsked rules w p v → IsAsk old p
        → IsAsking old v start (p + 1)
    asked_of i here was few first v h (of_promise m member asleep at) =
        promise_asked laws old w v start p low few asking here was m member asleep at
        (asks_promise laws rules w h.between v (reachable_sound laws rules w i.reachable) (now 1 first) m (now m member)
        (first_leader old.cluster).ballot p (still (P1a (first_leader old.cluster).ballot) m at) h.asks h.answers)
    asked_of i here was few first v h (of_vote m s c member active stands at) =
        vote_asked laws old w v start p low few asking here was m s c member active stands at
        (asks_vote laws rules w h.between v (reachable_sound laws rules w i.reachable) (now 1 first) m
        (now m member) c.pvalue p (still (P2a c.pvalue) m at) h.asks h.answers)

    pub has_asked : IsWorld rules w → IsManned w → IsManned old → length old.cluster.members ≤ 7
        → is_member old.cluster.members 1 ≡ true → (v : World Op Reply) → HasAsked rules w p v
        → IsAsking old v start (p + 1)
    has_asked i here was few first v h = asked_of i here was few first v h (round.each p low high)
