-- A whole round, by its contract.
use Rattle.std.proofs.Common.{◌≡◌, ℕ, ◌+◌, ◌*◌, ◌<◌, ◌≤◌, true, false, List, length, refl, sym, ap, ap₂, subst, inl, Some, arith}
use Rattle.object.specs.declared.command.Command.{Command}
use Rattle.object.specs.Objects.{Rules}
use Rattle.ballot.specs.Members.{IsMembers, is_member}
use Rattle.ballot.specs.OrderLaws.{BallotLaws}
use Rattle.ballot.specs.declared.letter.Letter.{Letter}
use Rattle.leader.specs.Leaders.{says_again}
use Rattle.scout_commander.specs.Scouts.{Scouting}
use Rattle.agreement.specs.Nodes.{node}
use Rattle.agreement.specs.Worlds.{World}
use Rattle.agreement.specs.Steps.{Step}
use Rattle.agreement.specs.Runs.{IsWorld, most_events}
use Rattle.agreement.specs.declared.event.Event.TheVariants as events
use Rattle.agreement.proofs.every.Every.{goes_on as world_goes_on}
use Rattle.node.specs.Deeds.{said_again}
use Rattle.world.specs.WaysOut.{first_leader, HasScout, questions, IsQuestion, HasAsked, IsOver}
use Rattle.world.proofs.leading.LeadingEvery.{has_leader}
use Rattle.world.proofs.rounds.Talking.{at_each}
use Rattle.world.proofs.rounds.Rivals.{no_more_rivals}
use Rattle.world.proofs.rounds.Asking.{IsRound, IsAsking}
use Rattle.world.proofs.rounds.RoundTrips.{nudged, nudged_is, leader_nudged, round_nudged, asking_begins, round_over}
use Rattle.world.proofs.rounds.RoundSteps.{manned_world, is_question, has_asked}
use Rattle.world.proofs.rounds.RoundMembers.{HasFirst, has_first}
use Rattle.world.proofs.rounds.Working.{over_from}

module _ (laws : BallotLaws) {O Op Reply : Type 0} {rules : Rules O Op Reply} {w n : World Op Reply} (i : IsWorld rules w)
    (members : IsMembers w.cluster.members) (posted : HasScout w.cluster) (room : w.taken + 1 + 2 * questions w.cluster ≤ most_events)
    (step : Step rules w (events.Nudge 1) n) where
  here : HasFirst w.cluster
  here = has_first laws i members

  now : n ≡ nudged w
  now = nudged_is rules w 1 n step

  world_now : IsWorld rules (nudged w)
  world_now = subst (IsWorld rules) now (world_goes_on laws rules w n (events.Nudge 1) i step (omega arith))

  same_leader : first_leader (nudged w).cluster ≡ first_leader w.cluster
  same_leader = leader_nudged laws w here.sound here.first

  still_posted : HasScout (nudged w).cluster
  still_posted = subst (λ l. l.active ≡ false → (s : Scouting (Command Op)) × (l.scout ≡ Some s)) (sym same_leader) posted

  pub round_begins : (start : ℕ) → IsAsking (nudged w) n start start
  round_begins start = subst (λ z. IsAsking (nudged w) z start start) (sym now) (asking_begins (nudged w) start still_posted)

  -- the letters before the round, and how many questions it has
  module _ {ls : List (Letter (Command Op))} (letters : ls ≡ w.cluster.letters) {m k : ℕ} (count : m ≡ length w.cluster.members)
      (waits : k ≡ length (says_again (first_leader w.cluster))) where
    round : IsRound (nudged w) (length ls) (length ls + m * k)
    round = subst (λ (a : List (Letter (Command Op))). IsRound (nudged w) (length a) (length a + m * k)) (sym letters)
        (subst (λ (q : ℕ). IsRound (nudged w) (length w.cluster.letters) (length w.cluster.letters + q)) (sym (ap₂ (λ (a b : ℕ). a * b) count waits))
        (round_nudged laws w here.sound here.first (manned_world laws rules w i here.first) (has_leader laws rules w i 1 here.first).asleep))

    module _ {v : World Op Reply} {p : ℕ} (asking : IsAsking (nudged w) v (length ls) p) where
      pub round_question : length ls ≤ p → p < length ls + m * k → IsQuestion v p
      round_question low high = is_question laws rules (nudged w) v (length ls) (length ls + m * k) p round low high asking

      there : is_member v.cluster.members 1 ≡ true
      there = subst (λ ms. is_member ms 1 ≡ true) (sym asking.talk.members) here.first

      pub round_asked : length ls ≤ p → p < length ls + m * k → IsWorld rules v → (u : World Op Reply) → HasAsked rules v p u
          → IsAsking (nudged w) u (length ls) (p + 1)
      round_asked low high world u asked =
          has_asked laws rules (nudged w) v (length ls) (length ls + m * k) p round low high asking world
          (manned_world laws rules v world there) (manned_world laws rules (nudged w) world_now here.first) members.few here.first u asked

      ends : p ≡ length ls + m * k → IsWorld rules v → IsOver (nudged w) v
      ends over world =
          round_over laws (nudged w) v (length ls) (length ls + m * k) round (subst (IsAsking (nudged w) v (length ls)) over asking)
          (manned_world laws rules v world there) (has_leader laws rules v world 1 there) (subst IsMembers (sym asking.talk.members) members)
          still_posted

      pub round_ends : p ≡ length ls + m * k → IsWorld rules v → IsOver w v
      round_ends over world = over_from w (nudged w) v (ap (λ l. l.ballot) same_leader) (ap (λ l. l.active) same_leader)
          (no_more_rivals laws w.cluster (nudged w).cluster refl (first_leader w.cluster).ballot
          (λ j. inl (at_each laws w here.sound 1 here.first (node w.cluster 1)
          (said_again w.cluster.members 1 (node w.cluster 1))
          (λ k x. x.acceptor.promised ≡ (node w.cluster k).acceptor.promised) refl (λ k apart. refl) j)))
          (ends over world)

      pub round_takes : p ≡ length ls + m * k → v.taken ≡ w.taken + 1 + 2 * questions w.cluster
      round_takes over =
          let a = asking.spent in
          let q : m * k ≡ questions w.cluster = ap₂ (λ (a b : ℕ). a * b) count waits in
          omega arith
