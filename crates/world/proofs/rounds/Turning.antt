-- What a turn of the leader costs: it wakes, and asks for whatever it waits for.
use Rattle.std.proofs.Common.{◌≡◌, ℕ, ◌+◌, ◌*◌, ◌<◌, ◌≤◌, Bool, true, false, List, [], ◌∷◌, length, refl, sym, ap, ◌∙◌, arith}
use Rattle.std.specs.List.{list_all}
use Rattle.std.proofs.lemmas.Bool.{and_parts}
use Rattle.std.proofs.lemmas.List.Folds.{list_all-append}
use Rattle.std.specs.FinMap.{len, len-empty, empty_of_len}
use Rattle.std.specs.Ordering.{nat_cmp}
use Rattle.object.specs.declared.command.Command.{Command}
use Rattle.object.specs.Objects.{Rules}
use Rattle.ballot.specs.Members.{IsMembers, is_member}
use Rattle.ballot.specs.OrderLaws.{BallotLaws}
use Rattle.scout_commander.specs.Commanders.{Commanding}
use Rattle.leader.specs.Leaders.{says_again}
use Rattle.agreement.specs.Worlds.{World}
use Rattle.agreement.specs.Steps.{Step}
use Rattle.agreement.specs.Runs.{Leads, at_once, after, IsWorld}
use Rattle.agreement.specs.declared.event.Event.{Event}
use Rattle.agreement.specs.declared.event.Event.TheVariants as events
use Rattle.agreement.specs.declared.event.Event.TheVariants.{Submit, Deliver, Wake, Nudge, Propose as ProposeNext, Perform, Restart}
use Rattle.agreement.proofs.chosen.Invariants.{IsSound}
use Rattle.agreement.proofs.chosen.Reach.{reachable_sound, step_sound}
use Rattle.agreement.specs.Mentions.{Mentions, is_calm}
use Rattle.world.specs.WaysOut.{first_leader, IsAtRest, IsOver, IsSmall, Goes, is_talk, questions, work, most_slots}
use Rattle.world.proofs.leading.LeadingEvery.{has_leader}
use Rattle.agreement.proofs.books.MentionsEvery.{mentions_calm}
use Rattle.world.proofs.ways.MentionsFew.{few_proposals}
use Rattle.world.proofs.rounds.Rivals.{work_when}
use Rattle.world.proofs.rounds.RoundMembers.{first_member}
use Rattle.world.proofs.rounds.Working.{waits_asleep, waits_awake, some_left, over_from, round_spent, same_ballot}
use Rattle.world.proofs.rounds.Working.{same_active, same_commanders, has_scout, same_rivals, wake_counts, leader_woken}
use Rattle.world.proofs.rounds.Working.{woken_alone}

pub at_most_seven : (n w : ℕ) → n ≤ 7 → n * w ≤ 7 * w
at_most_seven n w h = grind (arith)

talk_calm : {Op : Type 0} (e : Event Op) → is_talk e ≡ true → is_calm e ≡ true
talk_calm (Submit n c) h = refl
talk_calm (Deliver i) h = refl
talk_calm (Wake n) h = refl
talk_calm (Nudge n) h = refl
talk_calm (ProposeNext n) h = absurd (cc)
talk_calm (Perform n) h = refl
talk_calm (Restart n) h = refl

module _ (laws : BallotLaws) {O Op Reply : Type 0} (rules : Rules O Op Reply) where
  -- talk mentions nothing new
  module _ (P : ℕ → Command Op → Type 0) (w : World Op Reply) (i : IsSound w.cluster) where
    talked : (es : List (Event Op)) (v : World Op Reply) → Leads rules w es v → list_all is_talk es ≡ true
        → Mentions P w.cluster → IsSound v.cluster × Mentions P v.cluster
    talked _ _ at_once h m = (i, m)
    talked _ v (after {es = es} {v = u} e _ led step) h m =
        let both = and_parts (list_all is_talk es) (list_all is_talk (e ∷ [])) (sym (list_all-append is_talk es (e ∷ [])) ∙ h) in
        let before = talked es u led both.0 m in
        let talk = (and_parts (is_talk e) true both.1).0 in
        ((step_sound laws rules u e v before.0 step).sound, mentions_calm laws rules P u v e before.0 step (talk_calm e talk) before.1)

    pub talk_mentions : (v : World Op Reply) (before now : List (Event Op)) → Goes rules is_talk w before v now → Mentions P w.cluster → Mentions P v.cluster
    talk_mentions v before now g m = (talked g.events v g.led g.each m).1

  -- where the leader isn't at rest, there is work
  pub some_work : (w : World Op Reply) → (IsAtRest w.cluster → ⊥) → 0 < work w.cluster
  some_work w left = at (first_leader w.cluster).active refl
    where
      at : (active : Bool) → (first_leader w.cluster).active ≡ active → 0 < work w.cluster
      at true e =
          let b = work_when w.cluster true e in
          let some = some_left w.cluster left e in
          omega arith
      at false e =
          let b = work_when w.cluster false e in
          omega arith

  -- an active leader that waits for nothing is at rest, and no other
  pub at_rest_when : (w : World Op Reply) → IsWorld rules w → is_member w.cluster.members 1 ≡ true
      → (first_leader w.cluster).active ≡ true → length (says_again (first_leader w.cluster)) ≡ 0 → IsAtRest w.cluster
  at_rest_when w i first active none = record {
    active = active;
    done = empty_of_len (first_leader w.cluster).commanders
        (sym (waits_awake (first_leader w.cluster) ((has_leader laws rules w i 1 first).active active).alone) ∙ none);
  }

  pub waits_for_nothing : (w : World Op Reply) → IsWorld rules w → is_member w.cluster.members 1 ≡ true
      → IsAtRest w.cluster → length (says_again (first_leader w.cluster)) ≡ 0
  waits_for_nothing w i first at_rest =
      waits_awake (first_leader w.cluster)
      ((has_leader laws rules w i 1 first).active at_rest.active).alone ∙ ap len at_rest.done ∙ len-empty nat_cmp
      (Commanding (Command Op))

  module _ (w u : World Op Reply) (i : IsWorld rules w) (members : IsMembers w.cluster.members)
      (left : IsAtRest w.cluster → ⊥) (step : Step rules w (events.Wake 1) u) where
    first : is_member w.cluster.members 1 ≡ true
    first = first_member w.cluster.members members

    sound : IsSound w.cluster
    sound = reachable_sound laws rules w i.reachable

    awake : (first_leader w.cluster).active ≡ true
        → (length (says_again (first_leader u.cluster)) ≡ len (first_leader w.cluster).commanders)
        × (0 < length (says_again (first_leader u.cluster)))
    awake active =
        let led = (has_leader laws rules w i 1 first).active active in
        let alone = ap (λ l. l.scout) (leader_woken laws rules w u sound first step) ∙ woken_alone (first_leader w.cluster) active led.alone in
        let e = waits_awake (first_leader u.cluster) alone ∙ ap len (same_commanders laws rules w u sound first step) in
        let some = some_left w.cluster left active in
        (e, omega arith)

    asleep : (first_leader w.cluster).active ≡ false → length (says_again (first_leader u.cluster)) ≡ 1
    asleep off =
        let s = has_scout laws rules w u sound first step (same_active laws rules w u sound first step ∙ off) in
        waits_asleep (first_leader u.cluster) s.0 s.1 (same_commanders laws rules w u sound first step ∙ (has_leader laws rules w i 1 first).asleep off)

    few_questions : length u.cluster.members ≡ length w.cluster.members → questions u.cluster ≤ 7 * length (says_again (first_leader u.cluster))
    few_questions same = let few = members.few in at_most_seven (length u.cluster.members) (length (says_again (first_leader u.cluster))) (omega arith)

    costs_by : (active : Bool) → (first_leader w.cluster).active ≡ active
        → questions u.cluster ≤ 7 * length (says_again (first_leader u.cluster))
        → 2 + 2 * questions u.cluster ≤ work w.cluster
    costs_by true e few =
        let a = awake e in
        let b = work_when w.cluster true e in
        let n = a.0 in let some = a.1 in
        omega arith
    costs_by false e few =
        let n = asleep e in
        let b = work_when w.cluster false e in
        omega arith

    pub turn_costs : length u.cluster.members ≡ length w.cluster.members → 2 + 2 * questions u.cluster ≤ work w.cluster
    turn_costs same = costs_by (first_leader w.cluster).active refl (few_questions same)

    pub turn_spent : (v : World Op Reply) → length u.cluster.members ≡ length w.cluster.members
        → v.taken ≡ u.taken + 1 + 2 * questions u.cluster → IsOver u v → IsSmall v.cluster
        → v.taken + work v.cluster ≤ w.taken + work w.cluster
    turn_spent v same taken over small =
        let few = few_questions same in
        let count = wake_counts laws rules w u sound first step in
        round_spent w v (length (says_again (first_leader u.cluster))) (omega arith)
        (few_proposals (first_leader v.cluster).commanders most_slots (λ s c is. ((small.nodes 1).leader).commanders s c is))
        awake asleep
        (over_from w u v (same_ballot laws rules w u sound first step) (same_active laws rules w u sound first step)
        (same_rivals laws rules w u sound first step (first_leader w.cluster).ballot) over)
