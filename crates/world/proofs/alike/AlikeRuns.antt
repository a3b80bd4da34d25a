-- Two runs of the same events lead to worlds that are alike.
use Rattle.std.proofs.Common.{◌≡◌, List, [], ◌∷◌, ◌++◌, refl, sym, subst}
use Rattle.std.proofs.lemmas.List.{same_from_push}
use Rattle.object.specs.Objects.{Rules}
use Rattle.ballot.specs.OrderLaws.{BallotLaws}
use Rattle.agreement.specs.declared.event.Event.{Event}
use Rattle.agreement.specs.Worlds.{World}
use Rattle.agreement.specs.Steps.{Step}
use Rattle.agreement.specs.Runs.{Leads, at_once, after, IsWorld}
use Rattle.world.specs.Alike.{IsAlikeNode, IsAlikeLetter, IsAlike, same_letter}
use Rattle.agreement.proofs.chosen.Invariants.{IsSound}
use Rattle.agreement.proofs.chosen.Turns.{Kept}
use Rattle.agreement.proofs.chosen.Reach.{reachable_sound, leads_sound}
use Rattle.world.proofs.alike.AlikePairs.{InPairs-itself}
use Rattle.world.proofs.alike.AlikeNodes.{node_itself}
use Rattle.world.proofs.alike.AlikeSteps.{event_alike}

-- a world that is alike this one is this one with other nodes and letters
abbrev pub with_its : {Op Reply : Type 0} → World Op Reply → World Op Reply → World Op Reply
with_its w v = record w { cluster = record w.cluster { nodes = v.cluster.nodes; letters = v.cluster.letters } }

is_with_its : {Op Reply : Type 0} (w v : World Op Reply) → IsAlike w v → with_its w v ≡ v
is_with_its w v a = λ j. record {
  cluster = record { members = a.members j; nodes = v.cluster.nodes; letters = v.cluster.letters };
  happenings = a.happenings j;
  reach = a.reach j;
  taken = a.taken j;
}

module _ (laws : BallotLaws) {O Op Reply : Type 0} (rules : Rules O Op Reply) where
  world_itself : (w : World Op Reply) → IsAlike w w
  world_itself w = record {
    members = refl;
    nodes = InPairs-itself IsAlikeNode (node_itself laws) w.cluster.nodes;
    letters = InPairs-itself IsAlikeLetter same_letter w.cluster.letters;
    happenings = refl;
    reach = refl;
    taken = refl;
  }

  sound_alike : (w v : World Op Reply) (e : Event Op) (x y : World Op Reply) → IsSound w.cluster → IsSound v.cluster
      → IsAlike w v → Step rules w e x → Step rules v e y → IsAlike x y
  sound_alike w v e x y i j a s t =
      event_alike laws rules w v.cluster.nodes v.cluster.letters a.nodes a.letters i
      (subst (λ (u : World Op Reply). IsSound u.cluster) (sym (is_with_its w v a)) j)
      e x y s
      (subst (λ (u : World Op Reply). Step rules u e y) (sym (is_with_its w v a)) t)

  -- an event does not lead nowhere
  some_events : {P : Type 0} (es : List (Event Op)) (e : Event Op) → [] ≡ es ++ (e ∷ []) → P
  some_events [] e same = absurd (cc)
  some_events (d ∷ es) e same = absurd (cc)

  leads_alike : (w : World Op Reply) → IsSound w.cluster → (es ds : List (Event Op)) → es ≡ ds → (v u : World Op Reply)
      → Leads rules w es v → Leads rules w ds u → IsAlike v u
  leads_alike w i es ds same v u at_once at_once = world_itself w
  leads_alike w i es ds same v u at_once (after {es = before} {v = y} e u' m t) = some_events before e same
  leads_alike w i es ds same v u (after {es = before} {v = x} e v' l s) at_once = some_events before e (sym same)
  leads_alike w i es ds same v u (after {es = before} {v = x} e v' l s) (after {es = before'} {v = y} d u' m t) =
      let parts = same_from_push before before' e d same in
      let now : Kept w.cluster x.cluster = leads_sound laws rules w x before i l in
      let then : Kept w.cluster y.cluster = leads_sound laws rules w y before' i m in
      sound_alike x y e v u now.sound then.sound
      (leads_alike w i before before' parts.0 x y l m)
      s
      (subst (λ c. Step rules y c u) (sym parts.1) t)

  -- and so are those to which the same events lead
  pub alike_runs : (w v u : World Op Reply) (es : List (Event Op)) → IsWorld rules w → Leads rules w es v → Leads rules w es u → IsAlike v u
  alike_runs w v u es i l m = leads_alike w (reachable_sound laws rules w i.reachable) es es refl v u l m
