-- What the opening worlds have, and each event keeps, is so of every world that events lead to.
use Rattle.std.proofs.Common.{ℕ, ◌≤◌, List, sym, subst, arith}
use Rattle.object.specs.declared.command.Command.{Command}
use Rattle.object.specs.Objects.{Rules}
use Rattle.ballot.specs.OrderLaws.{BallotLaws}
use Rattle.agreement.specs.declared.event.Event.{Event}
use Rattle.agreement.specs.Worlds.{World, opening}
use Rattle.agreement.specs.Steps.{Step}
use Rattle.agreement.specs.Runs.{most_events, Leads, at_once, after, IsWorld, InEvery}
use Rattle.agreement.proofs.chosen.Reach.{leads_sound, opening_sound}
use Rattle.agreement.proofs.every.Every.{counts}

module _ (laws : BallotLaws) {O Op Reply : Type 0} (rules : Rules O Op Reply) where
  on_the_way : (members : List ℕ) (es : List (Event Op)) (v : World Op Reply) → Leads rules (opening members) es v → v.taken ≤ most_events → IsWorld rules v
  on_the_way members es v l few = record {
    reachable = (
      es,
      subst (λ ms. Leads rules (opening ms) es v)
          (sym (leads_sound laws rules (opening members) v es (opening_sound (Command Op) members) l).grows.members) l,
    );
    few = few;
  }

  module _ (holds : World Op Reply → Type 0) (first : (members : List ℕ) → holds (opening members))
      (next : (w v : World Op Reply) (e : Event Op) → IsWorld rules w → Step rules w e v → holds w → holds v) where
    so_far : (members : List ℕ) (u : World Op Reply) (es : List (Event Op)) → Leads rules (opening members) es u → u.taken ≤ most_events → holds u
    so_far members u es at_once few = first members
    so_far members u es (after {es = before} {v = v} e u' l s) few =
        let count = counts laws rules v u e s in
        let fewer : v.taken ≤ most_events = omega arith in
        next v u e (on_the_way members before v l fewer) s (so_far members v before l fewer)

    pub in_every : InEvery rules holds
    in_every w i = so_far w.cluster.members w i.reachable.0 i.reachable.1 i.few
