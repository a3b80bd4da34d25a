-- Whether a key stands in the order is told by the keys that were performed and those that are chosen after the reach.
use Rattle.std.proofs.Common.{◌≡◌, ℕ, ◌+◌, Bool, true, List, [], ◌∷◌, ◌++◌, map, length, refl, sym, ap, ◌∙◌, subst, arith}
use Rattle.std.specs.Prelude.{◌↔◌}
use Rattle.std.proofs.lemmas.List.{map-append}
use Rattle.object.specs.Replays.{kept}
use Rattle.object.specs.declared.command.Command.{Command}
use Rattle.object.specs.declared.command.Key.{Key}
use Rattle.ballot.specs.OrderLaws.{BallotLaws}
use Rattle.agreement.specs.Chosen.{IsChosenFrom}
use Rattle.world.specs.Kept.{HasNoted}
use Rattle.agreement.specs.Nodes.{Cluster}
use Rattle.agreement.specs.Reached.{IsRun, HasKey}
use Rattle.world.specs.Placed.{first_as_late}
use Rattle.world.specs.Rescues.{IsInOrder}
use Rattle.agreement.specs.Worlds.{World}
use Rattle.agreement.proofs.chosen.Growing.{one_list}
use Rattle.agreement.proofs.chosen.Invariants.{IsSound}
use Rattle.world.proofs.standing.Placed.{told, finds, finds_first, found_kept, kept_found}

-- a run, and all that is chosen behind it
pub run_on : {C : Type 0} (k : Cluster C) (s : ℕ) (cs ds : List C) → IsRun k s cs → IsChosenFrom k (s + length cs) ds → IsChosenFrom k s (cs ++ ds)
run_on k s [] ds run behind = subst (λ t. IsChosenFrom k t ds) (omega arith) behind
run_on k s (c ∷ cs) ds run behind = (run.0, run_on k (s + 1) cs ds run.1 (subst (λ t. IsChosenFrom k t ds) (omega arith) behind))

pub stands_when : (laws : BallotLaws) {Op Reply : Type 0} (w : World Op Reply) → IsSound w.cluster → (key : Key) (keys : List Key) → HasNoted w keys
    → (ahead : List (Command Op)) → IsChosenFrom w.cluster (w.reach + 1) ahead → (result : Bool)
    → result ≡ told key (first_as_late key (keys ++ map (λ c. c.key) ahead))
    → (result ≡ true) ↔ IsInOrder w.cluster key
stands_when laws {Op} w sound key keys noted ahead chosen result same = (
  λ e. (kept all, (all, from, refl), found_kept key [] all (λ d i. absurd i) (sym tells ∙ e)),
  λ h. tells ∙ kept_found key [] all
      (subst (λ cs. HasKeyIn cs) (one_list laws w.cluster sound 1 h.1.0 all h.1.1 from)
      (subst (λ order. HasKey key order) h.1.2 h.2)),
)
  where
    all : List (Command Op)
    all = noted.0 ++ ahead

    from : IsChosenFrom w.cluster 1 all
    from = run_on w.cluster 1 noted.0 ahead noted.1.chosen
        (subst (λ s. IsChosenFrom w.cluster s ahead) (ap (λ n. n + 1) (sym noted.1.count) ∙ omega arith) chosen)

    HasKeyIn : List (Command Op) → Type 0
    HasKeyIn cs = HasKey key (kept cs)

    tells : result ≡ finds key (map (λ (c : Command Op). c.key) all)
    tells = same ∙ sym (finds_first key (keys ++ map (λ c. c.key) ahead)) ∙ ap (finds key)
        (ap (λ ks. ks ++ map (λ c. c.key) ahead) noted.2 ∙ sym (map-append (λ (c : Command Op). c.key) noted.0 ahead))
