-- The first key of a session that is as late as another, sought in the slots one after another.
use Rattle.std.proofs.Common.{◌≡◌, ℕ, ◌+◌, false, true, cond, List, [], ◌∷◌, ◌++◌, map, length, Some, None, sym, ap, ◌∙◌, subst, arith}
use Rattle.std.proofs.lemmas.List.{map-append, length-append}
use Rattle.object.specs.declared.command.Command.{Command}
use Rattle.object.specs.declared.command.Key.{Key}
use Rattle.ballot.specs.OrderLaws.{BallotLaws}
use Rattle.agreement.specs.Chosen.{IsChosen, IsChosenFrom}
use Rattle.world.specs.Kept.{IsFirstAsLate}
use Rattle.agreement.specs.Nodes.{Cluster}
use Rattle.agreement.specs.Reached.{IsRun}
use Rattle.world.specs.Placed.{first_as_late}
use Rattle.agreement.proofs.order.Deciding.{chosen_from}
use Rattle.agreement.proofs.chosen.Invariants.{IsSound}
use Rattle.agreement.proofs.answered.Performed.{run_push}
use Rattle.world.proofs.standing.Placed.{is_as_late, late_behind}
use Rattle.world.proofs.standing.Standing.{run_on}
use Rattle.world.proofs.standing.Voters.{run_ended}

module _ {Op : Type 0} (k : Cluster (Command Op)) (first : ℕ) (key : Key) where
  -- in the slots from the first one to this one, which is left out, commands are chosen, and the key of none is as late
  abbrev pub IsSought : ℕ → Type 0
  IsSought slot = (cs : List (Command Op)) × IsRun k first cs × (first + length cs ≡ slot) × (first_as_late key (map (λ c. c.key) cs) ≡ None)

  -- of these and more behind them the first is one of those behind
  behind : (cs ds : List (Command Op)) → first_as_late key (map (λ c. c.key) cs) ≡ None
      → first_as_late key (map (λ c. c.key) (cs ++ ds)) ≡ first_as_late key (map (λ c. c.key) ds)
  behind cs ds none = ap (first_as_late key) (map-append (λ (c : Command Op). c.key) cs ds) ∙ late_behind key (map (λ c. c.key) cs) (map (λ c. c.key) ds) none

  pub sought_on : (slot : ℕ) (c : Command Op) → IsSought slot → IsChosen k slot c → is_as_late c.key key ≡ false → IsSought (slot + 1)
  sought_on slot c (cs, run, count, none) chosen early = (
    cs ++ (c ∷ []),
    run_push k first cs c run (subst (λ t. IsChosen k t c) (sym count) chosen),
    (let longer = length-append cs (c ∷ []) in omega arith),
    behind cs (c ∷ []) none ∙ ap (λ b. cond b (Some c.key) None) early,
  )

  pub sought_all : (slot : ℕ) → IsSought slot → ((c : Command Op) → IsChosen k slot c → ⊥) → IsFirstAsLate k first key None
  sought_all slot (cs, run, count, none) ended =
      (cs, run_ended k first cs run (λ c chosen. ended c (subst (λ t. IsChosen k t c) count chosen)), sym none)

  pub sought_found : BallotLaws → IsSound k → (slot : ℕ) (c : Command Op) → IsSought slot → IsChosen k slot c
      → is_as_late c.key key ≡ true → IsFirstAsLate k first key (Some c.key)
  sought_found laws sound slot c (cs, run, count, none) chosen late =
      let ahead = chosen_from laws k sound (slot + 1) in
      let from : IsChosenFrom k (first + length cs) (c ∷ ahead.0) = subst (λ t. IsChosenFrom k t (c ∷ ahead.0)) (sym count) (chosen, ahead.1) in (
        cs ++ (c ∷ ahead.0),
        run_on k first cs (c ∷ ahead.0) run from,
        sym (behind cs (c ∷ ahead.0) none ∙ ap (λ b. cond b (Some c.key) (first_as_late key (map (λ d. d.key) ahead.0))) late),
      )
