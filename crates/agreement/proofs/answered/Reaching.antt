-- The commands up to the reach, from event to event.
use Rattle.std.proofs.Common.{◌≡◌, ℕ, ◌+◌, ◌<◌, ◌≤◌, true, false, nat_lt, [], ◌∷◌, ◌++◌, List, length-append, sym, ◌∙◌, subst, arith}
use Rattle.std.proofs.lemmas.Bool.Decides.{nat_tests}
use Rattle.object.specs.declared.command.Command.{Command}
use Rattle.agreement.specs.Chosen.{IsChosen}
use Rattle.agreement.specs.Worlds.{World}
use Rattle.agreement.specs.Reached.{IsReached}
use Rattle.agreement.proofs.chosen.Grows.{Grows}
use Rattle.agreement.proofs.answered.Performed.{run_stays, run_push}

module _ {Op Reply : Type 0} (v u : World Op Reply) (grows : Grows v.cluster u.cluster) (cs : List (Command Op)) (reached : IsReached v cs) where
  -- where the reach stays, so do the commands up to it
  pub reached_stays : u.reach ≡ v.reach → IsReached u cs
  reached_stays same = record { chosen = run_stays v.cluster u.cluster grows 1 cs reached.chosen; count = reached.count ∙ sym same }

  -- and where it grows by one slot, its command is one more
  pub reached_more : (c : Command Op) → IsChosen v.cluster u.reach c → u.reach ≡ v.reach + 1 → IsReached u (cs ++ (c ∷ []))
  reached_more c chosen more =
      let count = reached.count in
      record {
        chosen = run_stays v.cluster u.cluster grows 1 (cs ++ (c ∷ []))
            (run_push v.cluster 1 cs c reached.chosen (subst (λ s. IsChosen v.cluster s c) (omega arith) chosen));
        count = let f = length-append cs (c ∷ []) in omega arith;
      }

pub past_when : (reach slot : ℕ) → nat_lt reach slot ≡ true → reach < slot
past_when reach slot e = grind (arith, nat_tests)

pub within_when : (reach slot : ℕ) → nat_lt reach slot ≡ false → slot ≤ reach
within_when reach slot e = grind (arith, nat_tests)
