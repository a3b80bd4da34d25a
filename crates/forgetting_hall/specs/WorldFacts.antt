-- What is so of every world, as far as a hall that forgets rests on it.
use Rattle.std.specs.Prelude.{◌≡◌, ℕ, ◌+◌, true, List}
use Rattle.object.specs.Happenings.{SubmittedOnce, is_submitted}
use Rattle.object.specs.Lists.{In}
use Rattle.object.specs.Objects.{Rules}
use Rattle.object.specs.declared.command.Answer.{Answer}
use Rattle.object.specs.declared.command.Command.{Command}
use Rattle.object.specs.declared.command.Key.{Key}
use Rattle.agreement.specs.Placing.{placed_after}
use Rattle.agreement.specs.Reached.{HasPlaced}
use Rattle.agreement.specs.Runs.{IsWorld, InEvery, AfterEach}
use Rattle.agreement.specs.Steps.{Step}
use Rattle.agreement.specs.Worlds.{World}
use Rattle.agreement.specs.declared.event.Event.{Event}
use Rattle.forgetting_hall.specs.Firsts.{Performs, TellsFirsts, CountsFirsts}

-- what takes effect goes on from event to event, and events are counted; no key is submitted twice, and what is answered was
-- submitted; answers up to the reach were given before, and those past it to nobody
pub record WorldFacts {O Op Reply : Type 0} (rules : Rules O Op Reply) : Type 0 where
  pub placed : (w v : World Op Reply) (e : Event Op) (keys : List Key) → IsWorld rules w → Step rules w e v → HasPlaced w keys
      → HasPlaced v (placed_after w e keys)
  pub counted : AfterEach rules (λ w v. v.taken ≡ w.taken + 1)
  pub once : InEvery rules (λ w. SubmittedOnce w.happenings.submitted)
  pub answered_known : InEvery rules (λ w. (a : Answer Reply) → In a w.happenings.answers → is_submitted a.to w.happenings.submitted ≡ true)
  pub tells : (w : World Op Reply) (n : ℕ) (c : Command Op) → IsWorld rules w → Performs w n c → TellsFirsts rules w n c
  pub counts : (w : World Op Reply) (n : ℕ) (c : Command Op) → IsWorld rules w → Performs w n c → CountsFirsts rules w n c
