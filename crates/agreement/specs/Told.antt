-- What was performed is answered: what a replay answers to the commands of the slots up to the reach has been given.
use Rattle.std.specs.Prelude.{ℕ, List}
use Rattle.object.specs.Lists.{In, IsBeginning}
use Rattle.object.specs.Replays.{kept}
use Rattle.object.specs.declared.command.Answer.{Answer}
use Rattle.object.specs.declared.command.Command.{Command}
use Rattle.object.specs.Objects.{Rules}
use Rattle.agreement.specs.Worlds.{World}
use Rattle.agreement.specs.Chosen.{IsOrder}
use Rattle.object.specs.Legal.{IsGivenAt}
use Rattle.agreement.specs.Reached.{IsReached}

-- each slot up to the reach has a chosen command
abbrev pub HasSomeReach : {Op Reply : Type 0} → World Op Reply → Type 0
HasSomeReach {Op} w = (cs : List (Command Op)) × IsReached w cs

-- what is kept of those commands begins the order
abbrev pub ReachBegins : {Op Reply : Type 0} → World Op Reply → Type 0
ReachBegins {Op} w = (cs order : List (Command Op)) → IsReached w cs → IsOrder w.cluster order → IsBeginning (kept cs) order

-- each answer that one object gives which obeys what is kept of them has been given
abbrev pub TellsReached : {O Op Reply : Type 0} → Rules O Op Reply → World Op Reply → Type 0
TellsReached {O} {Op} {Reply} rules w = (cs : List (Command Op)) → IsReached w cs → (place : ℕ) (a : Answer Reply)
    → IsGivenAt rules (kept cs) place a → In a w.happenings.answers

-- and each answer that was given is one of these
abbrev pub IsGivenByReached : {O Op Reply : Type 0} → Rules O Op Reply → World Op Reply → Type 0
IsGivenByReached {O} {Op} {Reply} rules w =
    (cs : List (Command Op)) → IsReached w cs → (a : Answer Reply) → In a w.happenings.answers → (place : ℕ) × IsGivenAt rules (kept cs) place a

-- the first three together
pub record IsAnswered {O Op Reply : Type 0} (rules : Rules O Op Reply) (w : World Op Reply) : Type 0 where
  pub some : HasSomeReach w
  pub begins : ReachBegins w
  pub told : TellsReached rules w
