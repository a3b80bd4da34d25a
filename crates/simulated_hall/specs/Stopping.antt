-- Why a request isn't carried on.
use Rattle.std.specs.Prelude.{◌≡◌, ◌≢◌, ◌⊎◌, ℕ, ◌+◌, ◌≤◌, ◌^◌, Bool, true, None}
use Rattle.object.specs.declared.command.Act.{Act}
use Rattle.object.specs.declared.command.Act.TheVariants.{Do, Close}
use Rattle.object.specs.Objects.{Rules}
use Rattle.hall.specs.Halls.{HallState}
use Rattle.hall.specs.Refusals.{is_full, submit_refusal}
use Rattle.hall.specs.Tickets.{TicketState}
use Rattle.simulated_hall.specs.OneClient.{Talk, answered, longest_wait}
use Rattle.simulated_hall.specs.Standing.{SimulatedState, StandsFor}

-- how many calls may be made for one request, with the seconds that it waits
abbrev pub most_calls : ℕ
most_calls = 100000

-- so many were made
abbrev pub HasNoCallLeft : {Op Reply : Type 0} → SimulatedState Op Reply → Type 0
HasNoCallLeft s = most_calls ≤ s.calls

-- the hall refuses an act of the ticket, and not for want of memory: it is full, or the last act has no reply or ended the
-- session, or the ticket isn't the hall's
abbrev pub RefusesAct : {Op Reply : Type 0} → (Op → Op → Bool) → HallState Op Reply → TicketState Op Reply → Act Op → Type 0
RefusesAct same hall ticket act = submit_refusal same hall ticket act 1 ≢ None

-- a client that leaves isn't let go where the calls are used up, or the hall refuses that
abbrev pub IsNotLetGo : {Op Reply : Type 0} → (Op → Op → Bool) → SimulatedState Op Reply → SimulatedState Op Reply → Type 0
IsNotLetGo same old new = HasNoCallLeft new ⊎ RefusesAct same old.hall old.ticket Close

-- no second more can pass: the hall takes no event more, or the clock shows its last second
abbrev pub HasNoSecondLeft : {Op Reply : Type 0} → SimulatedState Op Reply → Type 0
HasNoSecondLeft s = (is_full s.hall ≡ true) ⊎ (2 ^ 40 ≤ s.second)

-- 3,600 seconds passed after the request, and one object has no reply by then either
pub record HasWaited {O Op Reply : Type 0} (rules : Rules O Op Reply) (old new : SimulatedState Op Reply) (op : Op) : Type 0 where
  pub seconds : new.second ≡ old.second + longest_wait
  pub reply : (t : Talk O) → StandsFor rules old t → (answered rules t op).reply ≡ None

-- a request isn't carried on where its calls are used up, the hall refuses it, no second more can pass, or it has waited
abbrev pub IsStopped : {O Op Reply : Type 0} → Rules O Op Reply → (Op → Op → Bool) → SimulatedState Op Reply → SimulatedState Op Reply → Op → Type 0
IsStopped rules same old new op =
    HasNoCallLeft new ⊎ (RefusesAct same old.hall old.ticket (Do op) ⊎ (HasNoSecondLeft new ⊎ HasWaited rules old new op))
