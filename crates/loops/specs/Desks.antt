-- The desks of the two halls, as the loops see them.
use Rattle.std.specs.Prelude.{◌≡◌, ℕ, Bool, true, List, Result, OnOk, OnErr}
use Rattle.object.specs.Objects.{Rules}
use Rattle.object.specs.declared.command.Act.{Act}
use Rattle.object.specs.declared.command.Key.{Key}
use Rattle.agreement.specs.Runs.{IsWorld, Leads}
use Rattle.agreement.specs.Worlds.{World}
use Rattle.agreement.specs.declared.event.Event.{Event}
use Rattle.bean_words.specs.declared.op.Op.{Op}
use Rattle.hall.specs.declared.error.HallError.{HallError}
use Rattle.forgetting_hall.specs.Halls.{ForgettingState, rest_of_hall}
use Rattle.forgetting_hall.specs.Leading.{LeadsOn, LeadsTo}
use Rattle.forgetting_hall.specs.Rests.{ShowsWorld, handed_in}
use Rattle.loops.specs.Lending.{LentState, command_behind, last_lent_key}

-- a hall that forgets; the node at which is handed in; whether there is a log, and how many commands were taken for it; and the
-- ends of the sessions that are free
pub record LeanDesk (Op O Reply : Type 0) : Type 0 where
  pub hall : ForgettingState Op O Reply
  pub node : ℕ
  pub logs : Bool
  pub taken : ℕ
  pub free : List Key

-- events lead from the one world to the other
abbrev pub LeadsBy : {O Op Reply : Type 0} → Rules O Op Reply → World Op Reply → World Op Reply → Type 0
LeadsBy {O} {Op} rules w v = (events : List (Event Op)) × Leads rules w events v

-- events lead to the world, and the hall shows it
abbrev pub IsShownBy : {O Op Reply : Type 0} → Rules O Op Reply → ForgettingState Op O Reply → World Op Reply → Type 0
IsShownBy rules h w = IsWorld rules w × ShowsWorld rules (rest_of_hall rules h) w

-- each world that the one hall shows leads by further events, or by none, to one that the other shows
abbrev pub LeanGoesOn : {O Op Reply : Type 0} → Rules O Op Reply → ForgettingState Op O Reply → ForgettingState Op O Reply → Type 0
LeanGoesOn {O} {Op} {Reply} rules h z = (w : World Op Reply) → IsShownBy rules h w → LeadsTo rules w z

-- the hall gathers what takes effect
abbrev pub gathering_on : {Op O Reply : Type 0} → ForgettingState Op O Reply → ForgettingState Op O Reply
gathering_on h = record h { gathering = record h.gathering { is_on = true } }

-- The act is handed in at the desk's node, as the command that comes after the ticket's last one; or nothing happens.
pub record HandsInLean {O Reply : Type 0} (rules : Rules O Op Reply) (old : LeanDesk Op O Reply) (ticket : LentState)
    (act : Act Op) (result : Result Unit HallError) (new : LeanDesk Op O Reply) : Type 0 where
  pub ok : OnOk result (rest_of_hall rules new.hall
      ≡ handed_in rules (rest_of_hall rules old.hall) old.node (command_behind (last_lent_key ticket) act))
  pub err : OnErr result (new ≡ old)
  pub free : new.free ≡ old.free
  pub leads : LeadsOn rules old.hall new.hall
