-- What is known of a loop's client.
use Rattle.std.specs.Prelude.{Bool, true, false, Result, Ok, Err}
use Rattle.hall.specs.declared.error.HallError.{HallError}
use Rattle.hall.specs.declared.error.HallError.TheVariants.{OutOfMemory}
use Rattle.conversation.specs.declared.stage.Stage.{Stage}
use Rattle.conversation.specs.declared.stage.Stage.TheVariants.{Left}

-- the session's end was handed in
abbrev pub has_ended : Stage → Bool
has_ended (Left how) = true
has_ended _ = false

-- handing in has ended so that the session is given up: it was refused, and not for want of memory
abbrev pub gives_up_at : Result Unit HallError → Bool
gives_up_at (Ok done) = false
gives_up_at (Err OutOfMemory) = false
gives_up_at (Err _) = true
