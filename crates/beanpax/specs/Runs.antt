-- A run over streams whose bytes may be known.
use Rattle.std.specs.Prelude.{ℕ, List, Option, Result, IfOk, OnErr}
use Rattle.bean_codec.specs.declared.profile.Profile.{Profile}
use Rattle.session.specs.declared.faults.End.{End}
use Rattle.session.specs.declared.faults.SessionFault.{SessionFault}
use Rattle.session.specs.Serving.{Over}
use Rattle.session.specs.StreamStates.{LeavesStreams, StreamState}
use Rattle.beanpax.specs.Told.{AreAnswersTold, BeginsTold}

-- the reader gave an input, and the writer took all that the client is told for it in this profile
abbrev pub TellsAll : Profile → Option (List ℕ) → Option (List ℕ) → Option (List ℕ) → Option (List ℕ) → End → Type 0
TellsAll profile left rest held holds end = Over left rest held holds (λ input output. AreAnswersTold profile input output end)

-- the reader gave an input, and the writer took a beginning of what the client is told for it in this profile
abbrev pub TellsBeginning : Profile → Option (List ℕ) → Option (List ℕ) → Option (List ℕ) → Option (List ℕ) → Type 0
TellsBeginning profile left rest held holds = Over left rest held holds (BeginsTold profile)

-- What a run in this profile has told that found its streams so and left them so: all, and where it broke off a beginning.
pub record RunsOver (profile : Profile) (before after : StreamState) (result : Result End SessionFault) : Type 0 where
  pub answers : IfOk result (TellsAll profile before.remaining after.remaining before.contents after.contents)
  pub breaks_off : OnErr result (TellsBeginning profile before.remaining after.remaining before.contents after.contents)
  pub streams : LeavesStreams before after result
