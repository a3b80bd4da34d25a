-- What a client is told for the bytes that it sent.
use Rattle.std.specs.Prelude.{◌≡◌, ℕ, List, ◌++◌}
use Rattle.bean_codec.specs.declared.profile.Profile.{Profile}
use Rattle.bean_codec.specs.Grammar.{Item}
use Rattle.session.specs.declared.faults.End.{End}
use Rattle.session.specs.Items.{Response, Reads, operations, told_text}
use Rattle.beanpax.specs.Sessions.{AreQueueAnswers, AreFirstQueueAnswers}

-- one queue answers so to the operations that the input spells in this profile, the output is what the client is told then, and
-- the session ends so
abbrev pub IsToldWith : Profile → List Response → List ℕ → List ℕ → End → Type 0
IsToldWith profile answers input output end =
    (items : List Item) ×
    Reads profile input items end ×
    AreQueueAnswers (operations items) answers ×
    (output ≡ told_text items answers)

-- whichever operations were refused
abbrev pub AreAnswersTold : Profile → List ℕ → List ℕ → End → Type 0
AreAnswersTold profile input output end = (answers : List Response) × IsToldWith profile answers input output end

-- the output is a beginning of what the client is told for this input in this profile
abbrev pub BeginsTold : Profile → List ℕ → List ℕ → Type 0
BeginsTold profile input output =
    (items : List Item) × (end : End) × (answers : List Response) × (more : List ℕ) ×
    Reads profile input items end ×
    AreFirstQueueAnswers (operations items) answers ×
    (output ++ more ≡ told_text items answers)
