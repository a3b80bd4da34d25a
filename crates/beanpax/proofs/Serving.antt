-- A server as the program that was asked for it.
use Rattle.std.proofs.Common.{◌≡◌, ◌≢◌, inl, inr, ℕ, Bool, true, List, None, Result, Ok, Err, OnOk, OnErr, IfErr, refl, sym, subst, arith}
use Rattle.session.specs.declared.streams.ByteOut.{Ghosts as ByteOut}
use Rattle.beanpax.specs.declared.faults.ProgramFault.{ProgramFault}
use Rattle.beanpax.specs.declared.faults.ProgramFault.TheVariants.{OutOfMemory, BadNumber, ReadFailed, WriteFailed}
use Rattle.beanpax.specs.declared.faults.ProgramFault.TheVariants.{ServiceStopped, ListenFailed, FileFailed}
use Rattle.beanpax.specs.declared.faults.ProgramFault.TheVariants.{ThreadFailed, LogDamaged}
use Rattle.options.specs.declared.words.ServerOptions.{ServerOptions}
use Rattle.beanpax.specs.Faults.{fault_line_text}
use Rattle.beanpax.specs.Program.{IsCaused, IsServingFault, IsRunFault, TellsCauseOf, TellsOfLog, TellsOfServing, WritesText}
use Rattle.options.specs.Words.{AskForLog, AskForRun, AskForServer}

-- its fault
is_caused : (words : List (List ℕ)) (options : ServerOptions) (fault : ProgramFault) (input_failed output_failed : Bool)
    → AskForServer words options → IsServingFault options output_failed fault → IsCaused words fault input_failed output_failed
is_caused words options OutOfMemory i o asked is = tt
is_caused words options BadNumber i o asked is = asked.0
is_caused words options ListenFailed i o asked is = asked.0
is_caused words options ThreadFailed i o asked is = asked.0
is_caused words options ReadFailed i o asked is = absurd is
is_caused words options ServiceStopped i o asked is = absurd is
is_caused words options WriteFailed i o asked (inl failed) = inl failed
is_caused words options WriteFailed i o asked (inr has) = inr (options, asked, has)
is_caused words options FileFailed i o asked (inl has) = inl (options, asked, has)
is_caused words options FileFailed i o asked (inr has) = inr (inl (options, asked, has))
is_caused words options (LogDamaged line) i o asked is = (options, asked, is)

-- what it tells of its log
of_log : {E : Type 0} (words : List (List ℕ)) (options : ServerOptions) (writes : ByteOut E) (old new : E) → AskForServer words options
    → TellsOfLog (options.log ≢ None) writes old new → TellsOfLog (AskForLog words) writes old new
of_log words options writes old new asked h = record { more = h.more; silent = λ none. h.silent (λ has. none (options, asked, has)) }

-- and what the program tells then
pub tells_fault : {E : Type 0} (words : List (List ℕ)) (options : ServerOptions) (input_failed output_failed : Bool) (writes : ByteOut E) (old middle new : E)
    (r : Result Unit ProgramFault) (status : ℕ) → AskForServer words options → IfErr r (IsServingFault options output_failed)
    → TellsOfServing (options.log ≢ None) writes r old middle → OnOk r ((status ≡ 0) × (new ≡ middle))
    → IfErr r (λ fault. (status ≡ 1) × WritesText (writes.contents middle) (writes.contents new) (writes.has_failed new) (fault_line_text fault))
    → status ≡ 1
    → (fault : ProgramFault) × (after_log before : E) × IsCaused words fault input_failed output_failed
    × TellsOfLog (AskForLog words) writes old after_log × TellsCauseOf writes fault after_log before
    × WritesText (writes.contents before) (writes.contents new) (writes.has_failed new) (fault_line_text fault)
tells_fault words options i o writes old middle new (Ok done) status asked is told ok err failed =
    let well = ok.0 in absurd (omega (arith, well, failed))
tells_fault words options i o writes old middle new (Err fault) status asked is told ok err failed = (
  fault,
  told.0,
  middle,
  is_caused words options fault i o asked is,
  of_log words options writes old told.0 asked told.1,
  told.2.cause,
  err.1,
)

-- what a run tells of its fault
run_told : {E : Type 0} (words : List (List ℕ)) (fault : ProgramFault) (input_failed output_failed : Bool) (writes : ByteOut E) (old : E) → AskForRun words
    → IsRunFault input_failed output_failed fault → IsCaused words fault input_failed output_failed × TellsCauseOf writes fault old old
run_told words OutOfMemory i o writes old asked is = (tt, refl)
run_told words ReadFailed i o writes old asked is = (is, refl)
run_told words WriteFailed i o writes old asked is = (inl is, inl refl)
run_told words ServiceStopped i o writes old asked is = (asked, refl)
run_told words BadNumber i o writes old asked is = absurd is
run_told words ListenFailed i o writes old asked is = absurd is
run_told words ThreadFailed i o writes old asked is = absurd is
run_told words FileFailed i o writes old asked is = absurd is
run_told words (LogDamaged line) i o writes old asked is = absurd is

pub run_caused : {E : Type 0} (words : List (List ℕ)) (input_failed output_failed : Bool) (writes : ByteOut E) (old : E) (r : Result Unit ProgramFault)
    → AskForRun words → IfErr r (IsRunFault input_failed output_failed)
    → IfErr r (λ fault. IsCaused words fault input_failed output_failed × TellsCauseOf writes fault old old)
run_caused words i o writes old (Ok done) asked is = tt
run_caused words i o writes old (Err fault) asked is = run_told words fault i o writes old asked is

-- what is told where an output failed
pub shown_caused : {E : Type 0} (words : List (List ℕ)) (input_failed output_failed : Bool) (writes : ByteOut E) (old : E) (r : Result Unit ProgramFault)
    → IfErr r (λ fault. fault ≡ WriteFailed) → OnErr r (output_failed ≡ true)
    → IfErr r (λ fault. IsCaused words fault input_failed output_failed × TellsCauseOf writes fault old old)
shown_caused words i o writes old (Ok done) is failed = tt
shown_caused words i o writes old (Err fault) is failed =
    subst (λ f. IsCaused words f i o × TellsCauseOf writes f old old) (sym is) (inl failed, inl refl)

-- a fault with no cause of its own is told by its line alone
pub tells_alone : {E : Type 0} (words : List (List ℕ)) (input_failed output_failed : Bool) (writes : ByteOut E) (old new : E)
    (r : Result Unit ProgramFault) (status : ℕ)
    → IfErr r (λ fault. IsCaused words fault input_failed output_failed × TellsCauseOf writes fault old old) → OnOk r ((status ≡ 0) × (new ≡ old))
    → IfErr r (λ fault. (status ≡ 1) × WritesText (writes.contents old) (writes.contents new) (writes.has_failed new) (fault_line_text fault))
    → status ≡ 1
    → (fault : ProgramFault) × (after_log before : E) × IsCaused words fault input_failed output_failed
    × TellsOfLog (AskForLog words) writes old after_log × TellsCauseOf writes fault after_log before
    × WritesText (writes.contents before) (writes.contents new) (writes.has_failed new) (fault_line_text fault)
tells_alone words i o writes old new (Ok done) status is ok err failed = let well = ok.0 in absurd (omega (arith, well, failed))
tells_alone words i o writes old new (Err fault) status is ok err failed =
    (fault, old, old, is.0, record { more = inl refl; silent = λ none. refl }, is.1, err.1)
