use Rattle.std.proofs.Common.{◌≡◌, inl, inr, ℕ, [], map, string_bytes, refl, subst, arith, Result, Ok, Err, OnOk, OnErr, IfOk, IfErr}
use Rattle.std.specs.Io.KnownBytes.{Appends}
use Rattle.bean_codec.specs.declared.profile.Profile.{Profile}
use Rattle.beanpax.specs.declared.faults.ProgramFault.{ProgramFault}
use Rattle.beanpax.specs.declared.faults.ProgramFault.TheVariants.{OutOfMemory}
use Rattle.std.proofs.KnownBytes.{Appends-nil, Consumes-nil}
use Rattle.beanpax.specs.Program.{AnswersToSomeEnd, HasInspected, IsWholeRun, WritesText}
use Rattle.beanpax.specs.Runs.{TellsBeginning}
use Rattle.options.specs.Words.{IsAskedBy, profile_asked}
use Rattle.beanpax.proofs.Served.{nothing_begins}
use Rattle.beanpax.proofs.Serving.{run_caused, shown_caused, tells_alone, tells_fault}
use Rattle.beanpax.proofs.entry.program.Goals as goal

pub returns-in-Ok-Inspect-clause-right : goal.returns-in-Ok-Inspect-clause-right
returns-in-Ok-Inspect-clause-right g c = λ done.
    let r = c.status_of.ensures.done done in
    let told = subst (λ found. IfOk found
    (HasInspected (g.W.ByteOut.contents c.args.output.now) (g.W.ByteOut.contents c.inspect_file-found.new.output)))
    r.1 c.inspect_file-found.ensures.ok in
    let asked = subst (IsAskedBy (map string_bytes c.args.words.now)) c.in-Ok-Inspect.field-0-is c.in-Ok-Inspect.ensures in
    inr (inr (inr (inr (c.in-Ok-Inspect.file.now, asked, (r.0, r.2, told), refl))))

pub returns-in-Err-clause-breaks_off : goal.returns-in-Err-clause-breaks_off
returns-in-Err-clause-breaks_off g c = λ fault run.
    let profile = profile_asked (map string_bytes c.args.words.now) in (
      [],
      [],
      Consumes-nil (g.R.ByteIn.remaining c.args.input.now),
      Appends-nil (g.W.ByteOut.contents c.args.output.now),
      nothing_begins profile (c.front_item.ensures profile) [],
    )

-- where the status tells of no fault, there was none
ok_told : (r : Result Unit ProgramFault) (status : ℕ) (P : Type 0) (X : ProgramFault → Type 0) → OnOk r P
    → IfErr r (λ fault. (status ≡ 1) × X fault) → status ≡ 0 → P
ok_told (Ok done) status P X ok err is = ok
ok_told (Err fault) status P X ok err is = let told = err.0 in absurd (omega (arith, told, is))

-- and where it tells of one, there was one
err_told : (r : Result Unit ProgramFault) (status : ℕ) (P X : Type 0) → OnErr r P → OnOk r ((status ≡ 0) × X) → status ≡ 1 → P
err_told (Ok done) status P X err ok is = let told = ok.0 in absurd (omega (arith, told, is))
err_told (Err fault) status P X err ok is = err

pub returns-in-Ok-Run-clause-right : goal.returns-in-Ok-Run-clause-right
returns-in-Ok-Run-clause-right g c = λ done.
    let asked = subst (IsAskedBy (map string_bytes c.args.words.now)) c.in-Ok-Run.field-0-is c.in-Ok-Run.ensures in
    inl (
      asked.0,
      subst (λ (p : Profile). AnswersToSomeEnd p (g.R.ByteIn.remaining c.args.input.now) (g.R.ByteIn.remaining c.run-ended.new.input)
          (g.W.ByteOut.contents c.args.output.now) (g.W.ByteOut.contents c.run-ended.new.output)) asked.1.2
          (ok_told c.run-ended.result _ _ _ c.run-ended.ensures.ok c.status_after.ensures.fault done),
    )

pub returns-in-Ok-Run-clause-whole : goal.returns-in-Ok-Run-clause-whole
returns-in-Ok-Run-clause-whole g c = λ done run.
    let asked = subst (IsAskedBy (map string_bytes c.args.words.now)) c.in-Ok-Run.field-0-is c.in-Ok-Run.ensures in
    subst (λ (p : Profile). IsWholeRun p (g.R.ByteIn.remaining c.args.input.now) (g.R.ByteIn.remaining c.run-ended.new.input)
    (g.R.ByteIn.has_ended c.run-ended.new.input) (g.W.ByteOut.contents c.args.output.now)
    (g.W.ByteOut.contents c.run-ended.new.output)) asked.1.2
    (ok_told c.run-ended.result _ _ _ c.run-ended.ensures.whole c.status_after.ensures.fault done)

pub returns-in-Ok-Run-clause-breaks_off : goal.returns-in-Ok-Run-clause-breaks_off
returns-in-Ok-Run-clause-breaks_off g c = λ failed run.
    let asked = subst (IsAskedBy (map string_bytes c.args.words.now)) c.in-Ok-Run.field-0-is c.in-Ok-Run.ensures in
    subst (λ (p : Profile). TellsBeginning p (g.R.ByteIn.remaining c.args.input.now) (g.R.ByteIn.remaining c.run-ended.new.input)
    (g.W.ByteOut.contents c.args.output.now) (g.W.ByteOut.contents c.run-ended.new.output)) asked.1.2
    (err_told c.run-ended.result _ _ _ c.run-ended.ensures.breaks_off c.status_after.ensures.done failed)

pub returns-in-Ok-Help-clause-right : goal.returns-in-Ok-Help-clause-right
returns-in-Ok-Help-clause-right g c = λ done.
    let asked = subst (IsAskedBy (map string_bytes c.args.words.now)) c.in-Ok-Help.field-0-is c.in-Ok-Help.ensures in
    inr (inl (
      asked.0,
      (
        string_bytes c.in-Ok-Help.text,
        asked.1,
        subst (Appends _ _) c.as_str.ensures.value
            (ok_told c.show_text-shown.result _ _ _ c.show_text-shown.ensures.ok c.status_after-in-Ok-Help.ensures.fault
            done),
      ),
      refl,
    ))

pub returns-in-Ok-Wrong-clause-wrong : goal.returns-in-Ok-Wrong-clause-wrong
returns-in-Ok-Wrong-clause-wrong g c = λ wrong.
    let asked = subst (IsAskedBy (map string_bytes c.args.words.now)) c.in-Ok-Wrong.field-0-is c.in-Ok-Wrong.ensures in
    inl (asked.0, (string_bytes c.in-Ok-Wrong.text, asked.1, subst (WritesText _ _ _) c.as_str-in-Ok-Wrong.ensures.value c.tell_error-in-Ok-Wrong.ensures))

pub returns-in-Ok-BadWeights-clause-begins : goal.returns-in-Ok-BadWeights-clause-begins
returns-in-Ok-BadWeights-clause-begins g c = λ no_run. ([], inl refl, (0, Appends-nil (g.W.ByteOut.contents c.args.output.now)))

pub returns-in-Ok-BadHost-clause-begins : goal.returns-in-Ok-BadHost-clause-begins
returns-in-Ok-BadHost-clause-begins g c = λ no_run. ([], inl refl, (0, Appends-nil (g.W.ByteOut.contents c.args.output.now)))

pub returns-in-Ok-Wrong-clause-begins : goal.returns-in-Ok-Wrong-clause-begins
returns-in-Ok-Wrong-clause-begins g c = λ no_run. ([], inl refl, (0, Appends-nil (g.W.ByteOut.contents c.args.output.now)))

pub returns-in-Ok-Serve-clause-fault : goal.returns-in-Ok-Serve-clause-fault
returns-in-Ok-Serve-clause-fault g c = λ failed.
    let words = map string_bytes c.args.words.now in
    let asked = subst (IsAskedBy words) c.in-Ok-Serve.field-0-is c.in-Ok-Serve.ensures in
    tells_fault words c.in-Ok-Serve.options _ _ g.E.ByteOut c.args.errors.now c.serve_tcp-ended.new.errors c.status_after-in-Ok-Serve.new.errors
    c.serve_tcp-ended.result c.status_after-in-Ok-Serve.result asked c.serve_tcp-ended.ensures.fault c.serve_tcp-ended.ensures.told
    c.status_after-in-Ok-Serve.ensures.done c.status_after-in-Ok-Serve.ensures.fault failed

pub returns-in-Ok-Run-clause-fault : goal.returns-in-Ok-Run-clause-fault
returns-in-Ok-Run-clause-fault g c = λ failed.
    let words = map string_bytes c.args.words.now in
    let asked = subst (IsAskedBy words) c.in-Ok-Run.field-0-is c.in-Ok-Run.ensures in
    tells_alone words _ _ g.E.ByteOut c.args.errors.now c.status_after.new.errors c.run-ended.result c.status_after.result
    (run_caused words _ _ g.E.ByteOut c.args.errors.now c.run-ended.result asked.0 c.run-ended.ensures.err)
    c.status_after.ensures.done c.status_after.ensures.fault failed

pub returns-in-Ok-Help-clause-fault : goal.returns-in-Ok-Help-clause-fault
returns-in-Ok-Help-clause-fault g c = λ failed.
    let words = map string_bytes c.args.words.now in
    tells_alone words _ _ g.E.ByteOut c.args.errors.now c.status_after-in-Ok-Help.new.errors c.show_text-shown.result c.status_after-in-Ok-Help.result
    (shown_caused words _ _ g.E.ByteOut c.args.errors.now c.show_text-shown.result c.show_text-shown.ensures.fault c.show_text-shown.ensures.write_failed)
    c.status_after-in-Ok-Help.ensures.done c.status_after-in-Ok-Help.ensures.fault failed

pub returns-in-Ok-Version-clause-fault : goal.returns-in-Ok-Version-clause-fault
returns-in-Ok-Version-clause-fault g c = λ failed.
    let words = map string_bytes c.args.words.now in
    tells_alone words _ _ g.E.ByteOut c.args.errors.now c.status_after-in-Ok-Version.new.errors c.show_text-shown-in-Ok-Version.result
    c.status_after-in-Ok-Version.result
    (shown_caused words _ _ g.E.ByteOut c.args.errors.now c.show_text-shown-in-Ok-Version.result c.show_text-shown-in-Ok-Version.ensures.fault
    c.show_text-shown-in-Ok-Version.ensures.write_failed)
    c.status_after-in-Ok-Version.ensures.done c.status_after-in-Ok-Version.ensures.fault failed

pub returns-in-Err-clause-fault : goal.returns-in-Err-clause-fault
returns-in-Err-clause-fault g c = λ failed. (
  OutOfMemory,
  c.args.errors.now,
  c.args.errors.now,
  tt,
  record { more = inl refl; silent = λ none. refl },
  refl,
  c.status_after-in-Err.ensures.fault.1,
)
