use Rattle.std.proofs.Common.{◌≡◌, ◌∙◌, ℕ, ap, sym, refl, None, BTreeMap, nat_cmp}
use Rattle.std.proofs.lemmas.Map.Steps.{set_value_same}
use Rattle.std.specs.BTreeMap.{is_at}
use Rattle.std.specs.Option.{option_copied_mut}
use Rattle.object.proofs.KeyMaps.{on_err}
use Rattle.job_store.specs.declared.job.Job.{Job}
use Rattle.job_store.specs.Entries.{value_at}
use Rattle.job_store.specs.Histories.{after_mark}
use Rattle.job_store.specs.States.{marked_at}
use Rattle.job_store.specs.Undone.{set_to}
use Rattle.job_store.specs.EntryLaws.{altered-absent}
use Rattle.job_store.proofs.maps.Entries.{set_value-altered}
use Rattle.job_store.proofs.maps.Undone.{noted-none}
use Rattle.job_store.proofs.changes.make.Goals as goal

pub returns-clause-jobs : goal.returns-clause-jobs
returns-clause-jobs c =
    ap (λ (j : Job). (c.get_mut.follows.lender j).entries)
    (c.set.ensures ∙
    ap (λ h. set_to c.args.change.now.pri c.args.change.now.state h c.in-Some.stored.now) c.marked-history.ensures ∙
    ap (λ (j : Job). set_to c.args.change.now.pri c.args.change.now.state (after_mark c.args.change.now.mark j.history) c.in-Some.stored.now)
    c.as_job-job.ensures) ∙
    (c.get_mut.follows.holds (marked_at c.args.change.now.pri c.args.change.now.state c.args.change.now.mark c.in-Some.stored.now)).0 ∙
    set_value-altered c.args.change.now.id _ _
    (marked_at c.args.change.now.pri c.args.change.now.state c.args.change.now.mark) c.in-Some.stored.now _ c.args.jobs.now.entries
    c.requires (sym c.in-Some.ensures.value) refl

pub returns-in_default-clause-jobs : goal.returns-in_default-clause-jobs
returns-in_default-clause-jobs c =
    let none : value_at c.args.change.now.id c.args.jobs.now.entries ≡ None = sym c.get_mut.ensures.value ∙ ap option_copied_mut c.in_default.is in
    ap (λ (m : BTreeMap ℕ Job). m.entries) c.get_mut.follows.holds-at-none ∙
    sym (altered-absent c.args.change.now.id (marked_at c.args.change.now.pri c.args.change.now.state c.args.change.now.mark) c.args.jobs.now.entries none)

pub returns-in_default-clause-log : goal.returns-in_default-clause-log
returns-in_default-clause-log c =
    noted-none c.args.is_trial c.args.change.now.id _ c.args.log.now.items (sym c.get_mut.ensures.value ∙ ap option_copied_mut c.in_default.is)

pub returns-in_err-note-clause-jobs_stay : goal.returns-in_err-note-clause-jobs_stay
returns-in_err-note-clause-jobs_stay c =
    on_err c.from_residual.result ((c.get_mut.follows.holds c.in-Some.stored.now).0 ∙
    set_value_same (is_at (nat_cmp c.args.change.now.id)) c.args.jobs.now.entries c.in-Some.stored.now (sym c.in-Some.ensures.value))
