use Rattle.std.proofs.Common.{◌≡◌, ◌∙◌, ℕ, ap, sym, refl, None, BTreeMap}
use Rattle.std.specs.Option.{option_copied_mut}
use Rattle.job_store.specs.declared.job.Job.{Job}
use Rattle.job_store.specs.declared.undo.Undo.{Undo}
use Rattle.job_store.specs.Entries.{value_at}
use Rattle.job_store.specs.Undone.{undone}
use Rattle.job_store.specs.EntryLaws.{altered-absent}
use Rattle.job_store.proofs.maps.Entries.{remove_entry-without, set_value-altered}
use Rattle.job_store.proofs.undo.undo_one.Goals as goal

pub returns-in-TakeOut : goal.returns-in-TakeOut
returns-in-TakeOut c =
    c.remove.ensures.entries ∙ remove_entry-without c.in-TakeOut.id _ _ _ c.requires ∙
    ap (λ (u : Undo). undone u c.args.jobs.now.entries) (sym c.in-TakeOut.is)

pub returns-in-Some : goal.returns-in-Some
returns-in-Some c =
    (c.get_mut.follows.holds c.in-PutBack.job).0 ∙
    set_value-altered c.in-PutBack.id _ _ (λ _. c.in-PutBack.job) c.in-Some.place.now _ c.args.jobs.now.entries c.requires (sym c.in-Some.ensures.value) refl ∙
    ap (λ (u : Undo). undone u c.args.jobs.now.entries) (sym c.in-PutBack.is)

pub returns-in_default : goal.returns-in_default
returns-in_default c =
    let none : value_at c.in-PutBack.id c.args.jobs.now.entries ≡ None = sym c.get_mut.ensures.value ∙ ap option_copied_mut c.in_default.is in
    ap (λ (m : BTreeMap ℕ Job). m.entries) c.get_mut.follows.holds-at-none ∙
    sym (altered-absent c.in-PutBack.id (λ _. c.in-PutBack.job) c.args.jobs.now.entries none) ∙
    ap (λ (u : Undo). undone u c.args.jobs.now.entries) (sym c.in-PutBack.is)
