use Rattle.std.proofs.Common.{◌≡◌, ◌∙◌, ℕ, ap, sym, refl, None, BTreeMap}
use Rattle.std.specs.Option.{option_copied_mut}
use Rattle.job_store.specs.declared.job.Job.{Job}
use Rattle.job_store.specs.Entries.{value_at}
use Rattle.job_store.specs.Undone.{set_to}
use Rattle.job_store.specs.EntryLaws.{altered-absent}
use Rattle.job_store.proofs.maps.Entries.{set_value-altered}
use Rattle.job_store.proofs.undo.set_to.Goals as goal

pub returns-in-Some : goal.returns-in-Some
returns-in-Some c =
    ap (λ (j : Job). (c.get_mut.follows.lender j).entries) c.set.ensures ∙
    (c.get_mut.follows.holds (set_to c.args.pri c.args.state c.args.history c.in-Some.stored.now)).0 ∙
    set_value-altered c.args.id _ _
    (set_to c.args.pri c.args.state c.args.history) c.in-Some.stored.now _ c.args.jobs.now.entries
    c.requires (sym c.in-Some.ensures.value) refl

pub returns-in_default : goal.returns-in_default
returns-in_default c =
    let none : value_at c.args.id c.args.jobs.now.entries ≡ None = sym c.get_mut.ensures.value ∙ ap option_copied_mut c.in_default.is in
    ap (λ (m : BTreeMap ℕ Job). m.entries) c.get_mut.follows.holds-at-none ∙
    sym (altered-absent c.args.id (set_to c.args.pri c.args.state c.args.history) c.args.jobs.now.entries none)
