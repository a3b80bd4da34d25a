use Rattle.job_store.proofs.maps.Entries.{insert_entry-next}
use Rattle.std.proofs.Common.{◌++◌, rules, ap, sym, ◌∙◌}
use Rattle.job_store.proofs.logged_jobs.copy_of.Goals as goal

pub loop-id-preserved-in_ok-insert : goal.loop-id-preserved-in_ok-insert
loop-id-preserved-in_ok-insert c =
    insert_entry-next _ _ c.loop-id.copy.entries c.insert.new.self.entries
    (c.in-Some.id.now, c.in-Some.stored.now) c.next.new.self c.args.jobs.now.entries
    (ap (λ zs. c.loop-id.copy.entries ++ zs) (sym c.in-Some.ensures.steps) ∙ c.loop-id.invariant) c.requires
    (search rules)

pub loop-id-preserved : goal.loop-id-preserved
loop-id-preserved c =
    insert_entry-next _ _ c.loop-id.copy.entries c.insert.new.self.entries
    (c.in-Some.id.now, c.in-Some.stored.now) c.next.new.self c.args.jobs.now.entries
    (ap (λ zs. c.loop-id.copy.entries ++ zs) (sym c.in-Some.ensures.steps) ∙ c.loop-id.invariant) c.requires
    (search rules)
