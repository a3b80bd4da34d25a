use Rattle.std.proofs.Common.{rules, ap, sym, ◌∙◌, ◌∷◌, []}
use Rattle.job_store.specs.declared.job.Job.{Job}
use Rattle.job_store.specs.Tallies.{tally_all, together}
use Rattle.job_store.specs.LookUps.{is_in}
use Rattle.job_store.proofs.counting.Tallies.{has-room, tallied-more}
use Rattle.job_store.proofs.tally.Tally.in_tube.Goals as goal

pub add-requires : goal.add-requires
add-requires c =
    has-room (is_in c.args.tube.now) c.args.jobs.now.entries c.loop-stored.tally c.loop-stored.stored-iterator
    c.into_iter-stored-iterator.ensures.into_iter_gives.1 c.loop-stored.invariant

pub loop-stored-preserved-then-eq : goal.loop-stored-preserved-then-eq
loop-stored-preserved-then-eq c =
    tallied-more (is_in c.args.tube.now) c.args.jobs.now.entries c.loop-stored.tally c.add.new.self
    (c.in-Some.field-0-0.now, c.in-Some.stored.now) c.loop-stored.stored-iterator c.next.new.self (search rules)
    (ap (λ (j : Job). is_in c.args.tube.now (c.in-Some.field-0-0.now, j)) (sym c.as_job-job.ensures) ∙ sym c.eq.ensures ∙ c.if-eq.true)
    (c.add.ensures c.in-Some.field-0-0.now ∙
    ap (λ (j : Job). together c.loop-stored.tally (tally_all ((c.in-Some.field-0-0.now, j) ∷ []))) c.as_job-job.ensures) c.loop-stored.invariant
