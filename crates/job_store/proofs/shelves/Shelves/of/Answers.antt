use Rattle.std.proofs.Common.{rules, ◌≡◌, ◌∙◌, [], ap, subst, sym}
use Rattle.job_store.specs.Spots.{spot_of}
use Rattle.job_store.proofs.shelving.Shelving.{ArePut, none-put, one-put, all-put}
use Rattle.job_store.proofs.shelves.Shelves.of.Goals as goal

pub loop-id-init : goal.loop-id-init
loop-id-init c =
    let all : c.into_iter-id-iterator.result ≡ c.args.jobs.now.entries = search rules in
    subst (λ rest. ArePut c.new-shelves.result rest c.args.jobs.now.entries) (sym all)
    (none-put c.new-shelves.result c.args.jobs.now.entries c.new-shelves.ensures.shelves c.new-shelves.ensures.listed)

pub loop-id-preserved-in_ok-put_everywhere : goal.loop-id-preserved-in_ok-put_everywhere
loop-id-preserved-in_ok-put_everywhere c =
    one-put c.loop-id.shelves c.put_everywhere.new.self
    (c.in-Some.id.now, c.in-Some.stored.now) c.in_ok-spot.spot c.loop-id.id-iterator c.next.new.self
    c.args.jobs.now.entries (search rules) (c.in_ok-spot.ensures ∙ ap spot_of c.as_job.ensures)
    c.in_ok-put_everywhere.ensures.come c.in_ok-put_everywhere.ensures.put c.loop-id.invariant

pub loop-id-preserved : goal.loop-id-preserved
loop-id-preserved c =
    one-put c.loop-id.shelves c.put_everywhere.new.self
    (c.in-Some.id.now, c.in-Some.stored.now) c.in_ok-spot.spot c.loop-id.id-iterator c.next.new.self
    c.args.jobs.now.entries (search rules) (c.in_ok-spot.ensures ∙ ap spot_of c.as_job.ensures)
    c.in_ok-put_everywhere.ensures.come c.in_ok-put_everywhere.ensures.put c.loop-id.invariant

pub returns : goal.returns
returns c =
    let none : c.loop-id.id-iterator ≡ [] = search rules in
    all-put c.loop-id.shelves c.loop-id.id-iterator c.args.jobs.now.entries c.requires none c.loop-id.invariant
